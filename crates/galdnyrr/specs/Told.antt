-- Answers, files and gates as numbers.
use Rattle.std.specs.Prelude.{Bool, cond, List, ◌≡◌, ℕ}
use Rattle.std.specs.Prelude.{Option, None, Some}
use Rattle.maps.specs.Lists.{or_else}
use Rattle.pipe_log.specs.Causes as causes
use Rattle.rules.specs.Causes.{Result, Ok, Err, left}
use Rattle.rules.specs.Items.{FileId}
use Rattle.rules.specs.Context.{Context}
use Rattle.pipe_log.specs.Rows.{queue_at}
use Rattle.contexts.specs.Contexts.{context_of, Wf}

-- the place of a refusal that was met at no item
abbrev pub no_place : ℕ
no_place = 0xffff_ffff_ffff_ffff

-- 0 for what was accepted, else the cause's number
unfoldable pub number_of : {A : Type 0} → Result A → ℕ
number_of (Ok a) = 0
number_of (Err r) = causes.number_of r.cause

-- the position of the item that was refused, where the refusal has one
unfoldable pub place_of : {A : Type 0} → Result A → ℕ
place_of (Ok a) = no_place
place_of (Err r) = or_else no_place (λ i. i) r.place

-- a queue's number is 0 for Append, and any other for Rewrite
unfoldable pub file_of : ℕ → ℕ → FileId
file_of queue seq = record { queue = queue_at queue; seq = seq }

unfoldable pub gate_or : Bool → ℕ → Option ℕ
gate_or gated gate = cond gated (Some gate) None

-- a call that writes: number and place are the rules', and the area stands for the state that the rules leave
pub record Told (call : Context → Result Context) (xs bs : List ℕ) (number place : ℕ) (xs' bs' : List ℕ) : Type 0 where
  pub number_is : number ≡ number_of (call (context_of xs bs))
  pub place_is : place ≡ place_of (call (context_of xs bs))
  pub leaves : context_of xs' bs' ≡ left (context_of xs bs) (call (context_of xs bs))
  pub wf : Wf xs' bs'
