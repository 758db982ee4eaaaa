-- What becomes of the part of a marked batch that comes to an area.
use Rattle.rules.specs.Causes.{Cause, Refusal, number_of, LimitPassed, ByCause, Ok, Err}
use Rattle.std.specs.Prelude.{cond, eqb, Option, Some, None, true, List, ◌≡◌, ℕ}
use Rattle.maps.specs.Maps.{store, numbers}
use Rattle.rules.specs.Context.{Part, with_waiting, waiting_fits}
use Rattle.rules.specs.Waiting.{wait, accept, some_parts}
use Rattle.room.specs.Layout.{waiting_of}
use Rattle.waiting.specs.Accepts.{parts_at, Refusing, Finishing}
use Rattle.contexts.specs.Contexts.{waiting_numbers, waiting_bytes, context_of, Formed}

-- these parts of group g wait afterwards
pub record WaitedIn (g : ℕ) (new : Part) (xs bs xs' bs' : List ℕ) : Type 0 where
  pub parts : List Part
  pub accepts : accept (parts_at g (waiting_of (waiting_numbers xs) (waiting_bytes bs))) new ≡ wait parts
  pub fits : waiting_fits (store numbers g (some_parts parts) (waiting_of (waiting_numbers xs) (waiting_bytes bs))) ≡ true
  pub context-is : context_of xs' bs' ≡ with_waiting (store numbers g (some_parts parts) (waiting_of (waiting_numbers xs) (waiting_bytes bs))) (context_of xs bs)
  pub formed : Formed xs' bs'

-- all is as it was
pub record AllSame (xs bs xs' bs' : List ℕ) : Type 0 where
  pub numbers : xs' ≡ xs
  pub bytes : bs' ≡ bs

abbrev pub AcceptedIn : ℕ → Part → List ℕ → List ℕ → ByCause (Option ℕ) → List ℕ → List ℕ → Type 0
AcceptedIn g new xs bs (Ok None) xs' bs' = WaitedIn g new xs bs xs' bs'
AcceptedIn g new xs bs (Err e) xs' bs' = Refusing g new (waiting_numbers xs) (waiting_bytes bs) e × AllSame xs bs xs' bs'
AcceptedIn g new xs bs (Ok (Some k)) xs' bs' = Finishing g new k (waiting_numbers xs) (waiting_bytes bs) × AllSame xs bs xs' bs'

-- the refusal of a part that can't wait: a limit is met at the mark, and files go back at no item
unfoldable pub refusal_at : Cause → ℕ → Refusal
refusal_at e at = record { cause = e; place = cond (eqb (number_of e) (number_of LimitPassed)) (Some at) None }
