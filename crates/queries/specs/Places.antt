-- Where a group of a context stands, and what its table is there.
use Rattle.std.specs.Prelude.{List, ◌≡◌, ℕ, ◌<◌, None, Some}
use Rattle.maps.specs.Maps.{lookup, numbers}
use Rattle.rules.specs.Causes.{Cause, ByCause, Ok, Err, GroupAbsent}
use Rattle.stretch.specs.Stretch.{table_in}
use Rattle.stretch.specs.Stretch as stretch
use Rattle.groups.specs.Area.{slots, stretch_at, bytes_at}
use Rattle.contexts.specs.Contexts.{context_of}

pub record StandsAt (g : ℕ) (xs bs : List ℕ) (k : ℕ) : Type 0 where
  pub inside : k < slots
  pub wf : stretch.Wf (stretch_at k xs) (bytes_at k bs)
  pub table : lookup numbers g (context_of xs bs).groups ≡ Some (table_in (stretch_at k xs) (bytes_at k bs))

-- the answer to where a group stands: its stretch, or the refusal of an absent one
pub record Stands (g : ℕ) (xs bs : List ℕ) (r : ByCause ℕ) : Type 0 where
  pub at : (k : ℕ) → r ≡ Ok k → StandsAt g xs bs k
  pub absent : (e : Cause) → r ≡ Err e → (e ≡ GroupAbsent) × (lookup numbers g (context_of xs bs).groups ≡ None)
