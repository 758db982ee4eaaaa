-- What becomes of a part that comes to the room of a context.
use Rattle.rules.specs.Causes.{Cause, FilesGoBack, LimitPassed, ByCause, Ok, Err}
use Rattle.std.specs.Prelude.{Option, None, Some, false, List, [], ◌∷◌, ◌≡◌, ℕ, ◌<◌}
use Rattle.maps.specs.Lists.{or_else}
use Rattle.maps.specs.Maps.{Map, lookup, store, numbers}
use Rattle.maps.specs.MapLaws.{pair}
use Rattle.rules.specs.Context.{Part, waiting_fits}
use Rattle.rules.specs.Waiting.{wait, finish, back, accept, some_parts}
use Rattle.room.specs.Rooms.{newest, cell_of}
use Rattle.room.specs.Layout.{context_cells, waiting_of, tagged, head_part, ContextRoom}

-- ---- a part that comes

-- the parts of group g among those that wait
unfoldable pub parts_at : ℕ → Map ℕ (List Part) → List Part
parts_at g w = or_else [] (λ (ps : List Part). ps) (lookup numbers g w)

-- these parts of group g wait afterwards
pub record Waited (g : ℕ) (new : Part) (ws vs ws' vs' : List ℕ) : Type 0 where
  pub parts : List Part
  pub accepts : accept (parts_at g (waiting_of ws vs)) new ≡ wait parts
  pub waiting : waiting_of ws' vs' ≡ store numbers g (some_parts parts) (waiting_of ws vs)
  pub room : ContextRoom ws' vs'

-- with these parts a limit would be passed
pub record Passing (g : ℕ) (new : Part) (ws vs : List ℕ) : Type 0 where
  pub parts : List Part
  pub accepts : accept (parts_at g (waiting_of ws vs)) new ≡ wait parts
  pub passes : waiting_fits (store numbers g (some_parts parts) (waiting_of ws vs)) ≡ false

-- the part finishes the newest one of cell k
pub record Finishing (g : ℕ) (new : Part) (k : ℕ) (ws vs : List ℕ) : Type 0 where
  pub others : List Part
  pub accepts : accept (parts_at g (waiting_of ws vs)) new ≡ finish (newest (head_part k ws vs) (tagged ws vs)) others
  pub inside : k < context_cells
  pub cell : cell_of (head_part k ws vs) (tagged ws vs) ≡ Some (pair g (newest (head_part k ws vs) (tagged ws vs) ∷ others))

-- the part is refused: a limit would be passed, or files go back
pub record Refusing (g : ℕ) (new : Part) (ws vs : List ℕ) (e : Cause) : Type 0 where
  pub passes : e ≡ LimitPassed → Passing g new ws vs
  pub goes_back : (e ≡ LimitPassed → ⊥) → (e ≡ FilesGoBack) × (accept (parts_at g (waiting_of ws vs)) new ≡ back)

abbrev pub AcceptedAs : ℕ → Part → List ℕ → List ℕ → ByCause (Option ℕ) → List ℕ → List ℕ → Type 0
AcceptedAs g new ws vs (Ok None) ws' vs' = Waited g new ws vs ws' vs'
AcceptedAs g new ws vs (Ok (Some k)) ws' vs' = Finishing g new k ws vs × (ws' ≡ ws) × (vs' ≡ vs)
AcceptedAs g new ws vs (Err e) ws' vs' = Refusing g new ws vs e × (ws' ≡ ws) × (vs' ≡ vs)

-- ---- the newest part of cell k is taken out

pub record TookFinished (k : ℕ) (ws vs ws' vs' : List ℕ) : Type 0 where
  pub waiting : (g : ℕ) (p : Part) (ps : List Part) → cell_of (head_part k ws vs) (tagged ws vs) ≡ Some (pair g (p ∷ ps)) → waiting_of ws' vs' ≡ store numbers g (some_parts ps) (waiting_of ws vs)
  pub room : ContextRoom ws' vs'
