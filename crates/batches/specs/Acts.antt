-- What an item's deed does to the groups of an area, and what a refused batch can still go back to.
use Rattle.std.specs.Prelude.{Bool, false, List, ◌≡◌, ℕ, take, drop}
use Rattle.maps.specs.Maps.{Map, remove, numbers}
use Rattle.rules.specs.Causes.{Cause, ByCause, Err, Result, Ok}
use Rattle.rules.specs.Table.{Table}
use Rattle.stretch.specs.Changes.{outcome_as, rule_of}
use Rattle.groups.specs.Area.{numbers_in_use, bytes_in_use, cells, groups_of}
use Rattle.groups.specs.Area as groups
use Rattle.groups.specs.Calls.{on_group}
use Rattle.groups.specs.Undo.{live_numbers, undone_cells, Undoable}
use Rattle.deeds.specs.declared.Deed as deed

-- what a deed does to the groups
unfoldable pub deed_on : deed.Deed → ℕ → List ℕ → List ℕ → List ℕ → Map ℕ Table → Result (Map ℕ Table)
deed_on deed.TheVariants.Skip g rows key value m = Ok m
deed_on deed.TheVariants.Clean g rows key value m = Ok (remove numbers g m)
deed_on (deed.TheVariants.Change ch) g rows key value m = on_group (rule_of ch rows key value) g m

-- what the stretches go back to is as it was
pub record UndoKept (xs bs xs' bs' : List ℕ) : Type 0 where
  pub undone : undone_cells xs' bs' ≡ undone_cells xs bs
  pub undoable : Undoable xs' bs'

-- what lies behind the groups is as it was
pub record BehindKept (xs bs xs' bs' : List ℕ) : Type 0 where
  pub numbers : drop numbers_in_use xs' ≡ drop numbers_in_use xs
  pub bytes : drop bytes_in_use bs' ≡ drop bytes_in_use bs

-- what is asked for may be written, unless no item follows; what the stretches are and go back to is as it was
pub record SecuredUnless (last : Bool) (asked : List ℕ → Type 0) (xs bs xs' bs' : List ℕ) : Type 0 where
  pub live : take live_numbers xs' ≡ take live_numbers xs
  pub cells_stay : cells xs' bs' ≡ cells xs bs
  pub undone : undone_cells xs' bs' ≡ undone_cells xs bs
  pub undoable : Undoable xs' bs'
  pub secured : last ≡ false → asked xs'
  pub behind : BehindKept xs bs xs' bs'
  pub wf : groups.Wf xs' bs'

-- the groups are changed by a rule. Err, they are as they were; and unless it was the last item, the batch can go back.
pub record Acted (to : Map ℕ Table → Result (Map ℕ Table)) (last : Bool) (xs bs : List ℕ) (r : ByCause (Unit {0})) (xs' bs' : List ℕ) : Type 0 where
  pub rule : outcome_as r (groups_of xs' bs') ≡ to (groups_of xs bs)
  pub left : (n : Cause) → r ≡ Err n → cells xs' bs' ≡ cells xs bs
  pub left-undo : (n : Cause) → r ≡ Err n → UndoKept xs bs xs' bs'
  pub kept : last ≡ false → UndoKept xs bs xs' bs'
  pub behind : BehindKept xs bs xs' bs'
  pub wf : groups.Wf xs' bs'
