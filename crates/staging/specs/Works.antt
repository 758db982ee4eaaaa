-- What the functions that work one group promise.
use Rattle.std.specs.Prelude.{List, ◌≡◌, ℕ, ◌+◌, drop}
use Rattle.std.specs.Prelude.{Option, Some}
use Rattle.maps.specs.MapLaws.{pair, laid}
use Rattle.rules.specs.Causes.{ByCause, Result, Ok}
use Rattle.rules.specs.Items.{Append, Rewrite}
use Rattle.rules.specs.Table.{Table}
use Rattle.rules.specs.Calls.{join_table}
use Rattle.rules_by_group.specs.Group.{lay_over}
use Rattle.stretch.specs.Stretch as stretch
use Rattle.groups.specs.Area.{slots, stretch_at, bytes_at, cell_at, Only}
use Rattle.worktable.specs.declared.Mode.{Mode}
use Rattle.worktable.specs.declared.Mode.TheVariants as mode
use Rattle.worktable.specs.Calls.{Becomes, Ends}
use Rattle.staging.specs.Staging.{long_numbers, long_bytes, Working}

-- a newer table, if there is one, laid over
unfoldable pub laid_by : Mode → Option Table → Option Table → Result (Option Table)
laid_by mode.Append newer o = lay_over Append newer o
laid_by mode.Rewrite newer o = lay_over Rewrite newer o
laid_by mode.Join newer o = Ok (laid join_table o newer)

-- the work table of an area has become o, and nothing else is changed
pub record Loaded (o : Option Table) (xs bs xs' bs' : List ℕ) : Type 0 where
  pub becomes : Becomes o (drop long_numbers xs') (drop long_bytes bs')
  pub working : Working xs bs xs' bs'

-- the work on a group ends with x
pub record WorkedAs (x : Result (Option Table)) (xs bs : List ℕ) (r : ByCause (Unit {0})) (xs' bs' : List ℕ) : Type 0 where
  pub ends : Ends x r (drop long_numbers xs') (drop long_bytes bs')
  pub working : Working xs bs xs' bs'

-- spare stretch k holds the table t of group g, and nothing else is changed
pub record Unloaded (g : ℕ) (t : Table) (k : ℕ) (xs bs xs' bs' : List ℕ) : Type 0 where
  pub cell : cell_at (slots + k) xs' bs' ≡ Some (pair g t)
  pub wf : stretch.Wf (stretch_at (slots + k) xs') (bytes_at (slots + k) bs')
  pub only : Only (slots + k) xs bs xs' bs'
