-- What the calls on groups promise.
use Rattle.std.specs.Prelude.{cond, false, ◌&&◌, List, ◌≡◌, ℕ, leb, length}
use Rattle.maps.specs.Maps.{Map, lookup, insert, remove, numbers}
use Rattle.rules.specs.Causes.{Cause, ByCause, Err, Result, Ok, refuse, and_then, LimitPassed}
use Rattle.rules.specs.Limits.{max_groups}
use Rattle.rules.specs.Table.{Table, made}
use Rattle.rules.specs.Context.{table_fits}
use Rattle.stretch.specs.Changes.{outcome_as, Changed}
use Rattle.stretch.specs.declared.Change.{Change}
use Rattle.stretch.specs.Stretch.{head_part}
use Rattle.stretch.specs.Reach.{entry_most, row_from, writes_keys, Leaves}
use Rattle.cells.specs.declared.Slot.{Slot}
use Rattle.cells.specs.declared.Slot.TheVariants.{At, Free, Full}
use Rattle.groups.specs.Area.{stretch_at, bytes_at, cells, groups_of, Wf, Only, OnlySlot}

-- a rule on a group's table, which is made if it is absent, and the limits of a table and of groups
unfoldable pub on_group : (Table → Result Table) → ℕ → Map ℕ Table → Result (Map ℕ Table)
on_group by g m =
    and_then (by (made (lookup numbers g m)))
    (λ t. cond (table_fits t && leb (length (insert numbers g t m)) max_groups) (Ok (insert numbers g t m)) (refuse LimitPassed))

-- stretch k is changed by a rule, and nothing else
pub record ChangedAt (by : Table → Result Table) (k : ℕ) (xs bs : List ℕ) (r : ByCause (Unit {0})) (xs' bs' : List ℕ) : Type 0 where
  pub changed : Changed by (stretch_at k xs) (bytes_at k bs) r (stretch_at k xs') (bytes_at k bs')
  pub only : Only k xs bs xs' bs'

-- group g, which stands at a slot, is changed by a rule
pub record ChangedGroup (by : Table → Result Table) (g : ℕ) (slot : Slot) (xs bs : List ℕ) (r : ByCause (Unit {0})) (xs' bs' : List ℕ) : Type 0 where
  pub rule : outcome_as r (groups_of xs' bs') ≡ on_group by g (groups_of xs bs)
  -- refused: the cells are as they were
  pub left : (n : Cause) → r ≡ Err n → cells xs' bs' ≡ cells xs bs
  pub only : OnlySlot slot xs bs xs' bs'
  pub wf : Wf xs' bs'

-- the rows of entries and the keys of a slot's stretch are as they were
unfoldable pub RowsStay : Slot → List ℕ → List ℕ → List ℕ → List ℕ → Type 0
RowsStay (At k) xs bs xs' bs' = Leaves entry_most false (stretch_at k xs) (bytes_at k bs) (stretch_at k xs') (bytes_at k bs')
RowsStay (Free k) xs bs xs' bs' = Leaves entry_most false (stretch_at k xs) (bytes_at k bs) (stretch_at k xs') (bytes_at k bs')
RowsStay Full xs bs xs' bs' = Unit {0}

-- what a change leaves of stretch k
abbrev pub LeavesStretch : Change → ℕ → List ℕ → List ℕ → List ℕ → List ℕ → Type 0
LeavesStretch c k xs bs xs' bs' =
    Leaves (row_from c (head_part (stretch_at k xs))) (writes_keys c) (stretch_at k xs) (bytes_at k bs) (stretch_at k xs') (bytes_at k bs')

-- what a change leaves of the stretch where its group stands; of one that it makes, nothing
unfoldable pub ChangeLeaves : Change → Slot → List ℕ → List ℕ → List ℕ → List ℕ → Type 0
ChangeLeaves c (At k) xs bs xs' bs' = LeavesStretch c k xs bs xs' bs'
ChangeLeaves c (Free k) xs bs xs' bs' = Unit {0}
ChangeLeaves c Full xs bs xs' bs' = Unit {0}

-- the same, and what a refused change leaves
pub record LeavesSlot (c : Change) (slot : Slot) (xs bs : List ℕ) (r : ByCause (Unit {0})) (xs' bs' : List ℕ) : Type 0 where
  pub done : ChangeLeaves c slot xs bs xs' bs'
  pub refused : (n : Cause) → r ≡ Err n → RowsStay slot xs bs xs' bs'

-- a removal leaves the rows and the keys where a group stands, and all where none does
unfoldable pub RemovalLeaves : Slot → List ℕ → List ℕ → List ℕ → Type 0
RemovalLeaves (At k) xs bs xs' = Leaves entry_most false (stretch_at k xs) (bytes_at k bs) (stretch_at k xs') (bytes_at k bs)
RemovalLeaves (Free k) xs bs xs' = xs' ≡ xs
RemovalLeaves Full xs bs xs' = xs' ≡ xs

-- group g, which stands at a slot, is removed
pub record RemovedGroup (g : ℕ) (slot : Slot) (xs bs xs' : List ℕ) : Type 0 where
  pub rule : groups_of xs' bs ≡ remove numbers g (groups_of xs bs)
  pub only : OnlySlot slot xs bs xs' bs
  pub leaves : RemovalLeaves slot xs bs xs'
  pub wf : Wf xs' bs
