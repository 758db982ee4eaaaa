-- The parts of a group that a merge finishes, replayed on its work table.
use Rattle.std.specs.Prelude.{List, ◌++◌, ◌≡◌, ℕ, length, drop}
use Rattle.std.specs.Prelude.{Option, Some}
use Rattle.maps.specs.Maps.{lookup, numbers}
use Rattle.rules.specs.Items.{Rewrite, LogItem}
use Rattle.rules.specs.Table.{Span}
use Rattle.rules.specs.Context.{context, Context}
use Rattle.rules_by_group.specs.Group.{Finished, finished_of}
use Rattle.groups.specs.Area.{groups_of}
use Rattle.stores.specs.Tags.{items_with}
use Rattle.room.specs.Layout.{tagged, RoomWf}
use Rattle.parts.specs.declared.Ending.{Ending}
use Rattle.contexts.specs.Contexts.{area_numbers, area_bytes, waiting_numbers, waiting_bytes, context_of}
use Rattle.contexts.specs.Contexts as areas
use Rattle.worktable.specs.Work.{work_in}
use Rattle.worktable.specs.Work as work
use Rattle.worktable.specs.Calls.{Becomes}
use Rattle.staging.specs.Staging.{long_numbers, long_bytes}
use Rattle.staging.specs.Replays.{Replayable}

-- what finishes of group g
unfoldable pub finished_at : ℕ → Context → Context → Option Finished
finished_at g newer c = finished_of (lookup numbers g newer.waiting) (lookup numbers g c.waiting)

-- what holds of both areas when the older table of group g is loaded: a part finishes in a Rewrite context alone
pub record PartsGiven (g : ℕ) (xs bs ys cs : List ℕ) : Type 0 where
  pub wf : areas.Wf xs bs
  pub newer-wf : areas.Wf ys cs
  pub loaded : Becomes (lookup numbers g (groups_of xs bs)) (drop long_numbers xs) (drop long_bytes bs)
  pub kind : (f : Finished) → finished_at g (context_of ys cs) (context_of xs bs) ≡ Some f → (context_of xs bs).kind ≡ context Rewrite

-- the items of both parts, and the files
unfoldable pub ending_items : Ending → List ℕ → List ℕ → List ℕ → List ℕ → List LogItem
ending_items e xs bs ys cs =
    items_with e.older (tagged (waiting_numbers xs) (waiting_bytes bs)) ++ items_with e.newer (tagged (waiting_numbers ys) (waiting_bytes cs))

abbrev pub ending_span : Ending → Span
ending_span e = record { start = e.start; end = e.end }

-- what replaying them asks
pub record EndingGiven (e : Ending) (xs bs ys cs : List ℕ) : Type 0 where
  pub numbers-are : length xs ≡ area_numbers
  pub bytes-are : length bs ≡ area_bytes
  pub newer-numbers : length ys ≡ area_numbers
  pub newer-bytes : length cs ≡ area_bytes
  pub room : RoomWf 16 (waiting_numbers xs) (waiting_bytes bs)
  pub newer-room : RoomWf 16 (waiting_numbers ys) (waiting_bytes cs)
  pub table : work.Wf (drop long_numbers xs) (drop long_bytes bs)
  pub ready : Replayable (ending_items e xs bs ys cs) (work_in (drop long_numbers xs) (drop long_bytes bs))
