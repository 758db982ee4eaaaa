-- The ways of judging what waits in a room by its counts. Assumes nothing.
use mathlib.Core.Bool.{◌&&◌}
use mathlib.Core.List.{List}
use mathlib.Core.Path.{◌≡◌, sym, ◌∙◌}
use Prim.Native.Nat.{ℕ}
use lib.Dec.{leb}
use lib.ListN.{length, get_or}
use Rattle.cells.specs.Part.{part}
use Rattle.rules.specs.Context.{waiting_fits}
use Rattle.room.specs.Rooms.{waiting_items, waiting_entries}
use Rattle.room.specs.Layout.{store_of, room_of, waiting_of, RoomWf}
use Rattle.room.specs.LayoutLaws.{cell-count}
use Rattle.room.specs.HeadLaws.{heads-are}
use Rattle.room.specs.LimitLaws.{fits_by}
use Rattle.waiting.specs.Forms.{used_from}
use Rattle.waiting.specs.JudgeLaws.{groups-waiting}

module _ (ws : List ℕ) (used : ℕ) (e : used ≡ used_from 16 0 (part 2 160 ws)) where
  module _ (vs : List ℕ) (w : RoomWf 16 ws vs) where
    groups-are : length (waiting_of ws vs) ≡ used
    unfolding waiting_of
    groups-are =
        groups-waiting (store_of ws) (room_of 16 ws vs) w.wf
        ∙ rw (cell-count 16 ws vs w.numbers-are w.bytes-are, heads-are 16 ws vs) (sym e)

    items-are : waiting_items (waiting_of ws vs) ≡ get_or ws 0 0
    unfolding waiting_of store_of
    items-are = w.wf.all-items

    entries-are : waiting_entries (waiting_of ws vs) ≡ get_or ws 1 0
    unfolding waiting_of store_of
    entries-are = w.wf.all-entries

    pub by_counts : waiting_fits (waiting_of ws vs) ≡ (leb used 8 && leb (get_or ws 0 0) 64 && leb (get_or ws 1 0) 128)
    by_counts = fits_by (waiting_of ws vs) ∙ rw (groups-are, items-are, entries-are)
