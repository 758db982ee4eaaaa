-- The items that wait, as the loans of the room give them. Assumes nothing.
use mathlib.Core.List.{List}
use mathlib.Core.Path.{◌≡◌, sym}
use Prim.Native.Nat.{ℕ, ◌≤◌, ◌<◌}
use native.Mathlib.Omega.{arith}
use lib.ListN.{length, get_or, take, drop}
use Rattle.cells.specs.Part.{part}
use Rattle.cells.specs.PartLaws.{get_or-part}
use Rattle.room.specs.Layout.{store_of, ContextRoom}
use Rattle.room.specs.LimitLaws.{room-few}
use Rattle.contexts.specs.Contexts.{waiting_numbers, waiting_bytes, Formed}
use Rattle.contexts.specs.AreaLaws.{area-length}
use Rattle.writes.specs.Finishes.{waiting_count}

-- the count stands first
pub count-is : (xs : List ℕ) → get_or xs 10019 0 ≡ waiting_count xs
unfolding store_of
count-is xs = sym (get_or-part 10019 3490 xs 0 0 (omega arith))

pub few-wait : (xs bs : List ℕ) → Formed xs bs → waiting_count xs ≤ 64
few-wait xs bs w = (room-few (waiting_numbers xs) (waiting_bytes bs) w.waiting).0

-- what the reading of a tag asks
pub tag-asks : (xs bs : List ℕ) (j : ℕ) → Formed xs bs → j < waiting_count xs → (length xs ≡ 17231) × (j < 128)
tag-asks xs bs j w h = let f = few-wait xs bs w in (area-length xs bs w, omega arith)

-- the room as it is lent
pub lent-room : (xs bs : List ℕ) → Formed xs bs → ContextRoom (take 3490 (drop 10019 xs)) (take 8192 (drop 20480 bs))
lent-room xs bs w = unfold part in w.waiting

pub lent-count : (xs : List ℕ) (j : ℕ) → j < waiting_count xs → j < get_or (take 3490 (drop 10019 xs)) 0 0
unfolding store_of part
lent-count xs j h = h

pub below : (j n m : ℕ) → n ≤ m → j < n → j < m
below j n m a b = omega arith
