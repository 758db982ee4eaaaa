-- A room of n cells in numbers ws and bytes vs: two counts, n cells, 8 n tags, 8 n rows of items and 16 n rows of entries; and 64 bytes
-- for each item.
use Rattle.std.specs.Prelude.{true, List, [], ◌≡◌, ℕ, ◌+◌, ◌*◌, length, get_or}
use Rattle.cells.specs.Part.{part}
use Rattle.maps.specs.Maps.{Map}
use Rattle.rules.specs.Context.{Part, waiting_fits}
use Rattle.stores.specs.declared.Store.{Store}
use Rattle.stores.specs.Tags.{Tagged}
use Rattle.room.specs.Rooms.{Room, room, items_in, head_at, waiting_in, Wf}

-- the lengths
abbrev pub numbers_of : ℕ → ℕ
numbers_of n = 2 + n * 218

abbrev pub bytes_of : ℕ → ℕ
bytes_of n = n * 512

unfoldable pub store_of : List ℕ → Store
store_of ws = record { items = get_or ws 0 0; entries = get_or ws 1 0 }

unfoldable pub room_of : ℕ → List ℕ → List ℕ → Room
room_of n ws vs =
    room
    (part 2 (n * 10) ws)
    (part (2 + n * 10) (n * 8) ws)
    (part (2 + n * 18) (n * 72) ws)
    (part (2 + n * 90) (n * 128) ws)
    (part 0 (n * 512) vs)

-- the waiting parts of a context: 16 cells, 3,490 numbers and 8,192 bytes; a merge may have twice what the limits allow on the way
abbrev pub context_cells : ℕ
context_cells = 16

unfoldable pub waiting_of : List ℕ → List ℕ → Map ℕ (List Part)
waiting_of ws vs = waiting_in (store_of ws) (room_of context_cells ws vs)

-- the items of a context's room with their tags, and the head of its cell k
abbrev pub tagged : List ℕ → List ℕ → List Tagged
tagged ws vs = items_in (store_of ws) (room_of context_cells ws vs)

abbrev pub head_part : ℕ → List ℕ → List ℕ → List ℕ
head_part k ws vs = head_at k (room_of context_cells ws vs).heads

-- what holds of a room between calls
pub record RoomWf (n : ℕ) (ws vs : List ℕ) : Type 0 where
  pub numbers-are : length ws ≡ numbers_of n
  pub bytes-are : length vs ≡ bytes_of n
  pub wf : Wf (store_of ws) (room_of n ws vs)

-- the room of a context between calls: what waits passes no limit
pub record ContextRoom (ws vs : List ℕ) : Type 0 where
  pub room : RoomWf context_cells ws vs
  pub fits : waiting_fits (waiting_of ws vs) ≡ true

-- nothing waits
pub record Empty (n : ℕ) (ws vs : List ℕ) : Type 0 where
  pub waiting : waiting_in (store_of ws) (room_of n ws vs) ≡ []
  pub wf : RoomWf n ws vs
