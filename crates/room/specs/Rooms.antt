-- Waiting parts in a room: n cells of part heads, and a store of items whose tags say which part each belongs to. A cell has the
-- number of its parts (0 if it is free), the group, and tag, status, start and end of the newest part and of the older one.
use Rattle.std.specs.Prelude.{cond, List, [], ◌∷◌, ◌≡◌, ℕ, zero, suc, ◌+◌, ◌-◌, ◌*◌, ◌/◌, ◌≤◌, ◌<◌, eqb, length, get_or}
use Rattle.std.specs.Prelude.{None, Some}
use Rattle.cells.specs.Part.{part}
use Rattle.maps.specs.Lists.{sum}
use Rattle.maps.specs.Maps.{Map}
use Rattle.maps.specs.MapLaws.{pair}
use Rattle.maps.specs.Cells.{Cell, map_of, Distinct}
use Rattle.rules.specs.Items.{status_of}
use Rattle.rules.specs.Context.{Part, entries_in}
use Rattle.stores.specs.declared.Store.{Store}
use Rattle.stores.specs.Stores.{Area, area, Stored}
use Rattle.stores.specs.Tags.{Tagged, store_tagged, items_with}

-- the lent parts of a room
pub record Room : Type 0 where
  pub heads : List ℕ
  pub tags : List ℕ
  pub items : List ℕ
  pub entries : List ℕ
  pub bytes : List ℕ

abbrev pub room : List ℕ → List ℕ → List ℕ → List ℕ → List ℕ → Room
room heads tags items entries bytes = record { heads = heads; tags = tags; items = items; entries = entries; bytes = bytes }

-- those of its store
abbrev pub area_in : Room → Area
area_in r = area r.items r.entries r.bytes

-- the items of all parts, with their tags
unfoldable pub items_in : Store → Room → List Tagged
items_in s r = store_tagged s (area_in r) r.tags

-- ---- the cells

-- the numbers of a cell
abbrev pub head_width : ℕ
head_width = 10

unfoldable pub head_at : ℕ → List ℕ → List ℕ
head_at k hs = part (k * head_width) head_width hs

-- the number of parts, the group, and the tags of the two parts
unfoldable pub count_in : List ℕ → ℕ
count_in h = get_or h 0 0

unfoldable pub group_in : List ℕ → ℕ
group_in h = get_or h 1 0

unfoldable pub newest_tag : List ℕ → ℕ
newest_tag h = get_or h 2 0

unfoldable pub older_tag : List ℕ → ℕ
older_tag h = get_or h 6 0

-- the two parts, with their items among xs
unfoldable pub newest : List ℕ → List Tagged → Part
newest h xs = record { status = status_of (get_or h 3 0); items = items_with (newest_tag h) xs; start = get_or h 4 0; end = get_or h 5 0 }

unfoldable pub older : List ℕ → List Tagged → Part
older h xs = record { status = status_of (get_or h 7 0); items = items_with (older_tag h) xs; start = get_or h 8 0; end = get_or h 9 0 }

-- newest first
unfoldable pub parts_of : List ℕ → List Tagged → List Part
parts_of h xs = newest h xs ∷ cond (eqb (count_in h) 1) [] (older h xs ∷ [])

unfoldable pub cell_of : List ℕ → List Tagged → Cell (List Part)
cell_of h xs = cond (eqb (count_in h) 0) None (Some (pair (group_in h) (parts_of h xs)))

-- the n cells that f gives from k on
unfoldable pub cells_by : {A : Type 0} → (ℕ → Cell A) → ℕ → ℕ → List (Cell A)
cells_by f k zero = []
cells_by f k (suc n) = f k ∷ cells_by f (suc k) n

-- how many cells there are
abbrev pub cell_count : List ℕ → ℕ
cell_count hs = length hs / head_width

unfoldable pub cells_of : List ℕ → List Tagged → List (Cell (List Part))
cells_of hs xs = cells_by (λ k. cell_of (head_at k hs) xs) 0 (cell_count hs)

-- the rules' waiting parts
unfoldable pub waiting_in : Store → Room → Map ℕ (List Part)
waiting_in s r = map_of (cells_of r.heads (items_in s r))

-- ---- what holds of a room between calls

-- the numbers of items and of entries that wait
unfoldable pub item_count : List Part → ℕ
item_count ps = sum (λ p. length p.items) ps

unfoldable pub entry_count : List Part → ℕ
entry_count ps = sum (λ p. sum entries_in p.items) ps

unfoldable pub waiting_items : Map ℕ (List Part) → ℕ
waiting_items w = sum (λ g. item_count g.val) w

unfoldable pub waiting_entries : Map ℕ (List Part) → ℕ
waiting_entries w = sum (λ g. entry_count g.val) w

-- the two tags of cell k; a part that is put in front of another takes the other tag
abbrev pub first_tag : ℕ → ℕ
first_tag k = k * 2

abbrev pub other_tag : ℕ → ℕ → ℕ
other_tag k t = k * 4 + 1 - t

pub record Tag (k t : ℕ) : Type 0 where
  pub from : first_tag k ≤ t
  pub to : t ≤ first_tag k + 1

-- a free cell: no item has one of its tags
pub record NoPart (k : ℕ) (xs : List Tagged) : Type 0 where
  pub free : (t : ℕ) → Tag k t → items_with t xs ≡ []

-- one part: no item has the other tag
pub record OnePart (k : ℕ) (h : List ℕ) (xs : List Tagged) : Type 0 where
  pub tag : Tag k (newest_tag h)
  pub free : items_with (other_tag k (newest_tag h)) xs ≡ []

-- two parts: a Begin with an End behind it
pub record TwoParts (k : ℕ) (h : List ℕ) : Type 0 where
  pub tag : Tag k (newest_tag h)
  pub other : older_tag h ≡ other_tag k (newest_tag h)
  pub begins : get_or h 3 0 ≡ 0
  pub ends : 2 ≤ get_or h 7 0

unfoldable pub Counted : ℕ → ℕ → List ℕ → List Tagged → Type 0
Counted zero k h xs = NoPart k xs
Counted (suc zero) k h xs = OnePart k h xs
Counted (suc (suc zero)) k h xs = TwoParts k h
Counted (suc (suc (suc n))) k h xs = ⊥

unfoldable pub CellWf : ℕ → List ℕ → List Tagged → Type 0
CellWf k h xs = Counted (count_in h) k h xs

-- the lengths, the store, the cells, no two of one group, and all stored items are those of parts
pub record Wf (s : Store) (r : Room) : Type 0 where
  pub heads-are : cell_count r.heads * head_width ≡ length r.heads
  pub tags-are : length r.tags ≡ length r.items / 9
  pub stored : Stored s (area_in r)
  pub cells : (k : ℕ) → k < cell_count r.heads → CellWf k (head_at k r.heads) (items_in s r)
  pub distinct : Distinct (cells_of r.heads (items_in s r))
  pub all-items : waiting_items (waiting_in s r) ≡ s.items
  pub all-entries : waiting_entries (waiting_in s r) ≡ s.entries
