-- What lies behind the groups of an area, in numbers ys and bytes cs: the kind, the number of tombstones, the number of cleaned
-- numbers, 64 cleaned numbers, 64 rows of tombstones; and 64 bytes for each tombstone.
use Rattle.std.specs.Prelude.{cond, List, [], ◌∷◌, ◌≡◌, ℕ, ◌≤◌, eqb, length, get_or}
use Rattle.cells.specs.Part.{part, put}
use Rattle.rules.specs.Items.{Append, Rewrite, LogItem}
use Rattle.rules.specs.Context.{Kind, context, index, Context}
use Rattle.stores.specs.declared.Store.{Store}
use Rattle.stores.specs.Stores.{Area, area, store_items, Stored}

-- the lengths that an area has behind its groups
abbrev pub rest_numbers : ℕ
rest_numbers = 7855

abbrev pub rest_bytes : ℕ
rest_bytes = 22528

-- those of the lists themselves
abbrev pub list_numbers : ℕ
list_numbers = 643

abbrev pub list_bytes : ℕ
list_bytes = 4096

-- 0 an Append context, 1 a Rewrite context, otherwise the index
unfoldable pub kind_of : ℕ → Kind
kind_of n = cond (eqb n 0) (context Append) (cond (eqb n 1) (context Rewrite) index)

-- the number of a kind
unfoldable pub kind_number : Kind → ℕ
kind_number (context Append) = 0
kind_number (context Rewrite) = 1
kind_number index = 2

-- the store of tombstones: they have no entries
unfoldable pub tombstone_store : List ℕ → Store
tombstone_store ys = record { items = get_or ys 1 0; entries = 0 }

unfoldable pub tombstone_area : List ℕ → List ℕ → Area
tombstone_area ys cs = area (part 67 576 ys) [] (part 0 4096 cs)

unfoldable pub tombstones_in : List ℕ → List ℕ → List LogItem
tombstones_in ys cs = store_items (tombstone_store ys) (tombstone_area ys cs)

unfoldable pub cleaned_in : List ℕ → List ℕ
cleaned_in ys = part 3 (get_or ys 2 0) ys

-- the context that they stand for, without its groups
unfoldable pub rest_of : List ℕ → List ℕ → Context
rest_of ys cs = record { kind = kind_of (get_or ys 0 0); groups = []; tombstones = tombstones_in ys cs; cleaned = cleaned_in ys; waiting = [] }

-- what holds of them between calls
pub record Wf (ys cs : List ℕ) : Type 0 where
  pub numbers-are : length ys ≡ rest_numbers
  pub bytes-are : length cs ≡ rest_bytes
  pub tombstones : Stored (tombstone_store ys) (tombstone_area ys cs)
  pub cleaned-fit : get_or ys 2 0 ≤ 64

-- the lists cut back to t tombstones and n cleaned numbers
unfoldable pub cut_to : ℕ → ℕ → List ℕ → List ℕ
cut_to t n ys = put ys 1 (t ∷ n ∷ [])
