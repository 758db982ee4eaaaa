-- A store: items in the layout of a lent batch, read as `log_batch` reads one. Item j has its bytes from place 64 j, and its rows of
-- entries behind those of the items before it.
use Rattle.rules.specs.Causes.{Ok}
use Rattle.std.specs.Prelude.{Option, Some, None, Bool, false, cond, ◌&&◌, List, [], ◌∷◌, ◌++◌, ◌≡◌, ℕ, zero, suc, ◌+◌, ◌*◌, ◌/◌, ◌≤◌, ◌<◌, eqb, leb, ltb, length, get_or, take, drop}
use Rattle.maps.specs.Lists.{sum}
use Rattle.rules.specs.Items as rules
use Rattle.rules.specs.Context.{entries_in}
use Rattle.log_batch.specs.declared.batch.LogBatch.{LogBatch}
use Rattle.log_batch.specs.declared.item.LogItem.{LogItem}
use Rattle.log_batch.specs.Lent.{opened_row, item_of, items_from}
use Rattle.stores.specs.declared.Store.{Store}
use Rattle.stores.specs.Written.{ContentShort, placed, Lent}

-- the three lent parts of a store
pub record Area : Type 0 where
  pub items : List ℕ
  pub entries : List ℕ
  pub bytes : List ℕ

abbrev pub area : List ℕ → List ℕ → List ℕ → Area
area items entries bytes = record { items = items; entries = entries; bytes = bytes }

-- the same, lent as a batch is
abbrev pub area_in : LogBatch → Area
area_in b = area b.items.now b.entries.now b.bytes.now

-- the items that a store stands for
unfoldable pub store_items : Store → Area → List rules.LogItem
store_items s a = items_from a.entries a.bytes s.items a.items

-- ---- a store is well formed

-- how many entries the row at the front has, by its tag
unfoldable pub row_entries : List ℕ → ℕ
row_entries row = cond (eqb (get_or row 1 0) 0) (get_or row 3 0) 0

-- and the first n rows together
unfoldable pub entries_before : ℕ → List ℕ → ℕ
entries_before zero xs = 0
entries_before (suc n) xs = entries_before n xs + row_entries (drop (n * 9) xs)

-- the store of the first n items
abbrev pub first_items : ℕ → Area → Store
first_items n a = record { items = n; entries = entries_before n a.items }

-- row j opens into an item with the places of item j
pub record Held (j : ℕ) (items : List ℕ) : Type 0 where
  pub item : LogItem
  pub opens : opened_row (drop (j * 9) items) (entries_before (suc j) items) (suc j * 64) ≡ Ok (placed item (entries_before j items) (j * 64))
  pub short : ContentShort item.content

-- there is a row for each item and 64 bytes for each row; the number of entries is the items' own
pub record Stored (s : Store) (a : Area) : Type 0 where
  pub rows : s.items * 9 ≤ length a.items
  pub lists : s.entries * 8 ≤ length a.entries
  pub places : length a.items / 9 * 64 ≤ length a.bytes
  pub each : (j : ℕ) → j < s.items → Held j a.items
  pub total : entries_before s.items a.items ≡ s.entries

-- the fronts in use are the same
pub record Kept (s : Store) (a b : Area) : Type 0 where
  pub rows : take (s.items * 9) b.items ≡ take (s.items * 9) a.items
  pub lists : take (s.entries * 8) b.entries ≡ take (s.entries * 8) a.entries
  pub places : take (s.items * 64) b.bytes ≡ take (s.items * 64) a.bytes

-- what lies behind the fronts in use is the same
pub record Rest (s : Store) (a b : Area) : Type 0 where
  pub rows : drop (s.items * 9) b.items ≡ drop (s.items * 9) a.items
  pub lists : drop (s.entries * 8) b.entries ≡ drop (s.entries * 8) a.entries
  pub places : drop (s.items * 64) b.bytes ≡ drop (s.items * 64) a.bytes

-- the parts have the lengths that they had
pub record Sized (a b : Area) : Type 0 where
  pub rows : length b.items ≡ length a.items
  pub lists : length b.entries ≡ length a.entries
  pub places : length b.bytes ≡ length a.bytes

-- ---- one more item

-- whether an item with k entries has room in parts of so many numbers
unfoldable pub has_room : ℕ → Store → ℕ → ℕ → Bool
has_room k s items entries = ltb s.items (items / 9) && leb (s.entries + k) (entries / 8)

-- store s with one more item that has k entries
abbrev pub one_more : ℕ → Store → Store
one_more k s = record { items = s.items + 1; entries = s.entries + k }

-- an item is added: t and b are the store and its parts afterwards
pub record Added (s : Store) (a : Area) (it : rules.LogItem) (t : Store) (b : Area) : Type 0 where
  pub counts : t ≡ one_more (entries_in it) s
  pub items : store_items t b ≡ store_items s a ++ (it ∷ [])
  pub wf : Stored t b
  pub kept : Kept s a b
  pub rest : Rest t a b
  pub sized : Sized a b

-- items xs are added, one after the other
pub record AddedAll (s : Store) (a : Area) (xs : List rules.LogItem) (t : Store) (b : Area) : Type 0 where
  pub count : t.items ≡ s.items + length xs
  pub total : t.entries ≡ s.entries + sum entries_in xs
  pub items : store_items t b ≡ store_items s a ++ xs
  pub wf : Stored t b
  pub kept : Kept s a b
  pub rest : Rest t a b
  pub sized : Sized a b

-- the answer of a push: the store with the item, or no room and all as it was
abbrev pub Pushing : Store → Area → rules.LogItem → Option Store → Area → Type 0
Pushing s a it (Some t) b = Added s a it t b
Pushing s a it None b = (has_room (entries_in it) s (length a.items) (length a.entries) ≡ false) × (b ≡ a)

-- ---- item j, as it is read

pub record ItemAt (s : Store) (a : Area) (j : ℕ) (it : LogItem) : Type 0 where
  pub opens : opened_row (drop (j * 9) a.items) (length a.entries / 8) (length a.bytes) ≡ Ok it
  pub is : (z : rules.LogItem) → get_or (store_items s a) j z ≡ item_of it a.entries a.bytes
  pub lent : Lent it (length a.entries) (length a.bytes)

-- ---- a copy

-- parts that the store fits into
pub record Fitting (s : Store) (d : Area) : Type 0 where
  pub rows : s.items * 9 ≤ length d.items
  pub lists : s.entries * 8 ≤ length d.entries
  pub places : length d.items / 9 * 64 ≤ length d.bytes

-- store s of parts a, copied to the front of parts d, which are then b
pub record Copied (s : Store) (a d b : Area) : Type 0 where
  pub items : store_items s b ≡ store_items s a
  pub wf : Stored s b
  pub kept : Kept s a b
  pub rest : Rest s d b
  pub sized : Sized d b
