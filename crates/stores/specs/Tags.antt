-- Items with tags, one number an item in a list of their own: an item's tag is the waiting part that it belongs to.
use Rattle.rules.specs.Causes.{Ok}
use Rattle.std.specs.Prelude.{Option, Some, None, Bool, true, false, cond, not, List, [], ◌∷◌, ◌++◌, map, ◌≡◌, ℕ, zero, suc, ◌*◌, ◌/◌, ◌<◌, ◌≤◌, eqb, length, get_or, set, drop}
use Rattle.maps.specs.Lists.{select, sum}
use Rattle.rules.specs.Items as rules
use Rattle.rules.specs.Context.{entries_in}
use Rattle.log_batch.specs.declared.item.LogItem.{LogItem}
use Rattle.log_batch.specs.Lent.{row_count_of, opened_row, item_at}
use Rattle.stores.specs.declared.Store.{Store}
use Rattle.stores.specs.declared.TaggedStore.{TaggedStore}
use Rattle.stores.specs.Written.{count_of, Behind, Lent}
use Rattle.stores.specs.Stores.{Area, area_in, store_items, row_entries, Stored, Sized, has_room, one_more, Added, Pushing}

pub record Tagged : Type 0 where
  pub tag : ℕ
  pub item : rules.LogItem

-- each item with its tag; there may be more tags than items
unfoldable pub tagged : List ℕ → List rules.LogItem → List Tagged
tagged ts [] = []
tagged [] (x ∷ xs) = []
tagged (t ∷ ts) (x ∷ xs) = record { tag = t; item = x } ∷ tagged ts xs

-- the tagged items that a store with tags ts stands for
unfoldable pub store_tagged : Store → Area → List ℕ → List Tagged
store_tagged s a ts = tagged ts (store_items s a)

-- those of a store that is lent to be read
abbrev pub tagged_in : TaggedStore → List Tagged
tagged_in t = store_tagged t.store.counts (area_in t.store.parts) t.tags.now

-- it is well formed, and there is a tag for each item
pub record StoredTagged (t : TaggedStore) : Type 0 where
  pub stored : Stored t.store.counts (area_in t.store.parts)
  pub enough : t.store.counts.items ≤ length t.tags.now

-- whether an item has tag t, or another
unfoldable pub has_tag : ℕ → Tagged → Bool
has_tag t x = eqb x.tag t

unfoldable pub has_other : ℕ → Tagged → Bool
has_other t x = not (has_tag t x)

-- ---- a push with a tag: the items with their tags and this one, or no room and all as it was

pub record AddedTagged (s : Store) (a : Area) (ts : List ℕ) (tag : ℕ) (it : rules.LogItem) (t : Store) (b : Area) (us : List ℕ) : Type 0 where
  pub added : Added s a it t b
  pub tags : us ≡ set ts s.items tag
  pub items : store_tagged t b us ≡ store_tagged s a ts ++ (record { tag = tag; item = it } ∷ [])

abbrev pub PushingTagged : Store → Area → List ℕ → ℕ → rules.LogItem → Option Store → Area → List ℕ → Type 0
PushingTagged s a ts tag it (Some t) b us = AddedTagged s a ts tag it t b us
PushingTagged s a ts tag it None b us = Pushing s a it None b × (us ≡ ts)

-- ---- taking out a tag

-- row j opens into an item that may move down behind store s
pub record Movable (s : Store) (j : ℕ) (a : Area) : Type 0 where
  pub row : j < row_count_of a.items
  pub item : LogItem
  pub opens : opened_row (drop (j * 9) a.items) (length a.entries / 8) (length a.bytes) ≡ Ok item
  pub lent : Lent item (length a.entries) (length a.bytes)
  pub room : has_room (count_of item.content) s (length a.items) (length a.entries) ≡ true
  pub behind : Behind item.content s.entries (s.items * 64)

-- the item that row j stands for is added
abbrev pub Moved : Store → Area → ℕ → Store → Area → Type 0
Moved s a j t b = Added s a (item_at a.entries a.bytes (drop (j * 9) a.items)) t b

-- where item j has the tag, all is as it was; otherwise it is added with its tag
abbrev pub Keeping : Bool → Store → Area → List ℕ → ℕ → Store → Area → List ℕ → Type 0
Keeping true s a ts j t b us = (t ≡ s) × (b ≡ a) × (us ≡ ts)
Keeping false s a ts j t b us = Moved s a j t b × (us ≡ set ts s.items (get_or ts j 0))

-- the items of other tags are left, in order
pub record TakenOut (s : Store) (a : Area) (ts : List ℕ) (tag : ℕ) (t : Store) (b : Area) (us : List ℕ) : Type 0 where
  pub items : store_tagged t b us ≡ select (has_other tag) (store_tagged s a ts)
  pub wf : Stored t b
  pub fewer : t.items ≤ s.items
  pub sized : Sized a b
  pub tags : length us ≡ length ts

-- ---- counting a tag

-- the counts so far, with row j if it has the tag
unfoldable pub count_one : ℕ → ℕ → List ℕ → List ℕ → Store → Store
count_one tag j items ts c = cond (eqb (get_or ts j 0) tag) (one_more (row_entries (drop (j * 9) items)) c) c

unfoldable pub count_tag : ℕ → ℕ → List ℕ → List ℕ → Store
count_tag tag zero items ts = record { items = 0; entries = 0 }
count_tag tag (suc n) items ts = count_one tag n items ts (count_tag tag n items ts)

-- the counts of a list of items
unfoldable pub counts_of : List Tagged → Store
counts_of xs = record { items = length xs; entries = sum (λ (x : Tagged). entries_in x.item) xs }

-- the items of one tag, in order
unfoldable pub items_with : ℕ → List Tagged → List rules.LogItem
items_with t xs = map (λ (x : Tagged). x.item) (select (has_tag t) xs)
