-- The items of a marked batch but its mark: the part that waits.
use Rattle.std.specs.Prelude.{Option, Some, None, true, false, not, List, ◌++◌, map, ◌≡◌, ℕ, ◌+◌, ◌*◌, ◌≤◌, length, drop}
use Rattle.maps.specs.Lists.{select, sum}
use Rattle.rules.specs.Items as rules
use Rattle.rules.specs.Items.{is_mark}
use Rattle.rules.specs.Context.{entries_in}
use Rattle.log_batch.specs.declared.batch.LogBatch.{LogBatch}
use Rattle.log_batch.specs.declared.item.LogItem.{LogItem}
use Rattle.log_batch.specs.Lent.{item_of, item_at}
use Rattle.log_batch.specs.Batch.{item_in}
use Rattle.stores.specs.declared.Store.{Store}
use Rattle.stores.specs.Written.{count_of, Lent}
use Rattle.stores.specs.Stores.{Stored}
use Rattle.stores.specs.Tags.{Tagged}
use Rattle.room.specs.Rooms.{Room, area_in, items_in}

unfoldable pub unmarked : List rules.LogItem → List rules.LogItem
unmarked xs = select (λ it. not (is_mark it)) xs

-- the counts of a list of items
unfoldable pub counts_for : List rules.LogItem → Store
counts_for xs = record { items = length xs; entries = sum entries_in xs }

-- item i is no mark, and may be stored
pub record Plain (xs es bs : List ℕ) (i : ℕ) (it : LogItem) : Type 0 where
  pub is : item_at es bs (drop (i * 9) xs) ≡ item_of it es bs
  pub plain : is_mark (item_of it es bs) ≡ false
  pub lent : Lent it (length es) (length bs)
  pub few : count_of it.content ≤ 32

abbrev pub Unmarks : LogBatch → ℕ → Option LogItem → Type 0
Unmarks b i None = is_mark (item_in i b) ≡ true
Unmarks b i (Some it) = Plain b.items.now b.entries.now b.bytes.now i it

-- an item with the tag
abbrev pub tag_with : ℕ → rules.LogItem → Tagged
tag_with t it = record { tag = t; item = it }

-- the items its are added behind the others, with a tag; the cells stay
pub record PushedAll (s : Store) (r : Room) (tag : ℕ) (its : List rules.LogItem) (t : Store) (q : Room) : Type 0 where
  pub items : items_in t q ≡ items_in s r ++ map (tag_with tag) its
  pub stored : Stored t (area_in q)
  pub count : t.items ≡ s.items + (counts_for its).items
  pub total : t.entries ≡ s.entries + (counts_for its).entries
  pub tags : length q.tags ≡ length r.tags
  pub rows : length q.items ≡ length r.items
  pub heads : q.heads ≡ r.heads
