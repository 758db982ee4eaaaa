-- What becomes of the items of a room: one is added with its tag, a tag is taken out, and one is copied out. The cells stay.
use Rattle.log_batch.specs.Lent.{Opened}
use Rattle.std.specs.Prelude.{List, ◌≡◌, ℕ, ◌*◌, ◌/◌, eqb, length, get_or, drop}
use Rattle.rules.specs.Items as rules
use Rattle.log_batch.specs.declared.item.LogItem.{LogItem}
use Rattle.log_batch.specs.Lent.{opened_row, OpenedWithin, item_of, item_at}
use Rattle.log_batch.specs.OpenLaws.{Bare}
use Rattle.stores.specs.declared.Store.{Store}
use Rattle.stores.specs.Written.{Lent}
use Rattle.stores.specs.Stores.{Added}
use Rattle.stores.specs.Tags.{Tagged, AddedTagged, Keeping, TakenOut}
use Rattle.room.specs.Rooms.{Room, area_in}
use Rattle.room.specs.Layout.{tagged}

-- item j of a room, opened as one of a batch is
pub record OpenedIn (r : Room) (j : ℕ) (o : Opened) : Type 0 where
  pub opens : o ≡ opened_row (drop (j * 9) r.items) (length r.entries / 8) (length r.bytes)
  pub within : OpenedWithin o (length r.entries) (length r.bytes)

-- the item that row j stands for
abbrev pub item_in : ℕ → Room → rules.LogItem
item_in j r = item_at r.entries r.bytes (drop (j * 9) r.items)

pub record AddedIn (s : Store) (r : Room) (tag : ℕ) (it : rules.LogItem) (t : Store) (q : Room) : Type 0 where
  pub added : AddedTagged s (area_in r) r.tags tag it t (area_in q) q.tags
  pub heads : q.heads ≡ r.heads

-- an item of the room itself moves down behind fewer items; tags stay
pub record MovedIn (s : Store) (r : Room) (it : rules.LogItem) (t : Store) (q : Room) : Type 0 where
  pub added : Added s (area_in r) it t (area_in q)
  pub tags : q.tags ≡ r.tags
  pub heads : q.heads ≡ r.heads

-- where item j has the tag, all is as it was; otherwise it is added with its tag
pub record KeepingIn (tag : ℕ) (s : Store) (r : Room) (j : ℕ) (t : Store) (q : Room) : Type 0 where
  pub keeping : Keeping (eqb (get_or r.tags j 0) tag) s (area_in r) r.tags j t (area_in q) q.tags
  pub heads : q.heads ≡ r.heads

pub record TakenIn (s : Store) (r : Room) (tag : ℕ) (t : Store) (q : Room) : Type 0 where
  pub taken : TakenOut s (area_in r) r.tags tag t (area_in q) q.tags
  pub heads : q.heads ≡ r.heads

-- item j of a context's room stands in slices of its own, where there is room for the most entries that wait and for one item's bytes
pub record ItemCopied (ws vs : List ℕ) (j : ℕ) (it : LogItem) (es bs : List ℕ) : Type 0 where
  pub is : (z : Tagged) → (get_or (tagged ws vs) j z).item ≡ item_of it es bs
  pub lent : Lent it (length es) (length bs)
  pub bare : Bare it.content
  pub entries-length : length es ≡ 1024
  pub bytes-length : length bs ≡ 64
