-- An item of a room is read, and copied to the front of other slices. Assumes nothing.
use Rattle.log_batch.specs.declared.item.Bytes.{Bytes}
use Rattle.std.specs.Prelude.{Option, Some, None}
use mathlib.Core.List.{List, [], ◌∷◌}
use mathlib.Core.Path.{◌≡◌, refl, sym, ap, ◌∙◌}
use Prim.Native.Nat.{ℕ, zero, suc, ◌+◌, ◌*◌, ◌≤◌, ◌<◌}
use native.Mathlib.Omega.{arith}
use lib.ListN.{length, get_or, drop}
use Rattle.cells.specs.Part.{part, put}
use Rattle.cells.specs.PartLaws.{length_part, length-put, get_or-part}
use Rattle.rules.specs.Items as rules
use Rattle.log_batch.specs.declared.item.OpType as op
use Rattle.log_batch.specs.declared.item.KeyValue.{KeyValue}
use Rattle.log_batch.specs.declared.item.LogItemContent as content
use Rattle.log_batch.specs.declared.item.LogItem.{LogItem}
use Rattle.log_batch.specs.Lent.{item_of, ValueWithin, BytesWithin, Within}
use Rattle.log_batch.specs.OpenLaws as opening
use Rattle.log_batch.specs.OpenLaws.{Bare}
use Rattle.stores.specs.declared.Store.{Store}
use Rattle.stores.specs.Written.{placed_value, placed_key, placed_content, placed, key_length, rows_of, bytes_of, count_of, ValueShort, ContentShort, Lent}
use Rattle.stores.specs.Stores.{Area, store_items, Stored, ItemAt}
use Rattle.stores.specs.StoreLaws.{before_more, before_below, opened-entries, placed-short}
use Rattle.stores.specs.Tags.{Tagged, tagged, store_tagged}
use Rattle.stores.specs.CountLaws.{read-tagged}
use Rattle.stores.proofs.WrittenLaws.{length-rows_of, length-bytes_of, key-32, written-item}
use Rattle.room.specs.Rooms.{Room, area_in, items_in}
use Rattle.room.specs.Layout.{store_of, room_of, ContextRoom}
use Rattle.room.specs.LayoutLaws.{length-tags, length-items, length-entries}
use Rattle.room.specs.LimitLaws.{room-few}
use Rattle.room.specs.PlaceLaws.{bytes-are}
use Rattle.room.specs.Items.{ItemCopied}

-- ---- the tag of item j

tag_of : (ts : List ℕ) (xs : List rules.LogItem) (j : ℕ) (z : Tagged) → j < length xs → j < length ts → (get_or (tagged ts xs) j z).tag ≡ get_or ts j 0
unfolding tagged
tag_of ts [] j z h l = absurd (omega arith)
tag_of [] (x ∷ xs) j z h l = absurd (omega arith)
tag_of (t ∷ ts) (x ∷ xs) zero z h l = refl
tag_of (t ∷ ts) (x ∷ xs) (suc j) z h l = tag_of ts xs j z (omega arith) (omega arith)

stored-many : (s : Store) (a : Area) → length (store_items s a) ≡ s.items
unfolding store_items
stored-many s a = opening.length-items a.entries a.bytes s.items a.items

pub tag_told : (ws : List ℕ) (j : ℕ) → length ws ≡ 3490 → j < 128 → (vs : List ℕ) (z : Tagged) → j < (store_of ws).items → (get_or (items_in (store_of ws) (room_of 16 ws vs)) j z).tag ≡ get_or ws (162 + j) 0
unfolding items_in store_tagged room_of
tag_told ws j e h vs z l =
    let n = stored-many (store_of ws) (area_in (room_of 16 ws vs)) in
    let t = length-tags_of ws e in
    tag_of (part 162 128 ws) (store_items (store_of ws) (area_in (room_of 16 ws vs))) j z (omega arith) (omega arith)
    ∙ get_or-part 162 128 ws j 0 h
  where
    length-tags_of : (ws : List ℕ) → length ws ≡ 3490 → length (part 162 128 ws) ≡ 128
    length-tags_of ws e = length_part 162 128 ws (omega arith)

-- how many items there are
pub below-count : (ws : List ℕ) (j : ℕ) → j < get_or ws 0 0 → j < (store_of ws).items
unfolding store_of
below-count ws j h = h

-- an item in use has a row
pub row-used : (n : ℕ) (ws vs : List ℕ) → length ws ≡ 2 + n * 218 → length vs ≡ n * 512 → Stored (store_of ws) (area_in (room_of n ws vs)) → (j : ℕ) → j < (store_of ws).items → j < n * 8
row-used n ws vs e f w j h = let l = length-items n ws vs e f in let r = w.rows in omega arith

-- ---- the item at the front of other slices

front-value : (v : Option Bytes) (n : ℕ) → n ≤ 32 → ValueShort v → ValueWithin (placed_value v n) 64
front-value None n h s = tt
front-value (Some b) n h s = omega arith

front_key : (o : op.OpType) (k : KeyValue) → ContentShort (content.TheVariants.Kv k) → BytesWithin (content.TheVariants.Kv (placed_key o k 0)) 64 × Bare (content.TheVariants.Kv (placed_key o k 0))
front_key op.TheVariants.Put k s = let n = s.0 in ((omega arith, front-value k.value (0 + k.key_len) (omega arith) s.1), tt)
front_key op.TheVariants.Del k s = let n = s.0 in ((omega arith, tt), refl)

front-content : (c : content.LogItemContent) → count_of c ≤ 128 → ContentShort c → Within (placed_content c 0 0) 1024 64 × Bare (placed_content c 0 0)
front-content (content.TheVariants.EntryIndexes x) h s = (record { rows = omega arith; places = tt }, tt)
front-content (content.TheVariants.Command c) h s = (record { rows = tt; places = tt }, tt)
front-content (content.TheVariants.Kv k) h s = let f = front_key k.op_type k s in (record { rows = tt; places = f.0 }, f.1)

front-item : (it : LogItem) → count_of it.content ≤ 128 → ContentShort it.content → Lent (placed it 0 0) 1024 64 × Bare (placed it 0 0).content
unfolding placed
front-item it h s = let f = front-content it.content h s in (record { within = f.0; short = placed-short it 0 0 s }, f.1)

-- an item has at most the entries of its store
item-few : (s : Store) (a : Area) → Stored s a → (j : ℕ) → j < s.items → (it : LogItem) → ItemAt s a j it → count_of it.content ≤ s.entries
item-few s a w j h it i =
    let m = before_more j a.items in
    let b = before_below (suc j) s.items a.items h in
    let t = w.total in
    let e = opened-entries (drop (j * 9) a.items) it _ _ i.opens in
    omega arith

module _ (ws vs : List ℕ) (w : ContextRoom ws vs) (j : ℕ) (h : j < (store_of ws).items) (it : LogItem) (i : ItemAt (store_of ws) (area_in (room_of 16 ws vs)) j it) where
  abbrev from : Room
  from = room_of 16 ws vs

  entries-many : length from.entries ≡ 2048
  entries-many = length-entries 16 ws vs w.room.numbers-are w.room.bytes-are

  bytes-all : from.bytes ≡ vs
  bytes-all = bytes-are 16 ws vs w.room.bytes-are

  pub copied-few : count_of it.content ≤ 128
  copied-few = let a = item-few (store_of ws) (area_in from) w.room.wf.stored j h it i in let b = (room-few ws vs w).1 in omega arith

  pub copied_key : key_length it.content ≤ 32
  copied_key = key-32 it.content i.lent.short

  pub copied_lent : Lent it 2048 (length vs)
  copied_lent = rw (entries-many, bytes-all) at i.lent

  entries-are : from.entries ≡ part 1442 2048 ws
  unfolding room_of
  entries-are = refl

  module _ (es bs es₁ bs₁ : List ℕ) (e : length es ≡ 1024) (b : length bs ≡ 64) (p : es₁ ≡ put es 0 (rows_of it.content (part 1442 2048 ws))) (q : bs₁ ≡ put bs 0 (bytes_of it.content vs)) where
    rows-copied : es₁ ≡ put es 0 (rows_of it.content from.entries)
    rows-copied = rw entries-are p

    bytes-copied : bs₁ ≡ put bs 0 (bytes_of it.content from.bytes)
    bytes-copied = rw bytes-all q

    same_item : item_of (placed it 0 0) es₁ bs₁ ≡ item_of it from.entries from.bytes
    same_item =
        rw (rows-copied, bytes-copied)
        (written-item from.bytes bs 0 (omega arith) from.entries es 0 (omega arith) it i.lent.within.rows i.lent.within.places)

    entries-length : length es₁ ≡ 1024
    entries-length =
        let m = length-rows_of it.content from.entries i.lent.within.rows in
        let f = copied-few in
        rw rows-copied (length-put es 0 (rows_of it.content from.entries) (omega arith) ∙ e)

    bytes-length : length bs₁ ≡ 64
    bytes-length =
        let m = length-bytes_of it.content from.bytes i.lent.within.places i.lent.short in
        rw bytes-copied (length-put bs 0 (bytes_of it.content from.bytes) (omega arith) ∙ b)

    pub copied : (r : LogItem) → r ≡ placed it 0 0 → ItemCopied ws vs j r es₁ bs₁
    unfolding items_in
    copied r x =
        let f = front-item it copied-few i.lent.short in
        let t = length-tags 16 ws vs w.room.numbers-are w.room.bytes-are in
        let n = length-items 16 ws vs w.room.numbers-are w.room.bytes-are in
        let m = w.room.wf.stored.rows in
        record {
          is = λ z. ap (λ (y : Tagged). y.item) (read-tagged (store_of ws) (area_in from) from.tags j it z w.room.wf.stored h (omega arith) i) ∙ sym (rw x same_item);
          lent = rw (x, entries-length, bytes-length) f.0;
          bare = rw x f.1;
          entries-length = entries-length;
          bytes-length = bytes-length;
        }
