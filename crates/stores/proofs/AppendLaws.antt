-- The first j items of one store, added behind those of another. Assumes nothing.
use mathlib.Core.Bool.{true}
use mathlib.Core.Path.{◌≡◌}
use Prim.Native.Nat.{ℕ, suc, ◌+◌, ◌*◌, ◌/◌, ◌≤◌, ◌<◌}
use native.Mathlib.Omega.{arith}
use lib.ListN.{length, drop}
use borrow.Author.Tests.{lt-ltb, le-leb}
use Rattle.log_batch.specs.Lent.{item_at}
use Rattle.stores.specs.declared.Store.{Store}
use Rattle.stores.specs.Stores.{Area, store_items, row_entries, entries_before, first_items, Stored, has_room, Added, AddedAll}
use Rattle.stores.specs.StoreLaws.{before_more, before_below, length-stored, stored-total, stored-first, added_none, added_more, first-none, first_more}

module _ (s : Store) (a : Area) (n : ℕ) (c : Area) where
  -- after j of the n items of the other store
  pub record Adding (j : ℕ) (t : Store) (b : Area) : Type 0 where
    pub began : Stored (first_items n c) c
    pub room : (s.items + n ≤ length a.items / 9) × (s.entries + entries_before n c.items ≤ length a.entries / 8)
    pub added : AddedAll s a (store_items (first_items j c) c) t b

  pub adding-start : (f : Store) → f.items ≡ n → Stored s a → Stored f c → (s.items + f.items ≤ length a.items / 9) × (s.entries + f.entries ≤ length a.entries / 8) → Adding 0 s a
  adding-start f e w v room =
      let p = room.0 in
      let q = room.1 in
      let t = v.total in
      let k : entries_before n c.items ≡ f.entries = rw (← e) t in
      record {
        began = stored-first f c v n (omega arith);
        room = (omega arith, omega arith);
        added = rw (first-none c) (added_none s a w);
      }

  module _ (j : ℕ) (t : Store) (b : Area) (m : Adding j t b) (h : j < n) where
    pub adding-room : has_room (row_entries (drop (j * 9) c.items)) t (length b.items) (length b.entries) ≡ true
    unfolding has_room
    adding-room =
        let v = stored-first (first_items n c) c m.began j (omega arith) in
        let k = length-stored (first_items j c) c v in
        let l = stored-total (first_items j c) c v in
        let p = m.room.0 in
        let q = m.room.1 in
        let x = m.added.count in
        let y = m.added.total in
        let z = before_more j c.items in
        let u = before_below (suc j) n c.items h in
        rw (
          m.added.sized.rows,
          m.added.sized.lists,
          lt-ltb t.items (length a.items / 9) (omega arith),
          le-leb (t.entries + row_entries (drop (j * 9) c.items)) (length a.entries / 8) (omega arith),
        )

    pub adding-next : (u : Store) (d : Area) → Added t b (item_at c.entries c.bytes (drop (j * 9) c.items)) u d → Adding (j + 1) u d
    adding-next u d r =
        record { began = m.began; room = m.room; added = rw (first_more c j) (added_more s a _ t b m.added _ u d r) }
