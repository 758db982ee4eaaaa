-- A row, rows of entries and bytes written behind a store's own make the store with one more item. Assumes nothing.
use Rattle.rules.specs.Causes.{Ok}
use mathlib.Core.Bool.{true}
use mathlib.Core.Path.{◌≡◌, ◌∙◌}
use mathlib.Core.List.{List, [], ◌∷◌, ◌++◌}
use Prim.Native.Nat.{ℕ, suc, ◌+◌, ◌*◌, ◌/◌, ◌≤◌, ◌<◌}
use native.Mathlib.Decide.{dec_lt}
use native.Mathlib.Numerals.{add-one}
use native.Mathlib.Omega.{arith}
use lib.Dec.{ltb}
use lib.ListN.{length, drop}
use borrow.Author.Tests.{ltb-true, leb-true}
use Rattle.cells.specs.Part.{put}
use Rattle.cells.specs.PartLaws.{length-put, take_put, from-put, drop-put}
use Rattle.maps.specs.BoolLaws.{both_left, both_right}
use Rattle.log_batch.specs.declared.item.LogItem.{LogItem}
use Rattle.log_batch.specs.Lent.{opened_row, item_of, item_at}
use Rattle.stores.specs.declared.Store.{Store}
use Rattle.stores.specs.Written.{row_for, placed, bytes_of, rows_of, count_of, Lent}
use Rattle.stores.specs.Stores.{Area, area, store_items, entries_before, Held, Stored, Kept, Rest, Sized, has_room, one_more, Added}
use Rattle.log_batch.specs.OpenLaws.{open-longer, item-opened, items-snoc}
use Rattle.stores.specs.StoreLaws.{before_more, before_same, held_same, entries-count, kept-items}
use Rattle.stores.proofs.WrittenLaws.{length-row, length-rows_of, length-bytes_of, written-opens, written-entries, written-item}

-- an item with k entries has room
pub record Room (k : ℕ) (s : Store) (items entries : ℕ) : Type 0 where
  pub rows : s.items < items / 9
  pub lists : s.entries + k ≤ entries / 8

pub room-is : (k : ℕ) (s : Store) (items entries : ℕ) → has_room k s items entries ≡ true → Room k s items entries
unfolding has_room
room-is k s items entries h =
    let t = ltb s.items (items / 9) in
    record { rows = ltb-true _ _ (both_left t _ h); lists = leb-true _ _ (both_right t _ h) }

module _ (s : Store) (a : Area) (w : Stored s a) (k : ℕ) (room : Room k s (length a.items) (length a.entries)) where
  pub row_fits : s.items * 9 + 9 ≤ length a.items
  row_fits = let h = room.rows in omega arith

  pub bytes_fit : s.items * 64 + 64 ≤ length a.bytes
  bytes_fit = let h = room.rows in let p = w.places in omega arith

  pub lists-fit : (s.entries + k) * 8 ≤ length a.entries
  lists-fit = let h = room.lists in omega arith

module _ (s : Store) (a : Area) (it : LogItem) (es bs : List ℕ) where
  -- the parts with the item written behind
  abbrev pub written : Area
  written =
      area (put a.items (s.items * 9) (row_for it s.entries (s.items * 64)))
      (put a.entries (s.entries * 8) (rows_of it.content es))
      (put a.bytes (s.items * 64) (bytes_of it.content bs))

  module _ (w : Stored s a) (l : Lent it (length es) (length bs)) (room : Room (count_of it.content) s (length a.items) (length a.entries)) where
    added-kept : Kept s a written
    added-kept =
        let p = row_fits s a w (count_of it.content) room in
        let q = bytes_fit s a w (count_of it.content) room in
        let r = w.lists in
        record {
          rows = take_put (s.items * 9) a.items (s.items * 9) _ (omega arith) (omega arith);
          lists = take_put (s.entries * 8) a.entries (s.entries * 8) _ (omega arith) (omega arith);
          places = take_put (s.items * 64) a.bytes (s.items * 64) _ (omega arith) (omega arith);
        }

    -- the written row, rows of entries and bytes end where the store with the item ends
    added-rest : Rest (one_more (count_of it.content) s) a written
    added-rest =
        let p = row_fits s a w (count_of it.content) room in
        let q = bytes_fit s a w (count_of it.content) room in
        let r = w.lists in
        let n = length-row it s.entries (s.items * 64) in
        let k = length-rows_of it.content es l.within.rows in
        let m = length-bytes_of it.content bs l.within.places l.short in
        record {
          rows = drop-put ((s.items + 1) * 9) a.items (s.items * 9) _ (omega arith) (omega arith);
          lists = drop-put ((s.entries + count_of it.content) * 8) a.entries (s.entries * 8) _ (omega arith) (omega arith);
          places = drop-put ((s.items + 1) * 64) a.bytes (s.items * 64) _ (omega arith) (omega arith);
        }

    added-sized : Sized a written
    added-sized =
        let p = row_fits s a w (count_of it.content) room in
        let q = bytes_fit s a w (count_of it.content) room in
        let r = lists-fit s a w (count_of it.content) room in
        let n = length-row it s.entries (s.items * 64) in
        let k = length-rows_of it.content es l.within.rows in
        let m = length-bytes_of it.content bs l.within.places l.short in
        record {
          rows = length-put a.items (s.items * 9) _ (omega arith);
          lists = length-put a.entries (s.entries * 8) _ (omega arith);
          places = length-put a.bytes (s.items * 64) _ (omega arith);
        }

    -- the new row
    row-behind : drop (s.items * 9) written.items ≡ row_for it s.entries (s.items * 64) ++ drop (s.items * 9 + length (row_for it s.entries (s.items * 64))) a.items
    row-behind = let p = row_fits s a w (count_of it.content) room in from-put a.items (s.items * 9) _ (omega arith)

    before-stays : entries_before s.items written.items ≡ s.entries
    before-stays = before_same s.items s.items a.items written.items added-kept.rows (omega arith) ∙ w.total

    before_with : entries_before (suc s.items) written.items ≡ s.entries + count_of it.content
    before_with = rw (before_more s.items written.items, before-stays, row-behind, written-entries _ it s.entries (s.items * 64))

    row_opens : (e : ℕ) → s.items * 64 + 64 ≤ e → opened_row (drop (s.items * 9) written.items) (s.entries + count_of it.content) e ≡ Ok (placed it s.entries (s.items * 64))
    row_opens e h = rw row-behind (written-opens _ it s.entries (s.items * 64) e l.short h)

    held_new : Held s.items written.items
    held_new =
        record {
          item = it;
          opens = rw (before_with, before-stays) (row_opens (suc s.items * 64) (omega arith));
          short = l.short;
        }

    held-each : (j : ℕ) → j < s.items + 1 → Held j written.items
    held-each j h =
        elim (dec_lt j s.items) [
          | yes q ↦ held_same s.items j a.items written.items added-kept.rows q (w.each j q)
          | no q ↦ let e : j ≡ s.items = omega arith in rw e held_new
        ]

    added-stored : Stored (one_more (count_of it.content) s) written
    added-stored =
        let z = added-sized in
        let p = row_fits s a w (count_of it.content) room in
        let r = lists-fit s a w (count_of it.content) room in
        record {
          rows = rw z.rows (omega arith);
          lists = rw z.lists r;
          places = rw (z.rows, z.places) w.places;
          each = held-each;
          total = rw (add-one s.items) before_with;
        }

    new-item : item_at written.entries written.bytes (drop (s.items * 9) written.items) ≡ item_of it es bs
    new-item =
        let q = bytes_fit s a w (count_of it.content) room in
        let r = w.lists in
        let z = added-sized in
        let opens = open-longer (placed it s.entries (s.items * 64)) _ (s.entries + count_of it.content) (s.items * 64 + 64) (length written.entries / 8) (length written.bytes) (rw z.lists room.lists) (rw z.places q) (row_opens _ (omega arith)) in
        item-opened written.entries written.bytes _ _ opens
        ∙ written-item bs a.bytes (s.items * 64) (omega arith) es a.entries s.entries (omega arith) it l.within.rows l.within.places

    added-items : store_items s written ≡ store_items s a → store_items (one_more (count_of it.content) s) written ≡ store_items s a ++ (item_of it es bs ∷ [])
    unfolding store_items
    added-items e = rw (add-one s.items, items-snoc written.entries written.bytes s.items written.items, e, new-item)

    pub added : Added s a (item_of it es bs) (one_more (count_of it.content) s) written
    added =
        record {
          counts = rw (entries-count it es bs);
          items = added-items (kept-items s a written w added-kept);
          wf = added-stored;
          kept = added-kept;
          rest = added-rest;
          sized = added-sized;
        }

    pub added_by : (t : Store) (b : Area) → t ≡ one_more (count_of it.content) s → b ≡ written → Added s a (item_of it es bs) t b
    added_by t b e f = rw (e, f) added
