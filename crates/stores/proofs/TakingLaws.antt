-- After j items of a store the items of other tags stand at the front, and the rest is as it was. Assumes nothing.
use Rattle.rules.specs.Causes.{Ok}
use mathlib.Core.Bool.{Bool, true, false}
use mathlib.Core.Path.{◌≡◌, refl, sym, ap, ◌∙◌}
use mathlib.Core.List.{List, [], ◌∷◌, ◌++◌}
use Prim.Native.Nat.{ℕ, suc, ◌+◌, ◌*◌, ◌/◌, ◌≤◌, ◌<◌}
use native.Mathlib.Nat.{add-zero}
use native.Mathlib.Numerals.{add-one}
use native.Mathlib.Omega.{arith}
use lib.Dec.{eqb}
use lib.ListN.{length, get_or, set, take, drop, length-set}
use lib.Seq.{take-suc, take_all, get_or-drop, drop-set-lt}
use borrow.Author.Tests.{lt-ltb, le-leb}
use Rattle.cells.specs.PartLaws.{shorter_back}
use Rattle.maps.specs.Lists.{select}
use Rattle.rules.specs.Items as rules
use Rattle.rules.specs.Context.{entries_in}
use Rattle.log_batch.specs.declared.item.LogItem.{LogItem}
use Rattle.log_batch.specs.Lent.{row_count_of, opened_row, item_of, item_at}
use Rattle.log_batch.specs.OpenLaws.{item_back, item-opened}
use Rattle.stores.specs.declared.Store.{Store}
use Rattle.stores.specs.Written.{count_of}
use Rattle.stores.specs.Stores.{Area, store_items, entries_before, first_items, Stored, Rest, Sized, has_room}
use Rattle.stores.specs.Tags.{Tagged, tagged, store_tagged, has_tag, has_other, Movable, Moved, Keeping, TakenOut}
use Rattle.stores.specs.StoreLaws.{before_more, before_below, opened-entries, entries-count, held_item, kept_all, kept_lent, rest_then, sized-then, length-stored, stored_at, stored-opens, stored-first, stored-none, none-stored}
use Rattle.stores.specs.TagLaws.{length-tagged, tagged_at, tagged-push, select_in, select-out}
use Rattle.stores.proofs.WrittenLaws.{placed-behind, placed_back}

module _ (o : Area) (os : List ℕ) (tag n : ℕ) where
  -- the store that it began with
  abbrev pub whole : List Tagged
  whole = store_tagged (first_items n o) o os

  pub record Taking (j : ℕ) (left : Store) (a : Area) (ts : List ℕ) : Type 0 where
    pub began : Stored (first_items n o) o
    pub tags : n ≤ length os
    pub wf : Stored left a
    pub fewer : left.items ≤ j
    pub lists : left.entries ≤ entries_before j o.items
    pub items : store_tagged left a ts ≡ select (has_other tag) (take j whole)
    pub rest : Rest (first_items j o) o a
    pub sized : Sized o a
    pub tags-rest : drop j ts ≡ drop j os
    pub tags-sized : length ts ≡ length os

  pub taking-start : (s : Store) → s.items ≡ n → Stored s o → n ≤ length os → Taking 0 (record { items = 0; entries = 0 }) o os
  unfolding store_tagged tagged select
  taking-start s e w h =
      record {
        began = stored-first s o w n (omega arith);
        tags = h;
        wf = stored-none o w.places;
        fewer = omega arith;
        lists = omega arith;
        items = rw (none-stored o);
        rest = record { rows = refl; lists = refl; places = refl };
        sized = record { rows = refl; lists = refl; places = refl };
        tags-rest = refl;
        tags-sized = refl;
      }

  module _ (j : ℕ) (left : Store) (a : Area) (ts : List ℕ) (t : Taking j left a ts) (h : j < n) where
    abbrev its : LogItem
    its = held_item (first_items n o) o t.began j h

    its-opens : opened_row (drop (j * 9) a.items) (length a.entries / 8) (length a.bytes) ≡ Ok its
    its-opens = rw (t.rest.rows, t.sized.lists, t.sized.places) (stored-opens (first_items n o) o t.began j h)

    its-entries : entries_before (suc j) o.items ≡ entries_before j o.items + count_of its.content
    its-entries =
        rw (before_more j o.items, opened-entries (drop (j * 9) o.items) its _ _ (stored-opens (first_items n o) o t.began j h))

    its-room : has_room (count_of its.content) left (length a.items) (length a.entries) ≡ true
    unfolding has_room
    its-room =
        let b = t.began in
        let r = b.rows in
        let e = b.lists in
        let f = t.fewer in
        let l = t.lists in
        let m = before_below (suc j) n o.items h in
        let q = its-entries in
        rw (t.sized.rows, t.sized.lists, lt-ltb left.items (length o.items / 9) (omega arith), le-leb (left.entries + count_of its.content) (length o.entries / 8) (omega arith))

    its-row : j < row_count_of a.items
    unfolding row_count_of
    its-row = let r = t.began.rows in let z = t.sized.rows in omega arith

    pub taking_movable : Movable left j a
    taking_movable =
        let f = t.fewer in
        record {
          row = its-row;
          item = its;
          opens = its-opens;
          lent = rw (t.sized.lists, t.sized.places) (kept_lent (first_items n o) o t.began j h o (kept_all (first_items n o) o));
          room = its-room;
          behind = placed-behind _ _ _ _ _ t.lists (omega arith);
        }

    -- what it stands for, now and at the start
    abbrev now-item : rules.LogItem
    now-item = item_at a.entries a.bytes (drop (j * 9) a.items)

    its-item : now-item ≡ item_of its o.entries o.bytes
    its-item =
        item-opened a.entries a.bytes (drop (j * 9) a.items) its its-opens
        ∙ item_back (entries_before j o.items * 8) (j * 64) a.entries a.bytes o.entries o.bytes t.rest.lists t.rest.places its (placed_back _ _ _)

    its-count : entries_in now-item ≡ count_of its.content
    its-count = rw its-item (entries-count its o.entries o.bytes)

    its-tag : get_or os j 0 ≡ get_or ts j 0
    its-tag =
        let e : get_or (drop j os) 0 0 ≡ get_or (drop j ts) 0 0 = rw t.tags-rest in
        rw add-zero at (sym (get_or-drop j os 0 0) ∙ e ∙ get_or-drop j ts 0 0)

    abbrev its_tagged : Tagged
    its_tagged = record { tag = get_or ts j 0; item = now-item }

    next-tagged : take (j + 1) whole ≡ take j whole ++ (its_tagged ∷ [])
    unfolding store_tagged
    next-tagged =
        let b = t.began in
        let xs = store_items (first_items n o) o in
        let k = length-stored (first_items n o) o b in
        let g = t.tags in
        let m = length-tagged os xs (omega arith) in
        let e = tagged_at os xs j its_tagged now-item (omega arith) (omega arith) in
        let f = stored_at (first_items n o) o b j h now-item in
        rw (add-one j, take-suc whole j its_tagged (omega arith), e, f, its-tag, ← its-item)

    still : (s : Store) → Rest s a a
    still s = record { rows = refl; lists = refl; places = refl }

    taking-taken : eqb (get_or ts j 0) tag ≡ true → Taking (j + 1) left a ts
    unfolding has_other has_tag
    taking-taken e =
        let f = t.fewer in
        let l = t.lists in
        let m = before_below j (j + 1) o.items (omega arith) in
        record {
          began = t.began;
          tags = t.tags;
          wf = t.wf;
          fewer = omega arith;
          lists = omega arith;
          items = t.items ∙ rw next-tagged (sym (select-out (has_other tag) (take j whole) its_tagged (rw e)));
          rest = rest_then (first_items j o) (first_items (j + 1) o) o a a (omega arith) m t.rest (still _);
          sized = t.sized;
          tags-rest = shorter_back j (j + 1) ts os (omega arith) t.tags-rest;
          tags-sized = t.tags-sized;
        }

    module _ (r : Store) (b : Area) (us : List ℕ) (e : eqb (get_or ts j 0) tag ≡ false) (m : Moved left a j r b) (u : us ≡ set ts left.items (get_or ts j 0)) where
      kept-tagged : store_tagged r b us ≡ store_tagged left a ts ++ (its_tagged ∷ [])
      unfolding store_tagged
      kept-tagged =
          let k = length-stored left a t.wf in
          let f = t.fewer in
          let g = t.tags in
          let z = t.tags-sized in
          rw (m.items, u) (tagged-push ts (store_items left a) left.items now-item (get_or ts j 0) k (omega arith))

      kept-items : store_tagged r b us ≡ select (has_other tag) (take (j + 1) whole)
      unfolding has_other has_tag
      kept-items =
          kept-tagged ∙ rw (t.items, next-tagged) (sym (select_in (has_other tag) (take j whole) its_tagged (rw e)))

      taking-kept : Taking (j + 1) r b us
      taking-kept =
          let f = t.fewer in
          let l = t.lists in
          let items : r.items ≡ left.items + 1 = ap (λ (x : Store). x.items) m.counts in
          let entries : r.entries ≡ left.entries + entries_in now-item = ap (λ (x : Store). x.entries) m.counts in
          let k = its-count in
          let q : entries_before (j + 1) o.items ≡ entries_before j o.items + count_of its.content = rw (add-one j) its-entries in
          let v = before_below j (j + 1) o.items (omega arith) in
          record {
            began = t.began;
            tags = t.tags;
            wf = m.wf;
            fewer = omega arith;
            lists = omega arith;
            items = kept-items;
            rest =
                rest_then (first_items j o) (first_items (j + 1) o) o a b (omega arith) v t.rest
                (rest_then r (first_items (j + 1) o) a b b (omega arith) (omega arith) m.rest (record { rows = refl; lists = refl; places = refl }));
            sized = sized-then o a b t.sized m.sized;
            tags-rest = rw u (drop-set-lt (j + 1) ts left.items (get_or ts j 0) (omega arith) ∙ shorter_back j (j + 1) ts os (omega arith) t.tags-rest);
            tags-sized = rw u (length-set ts left.items (get_or ts j 0) ∙ t.tags-sized);
          }

    by-test : (x : Bool) (r : Store) (b : Area) (us : List ℕ) → eqb (get_or ts j 0) tag ≡ x → Keeping x left a ts j r b us → Taking (j + 1) r b us
    by-test true r b us e k = rw (k.0, k.1, k.2) (taking-taken e)
    by-test false r b us e k = taking-kept r b us e k.0 k.1

    pub taking-next : (r : Store) (b : Area) (us : List ℕ) → Keeping (eqb (get_or ts j 0) tag) left a ts j r b us → Taking (j + 1) r b us
    taking-next r b us k = by-test (eqb (get_or ts j 0) tag) r b us refl k

  all-taken : (j : ℕ) → n ≤ j → Stored (first_items n o) o → n ≤ length os → take j whole ≡ whole
  unfolding store_tagged
  all-taken j h w l =
      let k = length-stored (first_items n o) o w in
      let m = length-tagged os (store_items (first_items n o) o) (omega arith) in
      take_all j _ (omega arith)

  whole_is : (s : Store) → s.items ≡ n → whole ≡ store_tagged s o os
  unfolding store_tagged store_items
  whole_is s e = rw e

  pub taking-end : (s : Store) (j : ℕ) (left : Store) (a : Area) (ts : List ℕ) → s.items ≡ n → n ≤ j → j ≤ n → Taking j left a ts → TakenOut s o os tag left a ts
  taking-end s j left a ts e h g t =
      let f = t.fewer in
      record {
        items = t.items ∙ ap (select (has_other tag)) (all-taken j h t.began t.tags ∙ whole_is s e);
        wf = t.wf;
        fewer = omega arith;
        sized = t.sized;
        tags = t.tags-sized;
      }
