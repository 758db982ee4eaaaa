-- The items of one tag change, and with them the newest part of a cell. Assumes nothing.
use mathlib.Core.List.{List, [], ◌∷◌, ◌++◌}
use Rattle.std.specs.Prelude.{Some}
use Rattle.std.proofs.lemmas.Option.{same_Some}
use Rattle.std.specs.Prelude.{◌≡◌}
use Rattle.std.proofs.Math.Path.{refl, ap}
use Rattle.std.proofs.Common.{sym, ◌∙◌}
use Prim.Native.Nat.{ℕ, zero, suc, ◌+◌, ◌*◌, ◌<◌}
use native.Mathlib.Omega.{arith}
use Rattle.std.proofs.lemmas.List.{length-map}
use Rattle.cells.specs.Part.{put}
use Rattle.maps.specs.Lists.{select, sum}
use Rattle.maps.specs.ListLaws.{sum-map}
use Rattle.maps.specs.Maps.{Pair}
use Rattle.maps.specs.MapLaws.{pair}
use Rattle.rules.specs.Items as rules
use Rattle.rules.specs.Context.{Part, entries_in}
use Rattle.rules.specs.Waiting.{some_parts}
use Rattle.stores.specs.declared.Store.{Store}
use Rattle.stores.specs.Tags.{Tagged, store_tagged, has_tag, has_other, items_with, counts_of}
use Rattle.stores.specs.TagLaws.{with-taken, with-left}
use Rattle.stores.specs.CountLaws.{counts_split, stored-counts}
use Rattle.room.specs.Rooms.{Room, room, area_in, items_in, head_at, count_in, group_in, newest_tag, older, cell_of, cell_count, Counted, CellWf, Wf}
use Rattle.room.specs.Items.{TakenIn}
use Rattle.room.specs.Batches.{counts_for}
use Rattle.room.specs.BatchLaws.{counts-append}
use Rattle.room.specs.Changes.{Became}
use Rattle.room.specs.Parts.{left_head, WroteIn}
use Rattle.room.specs.PartLaws.{tag-more, tag-other, Retagged, one_cell, two-cell, left-none, left_one}

-- the counts of a tag's items
pub counts_with : (t : ℕ) (xs : List Tagged) → ((counts_for (items_with t xs)).items ≡ (counts_of (select (has_tag t) xs)).items) × ((counts_for (items_with t xs)).entries ≡ (counts_of (select (has_tag t) xs)).entries)
unfolding counts_for items_with counts_of
counts_with t xs = (length-map (select (has_tag t) xs) (λ (x : Tagged). x.item), sum-map entries_in (λ (x : Tagged). x.item) (select (has_tag t) xs))

module _ (s : Store) (r : Room) (tag : ℕ) (t : Store) (q : Room) (w : Wf s r) (o : TakenIn s r tag t q) where
  items_left : items_in t q ≡ select (has_other tag) (items_in s r)
  unfolding items_in
  items_left = o.taken.items

  none_left : items_with tag (items_in t q) ≡ []
  none_left = rw items_left (with-taken tag (items_in s r))

  -- the counts of what is taken out and of what is left
  pub taken-both : (t.items + (counts_for (items_with tag (items_in s r))).items ≡ s.items) × (t.entries + (counts_for (items_with tag (items_in s r))).entries ≡ s.entries)
  unfolding items_in
  taken-both =
      let x = w.tags-are in
      let y = w.stored.rows in
      let f = o.taken.fewer in
      let g = o.taken.tags in
      let all = stored-counts s (area_in r) w.stored r.tags (omega arith) in
      let left : counts_of (select (has_other tag) (store_tagged s (area_in r) r.tags)) ≡ t = ap counts_of (sym o.taken.items) ∙ stored-counts t (area_in q) o.taken.wf q.tags (omega arith) in
      let both = counts_split tag (store_tagged s (area_in r) r.tags) in
      let b0 = rw (left, all) at both.0 in
      let b1 = rw (left, all) at both.1 in
      let c = counts_with tag (store_tagged s (area_in r) r.tags) in
      let c0 = c.0 in
      let c1 = c.1 in
      (omega arith, omega arith)

  -- the tag leaves, and cell k gets head h
  module _ (k : ℕ) (h : List ℕ) (p : Room) (e : p ≡ room (put q.heads (k * 10) h) q.tags q.items q.entries q.bytes) where
    same-items : items_in t p ≡ items_in t q
    unfolding items_in
    same-items = rw e

    no-counts : ((counts_for []).items ≡ 0) × ((counts_for []).entries ≡ 0)
    unfolding counts_for sum
    no-counts = (refl, refl)

    pub retagged-left : Retagged k h tag [] s r t p
    retagged-left =
        let x = w.tags-are in
        let a = o.taken.tags in
        let b = o.taken.sized.rows in
        let both = taken-both in
        let b0 = both.0 in
        let b1 = both.1 in
        let n = no-counts in
        let n0 = n.0 in
        let n1 = n.1 in
        record {
          heads = rw e (ap (λ (l : List ℕ). put l (k * 10) h) o.heads);
          sized = rw e (a ∙ rw b x);
          stored = rw e o.taken.wf;
          others = λ u d. rw (same-items, items_left) (with-left tag u (items_in s r) d);
          mine = rw (same-items, items_left) (with-taken tag (items_in s r));
          count = omega arith;
          total = omega arith;
        }

  -- other items come with it
  pub retagged-other : (k : ℕ) (h : List ℕ) (its : List rules.LogItem) (u : Store) (p : Room) → WroteIn k h tag its t q u p → Retagged k h tag its s r u p
  retagged-other k h its u p v =
      let x = w.tags-are in
      let a = o.taken.tags in
      let b = o.taken.sized.rows in
      let c = v.tags in
      let d = v.rows in
      let both = taken-both in
      let b0 = both.0 in
      let b1 = both.1 in
      let v0 = v.count in
      let v1 = v.total in
      record {
        heads = v.heads ∙ ap (λ (l : List ℕ). put l (k * 10) h) o.heads;
        sized = c ∙ a ∙ rw (d, b) x;
        stored = v.stored;
        others = λ i e. rw v.items (tag-other tag (items_in t q) its i e ∙ rw items_left (with-left tag i (items_in s r) e));
        mine = rw v.items (tag-more tag (items_in t q) its ∙ ap (λ (l : List rules.LogItem). l ++ its) none_left);
        count = omega arith;
        total = omega arith;
      }

-- more items come to those of the tag
pub retagged-more : (k : ℕ) (h : List ℕ) (tag : ℕ) (its : List rules.LogItem) (s : Store) (r : Room) (t : Store) (q : Room) → Wf s r → WroteIn k h tag its s r t q → Retagged k h tag (items_with tag (items_in s r) ++ its) s r t q
retagged-more k h tag its s r t q w v =
    let x = w.tags-are in
    let c = v.tags in
    let d = v.rows in
    let a = counts-append (items_with tag (items_in s r)) its in
    let a0 = a.0 in
    let a1 = a.1 in
    let v0 = v.count in
    let v1 = v.total in
    record {
      heads = v.heads;
      sized = c ∙ rw d x;
      stored = v.stored;
      others = λ u e. rw v.items (tag-other tag (items_in s r) its u e);
      mine = rw v.items (tag-more tag (items_in s r) its);
      count = omega arith;
      total = omega arith;
    }

-- ---- a newest part that leaves, by the number of parts

module _ (k : ℕ) (s : Store) (r : Room) (t : Store) (q : Room) (w : Wf s r) (l : k < cell_count r.heads) (o : Retagged k (left_head (head_at k r.heads)) (newest_tag (head_at k r.heads)) [] s r t q) (g : ℕ) (p : Part) (ps : List Part) (c : cell_of (head_at k r.heads) (items_in s r) ≡ Some (pair g (p ∷ ps))) where
  abbrev h : List ℕ
  h = head_at k r.heads

  abbrev tail_of : List Part → List Part
  tail_of [] = []
  tail_of (x ∷ xs) = xs

  left_when-one : count_in h ≡ 1 → Became g (some_parts ps) s r t q
  unfolding some_parts
  left_when-one z =
      let e = same_Some _ _ (sym (one_cell h (items_in s r) z) ∙ c) in
      let k1 : group_in h ≡ g = ap (λ (y : Pair ℕ (List Part)). y.key) e in
      let k2 : [] ≡ ps = ap (λ (y : Pair ℕ (List Part)). tail_of y.val) e in
      rw (← k1, ← k2) (left-none k s r t q w l o z)

  left_when_two : count_in h ≡ 2 → Became g (some_parts ps) s r t q
  unfolding some_parts
  left_when_two z =
      let e = same_Some _ _ (sym (two-cell h (items_in s r) z) ∙ c) in
      let k1 : group_in h ≡ g = ap (λ (y : Pair ℕ (List Part)). y.key) e in
      let k2 : older h (items_in s r) ∷ [] ≡ ps = ap (λ (y : Pair ℕ (List Part)). tail_of y.val) e in
      rw (← k1, ← k2) (left_one k s r t q w l o z)

  by_count : (n : ℕ) → count_in h ≡ n → 0 < n → Counted n k h (items_in s r) → Became g (some_parts ps) s r t q
  unfolding Counted
  by_count zero e b v = absurd (omega arith)
  by_count (suc zero) e b v = left_when-one e
  by_count (suc (suc zero)) e b v = left_when_two e
  by_count (suc (suc (suc n))) e b v = absurd v

  pub part_left : 0 < count_in h → Became g (some_parts ps) s r t q
  unfolding CellWf
  part_left b = by_count (count_in h) refl b (w.cells k l)
