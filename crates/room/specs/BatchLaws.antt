-- The laws of a marked batch's items: one by one. Assumes nothing.
use Rattle.std.specs.Prelude.{true, false, not, List, [], ◌∷◌, ◌++◌, map, ◌≡◌, ℕ, zero, suc, ◌+◌, ◌*◌, ◌≤◌, length, drop}
use Rattle.std.proofs.Common.{append_assoc, append-nil, sym, ap, ◌∙◌, add-zero, add-one, arith, length-append}
use Rattle.std.proofs.lemmas.List.{map-append}
use Rattle.std.proofs.Math.Path.{refl}
use Rattle.std.proofs.Math.Decide.{dec_le}
use Rattle.maps.specs.Lists.{select, sum}
use Rattle.maps.specs.ListLaws.{select-append, sum-append}
use Rattle.rules.specs.Items as rules
use Rattle.rules.specs.Items.{is_mark}
use Rattle.rules.specs.Context.{entries_in}
use Rattle.log_batch.specs.Lent.{row_count_of, item_at, items_from, items_of}
use Rattle.log_batch.specs.OpenLaws.{items-snoc}
use Rattle.stores.specs.declared.Store.{Store}
use Rattle.stores.specs.Stores.{Stored}
use Rattle.room.specs.Rooms.{Room, area_in, items_in}
use Rattle.room.specs.Batches.{unmarked, counts_for, tag_with, PushedAll}
use Rattle.room.specs.Items.{AddedIn}

-- ---- unmarked items

pub unmarked-append : (xs ys : List rules.LogItem) → unmarked (xs ++ ys) ≡ unmarked xs ++ unmarked ys
unfolding unmarked
unmarked-append xs ys = select-append (λ it. not (is_mark it)) xs ys

pub unmarked-mark : (it : rules.LogItem) → is_mark it ≡ true → unmarked (it ∷ []) ≡ []
unfolding unmarked select
unmarked-mark it e = rw e

pub unmarked-plain : (it : rules.LogItem) → is_mark it ≡ false → unmarked (it ∷ []) ≡ it ∷ []
unfolding unmarked select
unmarked-plain it e = rw e

pub counts-append : (xs ys : List rules.LogItem) → ((counts_for (xs ++ ys)).items ≡ (counts_for xs).items + (counts_for ys).items) × ((counts_for (xs ++ ys)).entries ≡ (counts_for xs).entries + (counts_for ys).entries)
unfolding counts_for
counts-append xs ys = (length-append xs ys, sum-append entries_in xs ys)

pub counts-none : ((counts_for []).items ≡ 0) × ((counts_for []).entries ≡ 0)
unfolding counts_for sum
counts-none = (refl, refl)

pub counts-one : (it : rules.LogItem) → ((counts_for (it ∷ [])).items ≡ 1) × ((counts_for (it ∷ [])).entries ≡ entries_in it)
unfolding counts_for sum
counts-one it = (refl, add-zero (entries_in it))

-- the first n items of a batch, but the mark
module _ (xs es bs : List ℕ) where
  unfoldable pub first_unmarked : ℕ → List rules.LogItem
  first_unmarked n = unmarked (items_from es bs n xs)

  pub first-none : first_unmarked 0 ≡ []
  unfolding first_unmarked items_from unmarked select
  first-none = refl

  pub first_more : (n : ℕ) → first_unmarked (n + 1) ≡ first_unmarked n ++ unmarked (item_at es bs (drop (n * 9) xs) ∷ [])
  unfolding first_unmarked
  first_more n = rw (add-one n, items-snoc es bs n xs) (unmarked-append (items_from es bs n xs) (item_at es bs (drop (n * 9) xs) ∷ []))

  pub first_all : first_unmarked (row_count_of xs) ≡ unmarked (items_of xs es bs)
  unfolding first_unmarked items_of
  first_all = refl

  pub first_below : (n m : ℕ) → n ≤ m → ((counts_for (first_unmarked n)).items ≤ (counts_for (first_unmarked m)).items) × ((counts_for (first_unmarked n)).entries ≤ (counts_for (first_unmarked m)).entries)
  first_below n zero h = let e : n ≡ 0 = omega arith in rw e (omega arith, omega arith)
  first_below n (suc m) h =
      elim (dec_le n m) [
        | yes l ↦
            let ih = first_below n m l in
            let a = ih.0 in
            let b = ih.1 in
            let c = counts-append (first_unmarked m) (unmarked (item_at es bs (drop (m * 9) xs) ∷ [])) in
            let p = c.0 in
            let q = c.1 in
            rw (← add-one m, first_more m) (omega arith, omega arith)
        | no l ↦ let e : n ≡ suc m = omega arith in rw e (omega arith, omega arith)
      ]

-- ---- pushes, one after the other

pub pushed_none : (s : Store) (r : Room) (tag : ℕ) → Stored s (area_in r) → PushedAll s r tag [] s r
pushed_none s r tag w =
    let z = counts-none in
    let a = z.0 in
    let b = z.1 in
    record { items = sym (append-nil (items_in s r)); stored = w; count = omega arith; total = omega arith; tags = refl; rows = refl; heads = refl }

pub pushed-one : (s : Store) (r : Room) (tag : ℕ) (it : rules.LogItem) (t : Store) (q : Room) → AddedIn s r tag it t q → length q.tags ≡ length r.tags → PushedAll s r tag (it ∷ []) t q
unfolding items_in
pushed-one s r tag it t q a l =
    let d = a.added.added in
    let z = counts-one it in
    record {
      items = a.added.items;
      stored = d.wf;
      count = rw z.0 (ap (λ (x : Store). x.items) d.counts);
      total = rw z.1 (ap (λ (x : Store). x.entries) d.counts);
      tags = l;
      rows = d.sized.rows;
      heads = a.heads;
    }

pub pushed_then : (s : Store) (r : Room) (tag : ℕ) (xs : List rules.LogItem) (t : Store) (q : Room) (ys : List rules.LogItem) (u : Store) (p : Room) → PushedAll s r tag xs t q → PushedAll t q tag ys u p → PushedAll s r tag (xs ++ ys) u p
pushed_then s r tag xs t q ys u p a b =
    let c = counts-append xs ys in
    let c0 = c.0 in
    let c1 = c.1 in
    let x0 = a.count in
    let x1 = a.total in
    let y0 = b.count in
    let y1 = b.total in
    record {
      items = b.items ∙ rw (a.items, map-append (tag_with tag) xs ys) (append_assoc (items_in s r) (map (tag_with tag) xs) (map (tag_with tag) ys));
      stored = b.stored;
      count = omega arith;
      total = omega arith;
      tags = b.tags ∙ a.tags;
      rows = b.rows ∙ a.rows;
      heads = b.heads ∙ a.heads;
    }
