-- The laws of the tagged items of a store: counts, sums by tags, an item pushed or read with its tag. Assumes nothing.
use Rattle.std.specs.Prelude.{Bool, true, ◌≡◌, get_or, set, drop}
use Rattle.std.proofs.Math.Bool.{cond}
use Rattle.std.proofs.Math.Path.{refl, ap}
use Rattle.std.proofs.Common.{sym, ◌∙◌, add-zero, length-append}
use mathlib.Core.List.{List, [], ◌∷◌, ◌++◌}
use Prim.Native.Nat.{ℕ, zero, suc, ◌+◌, ◌*◌, ◌/◌, ◌≤◌, ◌<◌}
use native.Mathlib.Omega.{arith}
use Rattle.std.proofs.Math.Dec.{eqb}
use borrow.Author.Tests.{eqb-true}
use Rattle.std.proofs.Math.ListN.{length}
use Rattle.maps.specs.Lists.{select, every, sum}
use Rattle.maps.specs.ListLaws.{every-head, every-tail, length-select-not, sum-append, sum_same, sum-add, sum-select-not}
use Rattle.maps.specs.OrderLaws.{split}
use Rattle.rules.specs.Items as rules
use Rattle.rules.specs.Context.{entries_in}
use Rattle.log_batch.specs.declared.item.LogItem.{LogItem}
use Rattle.log_batch.specs.Lent.{item_of, item_at, items_from}
use Rattle.log_batch.specs.OpenLaws.{items-snoc, length-items}
use Rattle.stores.specs.declared.Store.{Store}
use Rattle.stores.specs.Stores.{Area, store_items, entries_before, Stored, one_more, Added, ItemAt}
use Rattle.stores.specs.Tags.{Tagged, tagged, store_tagged, has_tag, has_other, TakenOut, count_one, count_tag, counts_of, items_with}
use Rattle.stores.specs.StoreLaws.{before_more, length-stored, stored-total, stored-entries}
use Rattle.stores.specs.TagLaws.{length-tagged, tagged_at, tagged-snoc, tagged-push, select_in, select-out}

counts_same : (c d : Store) → c.items ≡ d.items → c.entries ≡ d.entries → c ≡ d
counts_same c d p q i = record { items = p i; entries = q i }

counts-snoc : (xs : List Tagged) (x : Tagged) → counts_of (xs ++ (x ∷ [])) ≡ one_more (entries_in x.item) (counts_of xs)
unfolding counts_of sum
counts-snoc xs x =
    counts_same _ _ (rw (length-append xs (x ∷ []))) (rw (sum-append (λ (y : Tagged). entries_in y.item) xs (x ∷ []), add-zero))

-- the counts of what is selected and of what is left are those of all
pub counts_split : (t : ℕ) (xs : List Tagged) → ((counts_of (select (has_tag t) xs)).items + (counts_of (select (has_other t) xs)).items ≡ (counts_of xs).items) × ((counts_of (select (has_tag t) xs)).entries + (counts_of (select (has_other t) xs)).entries ≡ (counts_of xs).entries)
unfolding counts_of has_other
counts_split t xs = (length-select-not (has_tag t) xs, sum-select-not (has_tag t) (λ (x : Tagged). entries_in x.item) xs)

module _ (s : Store) (a : Area) (w : Stored s a) (ts : List ℕ) (h : s.items ≤ length ts) where
  sum-tagged : (us : List ℕ) (xs : List rules.LogItem) → length xs ≤ length us → sum (λ (x : Tagged). entries_in x.item) (tagged us xs) ≡ sum entries_in xs
  unfolding tagged sum
  sum-tagged us [] l = refl
  sum-tagged [] (x ∷ xs) l = absurd (omega arith)
  sum-tagged (u ∷ us) (x ∷ xs) l = ap (λ (n : ℕ). entries_in x + n) (sum-tagged us xs (omega arith))

  -- a store's counts are those of its items
  pub stored-counts : counts_of (store_tagged s a ts) ≡ s
  unfolding counts_of store_tagged
  stored-counts =
      let n = length-stored s a w in
      let l : length (store_items s a) ≤ length ts = omega arith in
      counts_same _ _ (length-tagged ts (store_items s a) l ∙ n) (sum-tagged ts (store_items s a) l ∙ stored-total s a w)

  -- the first n items, with their tags
  unfoldable first_tagged : (n : ℕ) → List Tagged
  first_tagged n = tagged ts (items_from a.entries a.bytes n a.items)

  abbrev next_tagged : (n : ℕ) → Tagged
  next_tagged n = record { tag = get_or ts n 0; item = item_at a.entries a.bytes (drop (n * 9) a.items) }

  one_more_lem : (n : ℕ) → n < s.items → first_tagged (suc n) ≡ first_tagged n ++ (next_tagged n ∷ [])
  unfolding first_tagged
  one_more_lem n l =
      let xs = items_from a.entries a.bytes n a.items in
      let k = length-items a.entries a.bytes n a.items in
      let e = tagged-snoc ts xs (item_at a.entries a.bytes (drop (n * 9) a.items)) (omega arith) in
      rw (items-snoc a.entries a.bytes n a.items) (rw k at e)

  count-more : (tag n : ℕ) → n < s.items → count_one tag n a.items ts (counts_of (select (has_tag tag) (first_tagged n))) ≡ counts_of (select (has_tag tag) (first_tagged n ++ (next_tagged n ∷ [])))
  unfolding count_one
  count-more tag n l =
      split (eqb (get_or ts n 0) tag)
      (λ e. rw (e, select_in (has_tag tag) (first_tagged n) (next_tagged n) (unfold has_tag in e), counts-snoc (select (has_tag tag) (first_tagged n)) (next_tagged n), stored-entries s a w n l))
      (λ e. rw (e, select-out (has_tag tag) (first_tagged n) (next_tagged n) (unfold has_tag in e)))

  none-counted : (tag : ℕ) → record { items = 0; entries = 0 } ≡ counts_of (select (has_tag tag) (first_tagged 0))
  unfolding first_tagged tagged select counts_of items_from sum
  none-counted tag = refl

  count-first : (tag n : ℕ) → n ≤ s.items → count_tag tag n a.items ts ≡ counts_of (select (has_tag tag) (first_tagged n))
  unfolding count_tag
  count-first tag zero l = none-counted tag
  count-first tag (suc n) l = rw (one_more_lem n l, count-first tag n (omega arith)) (count-more tag n l)

  -- what `count_tag` answers
  pub count-is : (tag : ℕ) → count_tag tag s.items a.items ts ≡ counts_of (select (has_tag tag) (store_tagged s a ts))
  unfolding store_tagged store_items first_tagged
  count-is tag = count-first tag s.items (omega arith)

-- what a taken tag leaves
pub taken-counts : (s : Store) (a : Area) (ts : List ℕ) (tag : ℕ) (t : Store) (b : Area) (us : List ℕ) → Stored s a → s.items ≤ length ts → TakenOut s a ts tag t b us → ((count_tag tag s.items a.items ts).items + t.items ≡ s.items) × ((count_tag tag s.items a.items ts).entries + t.entries ≡ s.entries)
taken-counts s a ts tag t b us w h o =
    let f = o.fewer in
    let g = o.tags in
    let left : counts_of (select (has_other tag) (store_tagged s a ts)) ≡ t = ap counts_of (sym o.items) ∙ stored-counts t b o.wf us (omega arith) in
    let all = stored-counts s a w ts h in
    let both = counts_split tag (store_tagged s a ts) in
    rw (count-is s a w ts h tag) (rw (left, all) at both.0, rw (left, all) at both.1)

-- what is counted of the first n rows is not more than all of them
one_below : (tag j : ℕ) (items ts : List ℕ) (c : Store) → c.items ≤ j → c.entries ≤ entries_before j items → ((count_one tag j items ts c).items ≤ suc j) × ((count_one tag j items ts c).entries ≤ entries_before (suc j) items)
unfolding count_one
one_below tag j items ts c p q =
    split (eqb (get_or ts j 0) tag)
    (λ e. rw (e, before_more j items) (omega arith, omega arith))
    (λ e. rw (e, before_more j items) (omega arith, omega arith))

pub count_below : (tag n : ℕ) (items ts : List ℕ) → ((count_tag tag n items ts).items ≤ n) × ((count_tag tag n items ts).entries ≤ entries_before n items)
unfolding count_tag
count_below tag zero items ts = (omega arith, omega arith)
count_below tag (suc n) items ts = let ih = count_below tag n items ts in one_below tag n items ts _ ih.0 ih.1

-- ---- sums by tags

-- k for each place that meets a test, where none does and where one does
module _ (p : ℕ → Bool) (k : ℕ) where
  sum-none : (us : List ℕ) → sum (λ u. cond (p u) 1 0) us ≡ 0 → sum (λ u. cond (p u) k 0) us ≡ 0
  unfolding sum
  sum-none [] h = refl
  sum-none (u ∷ us) h =
      split (p u)
      (λ e. let q : 1 + sum (λ u. cond (p u) 1 0) us ≡ 0 = rw e at h in absurd (omega arith))
      (λ e. let q : 0 + sum (λ u. cond (p u) 1 0) us ≡ 0 = rw e at h in let ih = sum-none us (omega arith) in rw e (omega arith))

  sum_once : (us : List ℕ) → sum (λ u. cond (p u) 1 0) us ≡ 1 → sum (λ u. cond (p u) k 0) us ≡ k
  unfolding sum
  sum_once [] h = absurd (omega arith)
  sum_once (u ∷ us) h =
      split (p u)
      (λ e. let q : 1 + sum (λ u. cond (p u) 1 0) us ≡ 1 = rw e at h in let z = sum-none us (omega arith) in rw e (omega arith))
      (λ e. let q : 0 + sum (λ u. cond (p u) 1 0) us ≡ 1 = rw e at h in let ih = sum_once us (omega arith) in rw e (omega arith))

sum-zero : (us : List ℕ) → sum (λ u. 0) us ≡ 0
unfolding sum
sum-zero [] = refl
sum-zero (u ∷ us) = let ih = sum-zero us in omega arith

module _ (f : rules.LogItem → ℕ) where
  with-more : (x : Tagged) (xs : List Tagged) (u : ℕ) → sum f (items_with u (x ∷ xs)) ≡ cond (eqb x.tag u) (f x.item) 0 + sum f (items_with u xs)
  unfolding items_with select has_tag sum
  with-more x xs u = split (eqb x.tag u) (λ e. rw e) (λ e. rw e (omega arith))

  with_none : (u : ℕ) → sum f (items_with u []) ≡ 0
  unfolding items_with select sum
  with_none u = refl

  -- where each item's tag is among the tags us, and there once, the sums over each tag's items make the sum over all
  pub sum_by-tags : (us : List ℕ) (xs : List Tagged) → every (λ (x : Tagged). eqb (sum (λ u. cond (eqb x.tag u) 1 0) us) 1) xs ≡ true → sum (λ u. sum f (items_with u xs)) us ≡ sum (λ (x : Tagged). f x.item) xs
  unfolding sum
  sum_by-tags us [] h = sum_same _ (λ u. 0) us with_none ∙ sum-zero us
  sum_by-tags us (x ∷ xs) h =
      let one : sum (λ u. cond (eqb x.tag u) 1 0) us ≡ 1 = eqb-true _ 1 (every-head _ x xs h) in
      sum_same _ (λ u. cond (eqb x.tag u) (f x.item) 0 + sum f (items_with u xs)) us (with-more x xs)
      ∙ sum-add (λ u. cond (eqb x.tag u) (f x.item) 0) (λ u. sum f (items_with u xs)) us
      ∙ rw (sum_once (λ u. eqb x.tag u) (f x.item) us one, sum_by-tags us xs (every-tail _ x xs h))

-- ---- a pushed item with its tag

pub pushed-tagged : (s : Store) (a : Area) (it : rules.LogItem) (t : Store) (b : Area) (ts : List ℕ) (u : ℕ) → Stored s a → s.items < length ts → Added s a it t b → store_tagged t b (set ts s.items u) ≡ store_tagged s a ts ++ (record { tag = u; item = it } ∷ [])
unfolding store_tagged
pushed-tagged s a it t b ts u w h d = rw d.items (tagged-push ts (store_items s a) s.items it u (length-stored s a w) h)

-- item j with its tag, as it is read
pub read-tagged : (s : Store) (a : Area) (ts : List ℕ) (j : ℕ) (it : LogItem) (z : Tagged) → Stored s a → j < s.items → s.items ≤ length ts → ItemAt s a j it → get_or (store_tagged s a ts) j z ≡ record { tag = get_or ts j 0; item = item_of it a.entries a.bytes }
unfolding store_tagged
read-tagged s a ts j it z w h l r =
    let n = length-stored s a w in
    let e = tagged_at ts (store_items s a) j z z.item (omega arith) (omega arith) in
    rw (r.is z.item) at e

-- an item that was added has a place among tags that are as many as the rows
pub added-place : (s : Store) (a : Area) (it : rules.LogItem) (t : Store) (b : Area) (n : ℕ) → Added s a it t b → length a.items / 9 ≤ n → s.items < n
added-place s a it t b n d h =
    let items : t.items ≡ s.items + 1 = ap (λ (x : Store). x.items) d.counts in
    let r = d.wf.rows in
    let z = d.sized.rows in
    omega arith
