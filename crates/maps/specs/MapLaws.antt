-- The laws of maps over a lawful order of the keys. Keys, values and maps are written out, and what is known of them comes last.
-- Assumes nothing.
use Rattle.std.specs.Prelude.{Bool, true, ◌≡◌, get_or}
use Rattle.std.proofs.Math.Bool.{false, cond}
use mathlib.Core.List.{[], ◌∷◌, ◌++◌, map}
use Rattle.std.specs.Prelude.{Option, None, Some}
use Rattle.std.proofs.lemmas.Option.{same_Some, none-some}
use Rattle.maps.specs.ListLaws.{some-none}
use Rattle.std.proofs.Math.Path.{refl, sym}
use Rattle.std.proofs.Common.{ap, ◌∙◌}
use Prim.Native.Nat.{ℕ, zero, suc, ◌+◌, ◌≤◌, ◌<◌}
use native.Mathlib.Omega.{arith}
use Rattle.std.proofs.Math.ListN.{length}
use Rattle.maps.specs.Lists.{select, every, sum, map_option, or_else}
use Rattle.maps.specs.Maps.{Order, Pair, Map, lookup, insert, remove, store, merge_with}
use Rattle.maps.specs.OrderLaws.{Lawful, split, and_both, three, below-differs, above-differs, below-not_back}

-- a key with its value
abbrev pub pair : {K A : Type 0} → K → A → Pair K A
pair k a = record { key = k; val = a }

module _ {K A : Type 0} (o : Order K) where
  -- k lies below every key of the map
  unfoldable pub AllBelow : K → Map K A → Type 0
  AllBelow k [] = Unit {0}
  AllBelow k (x ∷ xs) = (o.below k x.key ≡ true) × AllBelow k xs

  -- each key lies below every later one
  unfoldable pub Ascending : Map K A → Type 0
  Ascending [] = Unit {0}
  Ascending (x ∷ xs) = AllBelow x.key xs × Ascending xs

pub ascending-nil : {K : Type 0} (A : Type 0) (o : Order K) → Ascending {A = A} o []
unfolding Ascending
ascending-nil A o = tt

pub ascending-cons : {K A : Type 0} (o : Order K) (x : Pair K A) (xs : Map K A) → AllBelow o x.key xs → Ascending o xs → Ascending o (x ∷ xs)
unfolding Ascending
ascending-cons o x xs b h = (b, h)

pub ascending-head : {K A : Type 0} (o : Order K) (x : Pair K A) (xs : Map K A) → Ascending o (x ∷ xs) → AllBelow o x.key xs
unfolding Ascending
ascending-head o x xs h = h.0

pub ascending-tail : {K A : Type 0} (o : Order K) (x : Pair K A) (xs : Map K A) → Ascending o (x ∷ xs) → Ascending o xs
unfolding Ascending
ascending-tail o x xs h = h.1

module _ {A : Type 0} where
  -- what b laid over x by f is
  unfoldable pub laid : (Option A → A → A) → Option A → Option A → Option A
  laid f x None = x
  laid f x (Some b) = Some (f x b)

  -- what is there, if it meets p
  unfoldable pub kept : (A → Bool) → Option A → Option A
  kept p None = None
  kept p (Some a) = cond (p a) (Some a) None

module _ {K A : Type 0} (o : Order K) (law : Lawful o) where
  -- ---- what is below all

  pub below_all : (j k : K) (m : Map K A) → o.below j k ≡ true → AllBelow o k m → AllBelow o j m
  unfolding AllBelow
  below_all j k [] b h = tt
  below_all j k (x ∷ xs) b h = (law.below-trans j k x.key b h.0, below_all j k xs b h.1)

  pub lookup_below : (k : K) (m : Map K A) → AllBelow o k m → lookup o k m ≡ None
  unfolding AllBelow lookup
  lookup_below k [] h = refl
  lookup_below k (x ∷ xs) h = rw (below-differs o law k x.key h.0) (lookup_below k xs h.1)

  below-insert : (j k : K) (a : A) (m : Map K A) → o.below j k ≡ true → AllBelow o j m → AllBelow o j (insert o k a m)
  unfolding AllBelow insert
  below-insert j k a [] b h = (b, tt)
  below-insert j k a (x ∷ xs) b h =
      three o law k x.key
      (λ e p. rw e (b, h.1))
      (λ e p. rw (e, p) (b, h))
      (λ e p q. rw (e, p) (h.0, below-insert j k a xs b h.1))

  below-remove : (j k : K) (m : Map K A) → AllBelow o j m → AllBelow o j (remove o k m)
  unfolding AllBelow remove
  below-remove j k [] h = tt
  below-remove j k (x ∷ xs) h = split (o.same k x.key) (λ e. rw e h.1) (λ e. rw e (h.0, below-remove j k xs h.1))

  -- ---- the keys still ascend

  pub ascending-insert : (k : K) (a : A) (m : Map K A) → Ascending o m → Ascending o (insert o k a m)
  unfolding AllBelow Ascending insert
  ascending-insert k a [] h = (tt, tt)
  ascending-insert k a (x ∷ xs) h =
      three o law k x.key
      (λ e p. rw (e, p) h)
      (λ e p. rw (e, p) ((p, below_all k x.key xs p h.0), h))
      (λ e p q. rw (e, p) (below-insert x.key k a xs q h.0, ascending-insert k a xs h.1))

  pub ascending-remove : (k : K) (m : Map K A) → Ascending o m → Ascending o (remove o k m)
  unfolding Ascending remove
  ascending-remove k [] h = tt
  ascending-remove k (x ∷ xs) h =
      split (o.same k x.key) (λ e. rw e h.1) (λ e. rw e (below-remove x.key k xs h.0, ascending-remove k xs h.1))

  pub ascending-store : (k : K) (x : Option A) (m : Map K A) → Ascending o m → Ascending o (store o k x m)
  unfolding store
  ascending-store k None m h = ascending-remove k m h
  ascending-store k (Some a) m h = ascending-insert k a m h

  pub ascending-merge_with : (f : Option A → A → A) (older newer : Map K A) → Ascending o older → Ascending o (merge_with o f older newer)
  unfolding merge_with
  ascending-merge_with f older [] h = h
  ascending-merge_with f older (x ∷ xs) h = ascending-merge_with f (insert o x.key (f (lookup o x.key older) x.val) older) xs (ascending-insert x.key (f (lookup o x.key older) x.val) older h)

  -- ---- lookups

  pub lookup-insert_same : (k : K) (a : A) (m : Map K A) → lookup o k (insert o k a m) ≡ Some a
  unfolding lookup insert
  lookup-insert_same k a [] = rw (law.same_refl k)
  lookup-insert_same k a (x ∷ xs) =
      three o law k x.key
      (λ e p. rw (e, law.same_refl k))
      (λ e p. rw (e, p, law.same_refl k))
      (λ e p q. rw (e, p, e) (lookup-insert_same k a xs))

  pub lookup-insert-other : (j k : K) (a : A) (m : Map K A) → o.same j k ≡ false → lookup o j (insert o k a m) ≡ lookup o j m
  unfolding lookup insert
  lookup-insert-other j k a [] n = rw n
  lookup-insert-other j k a (x ∷ xs) n =
      three o law k x.key
      (λ e p. let q : o.same j x.key ≡ false = rw p at n in rw (e, n, q))
      (λ e p. rw (e, p, n))
      (λ e p q. rw (e, p) (ap (λ z. cond (o.same j x.key) (Some x.val) z) (lookup-insert-other j k a xs n)))

  pub lookup-remove_same : (k : K) (m : Map K A) → Ascending o m → lookup o k (remove o k m) ≡ None
  unfolding lookup remove Ascending
  lookup-remove_same k [] h = refl
  lookup-remove_same k (x ∷ xs) h =
      split (o.same k x.key)
      (λ e. rw e (rw (law.same-eq k x.key e) (lookup_below x.key xs h.0)))
      (λ e. rw (e, e) (lookup-remove_same k xs h.1))

  pub lookup-remove-other : (j k : K) (m : Map K A) → o.same j k ≡ false → lookup o j (remove o k m) ≡ lookup o j m
  unfolding lookup remove
  lookup-remove-other j k [] n = refl
  lookup-remove-other j k (x ∷ xs) n =
      split (o.same k x.key)
      (λ e. let q : o.same j x.key ≡ false = rw (law.same-eq k x.key e) at n in rw (e, q))
      (λ e. rw e (ap (λ z. cond (o.same j x.key) (Some x.val) z) (lookup-remove-other j k xs n)))

  pub lookup-store_same : (k : K) (x : Option A) (m : Map K A) → Ascending o m → lookup o k (store o k x m) ≡ x
  unfolding store
  lookup-store_same k None m h = lookup-remove_same k m h
  lookup-store_same k (Some a) m h = lookup-insert_same k a m

  pub lookup-store-other : (j k : K) (x : Option A) (m : Map K A) → o.same j k ≡ false → lookup o j (store o k x m) ≡ lookup o j m
  unfolding store
  lookup-store-other j k None m n = lookup-remove-other j k m n
  lookup-store-other j k (Some a) m n = lookup-insert-other j k a m n

  -- the same as one equation
  pub lookup-store : (j k : K) (x : Option A) (m : Map K A) → Ascending o m → lookup o j (store o k x m) ≡ cond (o.same j k) x (lookup o j m)
  lookup-store j k x m h =
      split (o.same j k)
      (λ e. rw e (rw (law.same-eq j k e) (lookup-store_same k x m h)))
      (λ e. rw e (lookup-store-other j k x m e))

  pub lookup-merge_with : (f : Option A → A → A) (k : K) (older newer : Map K A) → Ascending o newer → lookup o k (merge_with o f older newer) ≡ laid f (lookup o k older) (lookup o k newer)
  unfolding merge_with laid lookup Ascending
  lookup-merge_with f k older [] h = refl
  lookup-merge_with f k older (x ∷ xs) h =
      let j = x.key in
      let v = f (lookup o j older) x.val in
      lookup-merge_with f k (insert o j v older) xs h.1
      ∙ split (o.same k j)
      (λ e. rw (e, law.same-eq k j e, lookup_below j xs h.0, lookup-insert_same j v older))
      (λ e. rw (e, lookup-insert-other k j v older e))

  pub lookup_head : (x : Pair K A) (xs : Map K A) → lookup o x.key (x ∷ xs) ≡ Some x.val
  unfolding lookup
  lookup_head x xs = rw (law.same_refl x.key)

  -- ---- a map is what its lookups say

  tails : (x y : Pair K A) (xs ys : Map K A) → x.key ≡ y.key → AllBelow o x.key xs → AllBelow o y.key ys → ((k : K) → lookup o k (x ∷ xs) ≡ lookup o k (y ∷ ys)) → (k : K) → lookup o k xs ≡ lookup o k ys
  unfolding lookup
  tails x y xs ys p hx hy e k =
      split (o.same k x.key)
      (λ s. rw (law.same-eq k x.key s) (lookup_below x.key xs hx ∙ sym (rw (← p) at (lookup_below y.key ys hy))))
      (λ s. let t : o.same k y.key ≡ false = rw p at s in rw (s, t) at (e k))

  -- `lookup_head` at an equal key
  head_at : (k : K) (y : Pair K A) (ys : Map K A) → k ≡ y.key → lookup o k (y ∷ ys) ≡ Some y.val
  head_at k y ys p = rw p (lookup_head y ys)

  pub ext : (m n : Map K A) → Ascending o m → Ascending o n → ((k : K) → lookup o k m ≡ lookup o k n) → m ≡ n
  unfolding lookup AllBelow Ascending
  ext [] [] hm hn e = refl
  ext [] (y ∷ ys) hm hn e = absurd (none-some _ (e y.key ∙ lookup_head y ys))
  ext (x ∷ xs) [] hm hn e = absurd (some-none _ (sym (lookup_head x xs) ∙ e x.key))
  ext (x ∷ xs) (y ∷ ys) hm hn e =
      three o law x.key y.key
      (λ s p.
      let v : x.val ≡ y.val = same_Some _ _ (sym (lookup_head x xs) ∙ e x.key ∙ head_at x.key y ys p) in
      let t : xs ≡ ys = ext xs ys hm.1 hn.1 (tails x y xs ys p hm.0 hn.0 e) in
      λ i. pair (p i) (v i) ∷ t i)
      (λ s p. absurd (some-none _ (sym (lookup_head x xs) ∙ e x.key ∙ lookup_below x.key (y ∷ ys) (p, below_all x.key y.key ys p hn.0))))
      (λ s p q. absurd (some-none _ (sym (lookup_head y ys) ∙ sym (e y.key) ∙ lookup_below y.key (x ∷ xs) (q, below_all y.key x.key xs q hm.0))))

  -- ---- what is there, or absent, already

  -- a key before the first is absent
  absent : (k : K) (a : A) (x : Pair K A) (xs : Map K A) → Ascending o (x ∷ xs) → o.below k x.key ≡ true → lookup o k (x ∷ xs) ≡ Some a → ⊥
  unfolding AllBelow Ascending
  absent k a x xs h b e = some-none _ (sym e ∙ lookup_below k (x ∷ xs) (b, below_all k x.key xs b h.0))

  pub insert-again : (k : K) (a : A) (m : Map K A) → lookup o k m ≡ Some a → Ascending o m → insert o k a m ≡ m
  unfolding lookup insert Ascending
  insert-again k a [] e h = absurd (none-some _ e)
  insert-again k a (x ∷ xs) e h =
      three o law k x.key
      (λ s p. rw s (let v : a ≡ x.val = sym (same_Some _ _ (rw s at e)) in λ i. pair (p i) (v i) ∷ xs))
      (λ s p. absurd (absent k a x xs h p e))
      (λ s p q. rw (s, p) (ap (λ z. x ∷ z) (insert-again k a xs (rw s at e) h.1)))

  pub remove_absent : (k : K) (m : Map K A) → lookup o k m ≡ None → remove o k m ≡ m
  unfolding lookup remove
  remove_absent k [] e = refl
  remove_absent k (x ∷ xs) e =
      split (o.same k x.key)
      (λ s. absurd (some-none _ (rw s at e)))
      (λ s. rw s (ap (λ z. x ∷ z) (remove_absent k xs (rw s at e))))

  pub store-again : (k : K) (x : Option A) (m : Map K A) → lookup o k m ≡ x → Ascending o m → store o k x m ≡ m
  unfolding store
  store-again k None m e h = remove_absent k m e
  store-again k (Some a) m e h = insert-again k a m e h

  -- ---- two stores

  -- at one key the last one counts
  pub store-store : (k : K) (x y : Option A) (m : Map K A) → Ascending o m → store o k x (store o k y m) ≡ store o k x m
  store-store k x y m h =
      let h₁ = ascending-store k y m h in
      ext _ _ (ascending-store k x _ h₁) (ascending-store k x m h)
      (λ j. split (o.same j k)
      (λ s. rw (lookup-store j k x (store o k y m) h₁, lookup-store j k x m h, s))
      (λ s. rw (lookup-store j k x (store o k y m) h₁, lookup-store j k x m h, lookup-store j k y m h, s)))

  -- at two keys either comes first
  pub store_comm : (j k : K) (x y : Option A) (m : Map K A) → o.same j k ≡ false → Ascending o m → store o j x (store o k y m) ≡ store o k y (store o j x m)
  store_comm j k x y m n h =
      let hj = ascending-store j x m h in
      let hk = ascending-store k y m h in
      ext _ _ (ascending-store j x _ hk) (ascending-store k y _ hj)
      (λ l. rw (lookup-store l j x (store o k y m) hk, lookup-store l k y (store o j x m) hj, lookup-store l k y m h, lookup-store l j x m h)
      (split (o.same l j)
      (λ s. let t : o.same l k ≡ false = rw (law.same-eq l j s) n in rw (s, t))
      (λ s. rw s)))

  pub insert-insert : (k : K) (a b : A) (m : Map K A) → Ascending o m → insert o k a (insert o k b m) ≡ insert o k a m
  unfolding store
  insert-insert k a b m h = store-store k (Some a) (Some b) m h

  pub remove-insert : (k : K) (a : A) (m : Map K A) → lookup o k m ≡ None → Ascending o m → remove o k (insert o k a m) ≡ m
  unfolding store
  remove-insert k a m n h = store-store k None (Some a) m h ∙ remove_absent k m n

  pub insert_comm : (j k : K) (a b : A) (m : Map K A) → o.same j k ≡ false → Ascending o m → insert o j a (insert o k b m) ≡ insert o k b (insert o j a m)
  unfolding store
  insert_comm j k a b m n h = store_comm j k (Some a) (Some b) m n h

  pub insert-remove_comm : (j k : K) (a : A) (m : Map K A) → o.same j k ≡ false → Ascending o m → insert o j a (remove o k m) ≡ remove o k (insert o j a m)
  unfolding store
  insert-remove_comm j k a m n h = store_comm j k (Some a) None m n h

  -- ---- sums over a map

  pub sum-insert-none : (g : Pair K A → ℕ) (k : K) (a : A) (m : Map K A) → lookup o k m ≡ None → sum g (insert o k a m) ≡ g (pair k a) + sum g m
  unfolding lookup insert sum
  sum-insert-none g k a [] e = refl
  sum-insert-none g k a (x ∷ xs) e =
      three o law k x.key
      (λ s p. absurd (some-none _ (rw s at e)))
      (λ s p. rw (s, p))
      (λ s p q. rw (s, p) (let ih = sum-insert-none g k a xs (rw s at e) in omega (arith, ih)))

  pub sum-insert-some : (g : Pair K A → ℕ) (k : K) (a b : A) (m : Map K A) → lookup o k m ≡ Some b → Ascending o m → sum g (insert o k a m) + g (pair k b) ≡ g (pair k a) + sum g m
  unfolding lookup insert sum Ascending
  sum-insert-some g k a b [] e h = absurd (none-some _ e)
  sum-insert-some g k a b (x ∷ xs) e h =
      three o law k x.key
      (λ s p. rw s (let v : g x ≡ g (pair k b) = λ i. g (pair (sym p i) (same_Some _ _ (rw s at e) i)) in omega (arith, v)))
      (λ s p. absurd (absent k b x xs h p e))
      (λ s p q. rw (s, p) (let ih = sum-insert-some g k a b xs (rw s at e) h.1 in omega (arith, ih)))

  pub sum-remove-some : (g : Pair K A → ℕ) (k : K) (b : A) (m : Map K A) → lookup o k m ≡ Some b → sum g (remove o k m) + g (pair k b) ≡ sum g m
  unfolding lookup remove sum
  sum-remove-some g k b [] e = absurd (none-some _ e)
  sum-remove-some g k b (x ∷ xs) e =
      split (o.same k x.key)
      (λ s. rw s (let v : g x ≡ g (pair k b) = λ i. g (pair (sym (law.same-eq k x.key s) i) (same_Some _ _ (rw s at e) i)) in omega (arith, v)))
      (λ s. rw s (let ih = sum-remove-some g k b xs (rw s at e) in omega (arith, ih)))

  -- what is stored comes in, what was there goes out
  pub sum-store : (g : Pair K A → ℕ) (k : K) (x : Option A) (m : Map K A) → Ascending o m → sum g (store o k x m) + or_else 0 (λ a. g (pair k a)) (lookup o k m) ≡ or_else 0 (λ a. g (pair k a)) x + sum g m
  unfolding store or_else
  sum-store g k None m h = go (lookup o k m) refl
    where
      go : (y : Option A) → lookup o k m ≡ y → sum g (remove o k m) + or_else 0 (λ a. g (pair k a)) (lookup o k m) ≡ 0 + sum g m
      go None e = rw (e, remove_absent k m e) (omega arith)
      go (Some b) e = rw e (let s = sum-remove-some g k b m e in omega arith)
  sum-store g k (Some c) m h = go (lookup o k m) refl
    where
      go : (y : Option A) → lookup o k m ≡ y → sum g (insert o k c m) + or_else 0 (λ a. g (pair k a)) (lookup o k m) ≡ g (pair k c) + sum g m
      go None e = rw (e, sum-insert-none g k c m e) (omega arith)
      go (Some b) e = rw e (sum-insert-some g k c b m e h)

  -- ---- lengths

  pub length-insert-none : (k : K) (a : A) (m : Map K A) → lookup o k m ≡ None → length (insert o k a m) ≡ suc (length m)
  unfolding lookup insert
  length-insert-none k a [] e = refl
  length-insert-none k a (x ∷ xs) e =
      three o law k x.key
      (λ s p. absurd (some-none _ (rw s at e)))
      (λ s p. rw (s, p))
      (λ s p q. rw (s, p) (ap suc (length-insert-none k a xs (rw s at e))))

  pub length-insert-some : (k : K) (a b : A) (m : Map K A) → lookup o k m ≡ Some b → Ascending o m → length (insert o k a m) ≡ length m
  unfolding lookup insert Ascending
  length-insert-some k a b [] e h = absurd (none-some _ e)
  length-insert-some k a b (x ∷ xs) e h =
      three o law k x.key
      (λ s p. rw s)
      (λ s p. absurd (absent k b x xs h p e))
      (λ s p q. rw (s, p) (ap suc (length-insert-some k a b xs (rw s at e) h.1)))

  pub length-insert-le : (k : K) (a : A) (m : Map K A) → length m ≤ length (insert o k a m)
  unfolding insert
  length-insert-le k a [] = omega arith
  length-insert-le k a (x ∷ xs) =
      three o law k x.key
      (λ s p. rw s (omega arith))
      (λ s p. rw (s, p) (omega arith))
      (λ s p q. rw (s, p) (let ih = length-insert-le k a xs in omega arith))

  pub length-insert-most : (k : K) (a : A) (m : Map K A) → length (insert o k a m) ≤ suc (length m)
  unfolding insert
  length-insert-most k a [] = omega arith
  length-insert-most k a (x ∷ xs) =
      three o law k x.key
      (λ s p. rw s (omega arith))
      (λ s p. rw (s, p) (omega arith))
      (λ s p q. rw (s, p) (let ih = length-insert-most k a xs in omega arith))

  pub length-remove-some : (k : K) (b : A) (m : Map K A) → lookup o k m ≡ Some b → suc (length (remove o k m)) ≡ length m
  unfolding lookup remove
  length-remove-some k b [] e = absurd (none-some _ e)
  length-remove-some k b (x ∷ xs) e = split (o.same k x.key) (λ s. rw s) (λ s. rw s (ap suc (length-remove-some k b xs (rw s at e))))

  pub length-remove-none : (k : K) (m : Map K A) → lookup o k m ≡ None → length (remove o k m) ≡ length m
  length-remove-none k m e = rw (remove_absent k m e)

  pub length-remove-le : (k : K) (m : Map K A) → length (remove o k m) ≤ length m
  unfolding remove
  length-remove-le k [] = omega arith
  length-remove-le k (x ∷ xs) =
      split (o.same k x.key) (λ s. rw s (omega arith)) (λ s. rw s (let ih = length-remove-le k xs in omega arith))

  pub length-older : (f : Option A → A → A) (older newer : Map K A) → length older ≤ length (merge_with o f older newer)
  unfolding merge_with
  length-older f older [] = omega arith
  length-older f older (x ∷ xs) =
      let v = f (lookup o x.key older) x.val in
      let ih = length-older f (insert o x.key v older) xs in
      let st = length-insert-le x.key v older in
      omega arith

  -- ---- every pair of a map

  pub every-lookup : (P : Pair K A → Bool) (k : K) (a : A) (m : Map K A) → every P m ≡ true → lookup o k m ≡ Some a → P (pair k a) ≡ true
  unfolding lookup every
  every-lookup P k a [] h e = absurd (none-some _ e)
  every-lookup P k a (x ∷ xs) h e =
      and_both (P x) (every P xs) h
      (λ p q. split (o.same k x.key)
      (λ s. (λ i. P (pair (law.same-eq k x.key s i) (sym (same_Some _ _ (rw s at e)) i))) ∙ p)
      (λ s. every-lookup P k a xs q (rw s at e)))

  pub every_intro : (P : Pair K A → Bool) (m : Map K A) → Ascending o m → ((k : K) (a : A) → lookup o k m ≡ Some a → P (pair k a) ≡ true) → every P m ≡ true
  unfolding lookup every Ascending
  every_intro P [] h f = refl
  every_intro P (x ∷ xs) h f =
      rw (f x.key x.val (lookup_head x xs))
      (every_intro P xs h.1
      (λ k a e. split (o.same k x.key)
      (λ s. absurd (some-none _ (sym e ∙ rw (law.same-eq k x.key s) (lookup_below x.key xs h.0))))
      (λ s. f k a (rw s e))))

  pub every-insert : (P : Pair K A → Bool) (k : K) (a : A) (m : Map K A) → every P m ≡ true → P (pair k a) ≡ true → every P (insert o k a m) ≡ true
  unfolding insert every
  every-insert P k a [] h e = rw e
  every-insert P k a (x ∷ xs) h e =
      and_both (P x) (every P xs) h
      (λ p q. three o law k x.key
      (λ s r. rw (s, e) q)
      (λ s r. rw (s, r, e) h)
      (λ s r t. rw (s, r, p) (every-insert P k a xs q e)))

  pub every-remove : (P : Pair K A → Bool) (k : K) (m : Map K A) → every P m ≡ true → every P (remove o k m) ≡ true
  unfolding remove every
  every-remove P k [] h = refl
  every-remove P k (x ∷ xs) h =
      and_both (P x) (every P xs) h
      (λ p q. split (o.same k x.key) (λ s. rw s q) (λ s. rw (s, p) (every-remove P k xs q)))

  pub every-store : (P : Pair K A → Bool) (k : K) (x : Option A) (m : Map K A) → every P m ≡ true → ((a : A) → x ≡ Some a → P (pair k a) ≡ true) → every P (store o k x m) ≡ true
  unfolding store
  every-store P k None m h f = every-remove P k m h
  every-store P k (Some a) m h f = every-insert P k a m h (f a refl)

  -- ---- the pairs that meet a test

  below-select : (j : K) (P : Pair K A → Bool) (m : Map K A) → AllBelow o j m → AllBelow o j (select P m)
  unfolding AllBelow select
  below-select j P [] h = tt
  below-select j P (x ∷ xs) h = split (P x) (λ e. rw e (h.0, below-select j P xs h.1)) (λ e. rw e (below-select j P xs h.1))

  pub ascending-select : (P : Pair K A → Bool) (m : Map K A) → Ascending o m → Ascending o (select P m)
  unfolding Ascending select
  ascending-select P [] h = tt
  ascending-select P (x ∷ xs) h =
      split (P x) (λ e. rw e (below-select x.key P xs h.0, ascending-select P xs h.1)) (λ e. rw e (ascending-select P xs h.1))

  pub lookup-select : (P : Pair K A → Bool) (k : K) (m : Map K A) → Ascending o m → lookup o k (select P m) ≡ kept (λ a. P (pair k a)) (lookup o k m)
  unfolding lookup select kept Ascending
  lookup-select P k [] h = refl
  lookup-select P k (x ∷ xs) h =
      split (o.same k x.key)
      (λ s.
      let p = law.same-eq k x.key s in
      let n : lookup o k (select P xs) ≡ None = rw p (lookup_below x.key (select P xs) (below-select x.key P xs h.0)) in
      split (P x) (λ e. rw (e, s, p, e)) (λ e. rw (e, s, n, p, e)))
      (λ s. split (P x) (λ e. rw (e, s) (lookup-select P k xs h.1)) (λ e. rw (e, s) (lookup-select P k xs h.1)))

  -- ---- places: what lies before k, and at k

  -- past the pairs whose keys lie below k
  pub lookup-past : (k : K) (xs ys : Map K A) → every (λ p. o.below p.key k) xs ≡ true → lookup o k (xs ++ ys) ≡ lookup o k ys
  unfolding lookup every
  lookup-past k [] ys h = refl
  lookup-past k (x ∷ xs) ys h =
      and_both (o.below x.key k) _ h (λ p q. rw (above-differs o law x.key k p) (lookup-past k xs ys q))

  pub remove-past : (k : K) (xs ys : Map K A) → every (λ p. o.below p.key k) xs ≡ true → remove o k (xs ++ ys) ≡ xs ++ remove o k ys
  unfolding remove every
  remove-past k [] ys h = refl
  remove-past k (x ∷ xs) ys h =
      and_both (o.below x.key k) _ h (λ p q. rw (above-differs o law x.key k p) (ap (λ z. x ∷ z) (remove-past k xs ys q)))

  pub insert-past : (k : K) (a : A) (xs ys : Map K A) → every (λ p. o.below p.key k) xs ≡ true → insert o k a (xs ++ ys) ≡ xs ++ insert o k a ys
  unfolding insert every
  insert-past k a [] ys h = refl
  insert-past k a (x ∷ xs) ys h =
      and_both (o.below x.key k) _ h
      (λ p q. rw (above-differs o law x.key k p, below-not_back o law x.key k p) (ap (λ z. x ∷ z) (insert-past k a xs ys q)))

  -- at the first pair: k itself, or a later key
  pub lookup_here : (k : K) (x : Pair K A) (xs : Map K A) → o.same k x.key ≡ true → lookup o k (x ∷ xs) ≡ Some x.val
  unfolding lookup
  lookup_here k x xs e = rw e

  pub insert_here : (k : K) (a : A) (x : Pair K A) (xs : Map K A) → o.same k x.key ≡ true → insert o k a (x ∷ xs) ≡ pair k a ∷ xs
  unfolding insert
  insert_here k a x xs e = rw e

  pub remove_here : (k : K) (x : Pair K A) (xs : Map K A) → o.same k x.key ≡ true → remove o k (x ∷ xs) ≡ xs
  unfolding remove
  remove_here k x xs e = rw e

  pub insert_below : (k : K) (a : A) (m : Map K A) → AllBelow o k m → insert o k a m ≡ pair k a ∷ m
  unfolding insert AllBelow
  insert_below k a [] h = refl
  insert_below k a (x ∷ xs) h = rw (below-differs o law k x.key h.0, h.0)

  -- a key below the first pair's is below all
  pub below-first : (k : K) (x : Pair K A) (xs : Map K A) → Ascending o (x ∷ xs) → o.below k x.key ≡ true → AllBelow o k (x ∷ xs)
  unfolding AllBelow Ascending
  below-first k x xs h b = (b, below_all k x.key xs b h.0)

  below-get_or : (k : K) (m : Map K A) (i : ℕ) (z : Pair K A) → AllBelow o k m → i < length m → o.below k (get_or m i z).key ≡ true
  unfolding AllBelow
  below-get_or k [] i z h l = absurd (omega arith)
  below-get_or k (x ∷ xs) zero z h l = h.0
  below-get_or k (x ∷ xs) (suc i) z h l = below-get_or k xs i z h.1 (omega arith)

  pub ascending-get_or : (m : Map K A) (i j : ℕ) (z : Pair K A) → Ascending o m → i < j → j < length m → o.below (get_or m i z).key (get_or m j z).key ≡ true
  unfolding Ascending
  ascending-get_or [] i j z h l b = absurd (omega arith)
  ascending-get_or (x ∷ xs) i zero z h l b = absurd (omega arith)
  ascending-get_or (x ∷ xs) zero (suc j) z h l b = below-get_or x.key xs j z h.0 (omega arith)
  ascending-get_or (x ∷ xs) (suc i) (suc j) z h l b = ascending-get_or xs i j z h.1 (omega arith) (omega arith)

  -- neighbours in order are enough
  pub ascending_if : (m : Map K A) (z : Pair K A) → ((i : ℕ) → suc i < length m → o.below (get_or m i z).key (get_or m (suc i) z).key ≡ true) → Ascending o m
  unfolding Ascending AllBelow
  ascending_if [] z f = tt
  ascending_if (x ∷ []) z f = (tt, tt)
  ascending_if (x ∷ (y ∷ ys)) z f =
      let t = ascending_if (y ∷ ys) z (λ i l. f (suc i) (omega arith)) in
      (below-first x.key y ys t (f 0 (omega arith)), t)

  pub lookup-get_or : (m : Map K A) (i : ℕ) (z : Pair K A) → Ascending o m → i < length m → lookup o (get_or m i z).key m ≡ Some (get_or m i z).val
  unfolding lookup Ascending
  lookup-get_or [] i z h l = absurd (omega arith)
  lookup-get_or (x ∷ xs) zero z h l = lookup_head x xs
  lookup-get_or (x ∷ xs) (suc i) z h l =
      rw (above-differs o law x.key (get_or xs i z).key (below-get_or x.key xs i z h.0 (omega arith))) (lookup-get_or xs i z h.1 (omega arith))

  -- what is found has a place
  pub lookup-place : (k : K) (a : A) (m : Map K A) (z : Pair K A) → lookup o k m ≡ Some a → (i : ℕ) × (i < length m) × (get_or m i z ≡ pair k a)
  unfolding lookup
  lookup-place k a [] z e = absurd (none-some _ e)
  lookup-place k a (x ∷ xs) z e =
      split (o.same k x.key)
      (λ s. (0, omega arith, λ i. pair (sym (law.same-eq k x.key s) i) (same_Some _ _ (rw s at e) i)))
      (λ s. let r = lookup-place k a xs z (rw s at e) in (suc r.0, omega (arith, r.1), r.2))

module _ {K A B : Type 0} (o : Order K) (law : Lawful o) where
  -- no longer than a map that has all its keys
  pub length-sub : (m : Map K A) (n : Map K B) → Ascending o m → ((k : K) → lookup o k n ≡ None → lookup o k m ≡ None) → length m ≤ length n
  unfolding lookup Ascending
  length-sub [] n h f = omega arith
  length-sub (x ∷ xs) n h f = go (lookup o x.key n) refl (length-sub xs (remove o x.key n) h.1)
    where
      go : (y : Option B) → lookup o x.key n ≡ y → (((k : K) → lookup o k (remove o x.key n) ≡ None → lookup o k xs ≡ None) → length xs ≤ length (remove o x.key n)) → suc (length xs) ≤ length n
      go None e ih = absurd (some-none _ (sym (lookup_head o law x xs) ∙ f x.key e))
      go (Some b) e ih =
          let l = ih (λ k z. split (o.same k x.key)
          (λ s. rw (law.same-eq k x.key s) (lookup_below o law x.key xs h.0))
          (λ s. rw s at (f k (sym (lookup-remove-other o law k x.key n s) ∙ z)))) in
          let r = length-remove-some o law x.key b n e in
          omega arith

  below-map : (f : A → B) (j : K) (m : Map K A) → AllBelow o j m → AllBelow o j (map (λ p. pair p.key (f p.val)) m)
  unfolding AllBelow
  below-map f j [] h = tt
  below-map f j (x ∷ xs) h = (h.0, below-map f j xs h.1)

  -- the values changed, the keys kept
  pub ascending-map : (f : A → B) (m : Map K A) → Ascending o m → Ascending o (map (λ p. pair p.key (f p.val)) m)
  unfolding Ascending
  ascending-map f [] h = tt
  ascending-map f (x ∷ xs) h = (below-map f x.key xs h.0, ascending-map f xs h.1)

  pub lookup-map : (f : A → B) (k : K) (m : Map K A) → lookup o k (map (λ p. pair p.key (f p.val)) m) ≡ map_option f (lookup o k m)
  unfolding lookup map_option
  lookup-map f k [] = refl
  lookup-map f k (x ∷ xs) = split (o.same k x.key) (λ s. rw s) (λ s. rw s (lookup-map f k xs))

module _ {K A : Type 0} (o : Order K) (law : Lawful o) where
  laid_none : (f : Option A → A → A) (x y : Option A) → laid f x y ≡ None → y ≡ None
  unfolding laid
  laid_none f x None e = refl
  laid_none f x (Some b) e = absurd (some-none _ e)

  pub length-newer : (f : Option A → A → A) (older newer : Map K A) → Ascending o newer → length newer ≤ length (merge_with o f older newer)
  length-newer f older newer h =
      length-sub o law newer (merge_with o f older newer) h
      (λ k e. laid_none f (lookup o k older) (lookup o k newer) (sym (lookup-merge_with o law f k older newer h) ∙ e))
