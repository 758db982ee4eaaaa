-- The pairs of a map that meet a test, from place to place. Assumes nothing.
use Prim.Native.Nat.{ℕ, suc, ◌+◌, ◌-◌, ◌≤◌, ◌<◌}
use native.Mathlib.Numerals.{add-one}
use native.Mathlib.Nat.{sub-zero}
use native.Mathlib.Omega.{arith}
use mathlib.Core.Bool.{Bool, true, false, cond}
use mathlib.Core.Path.{◌≡◌, refl}
use mathlib.Core.List.{List, [], ◌∷◌, ◌++◌, map, reverse, reverse-append, append-nil}
use lib.ListN.{length, take, drop, drop_of_length-le}
use lib.Seq.{take_all, take-suc}
use Rattle.maps.specs.Lists.{select}
use Rattle.maps.specs.Maps.{Pair, Map}
use Rattle.maps.specs.OrderLaws.{split}
use Rattle.maps.specs.ListLaws.{select-append}
use Rattle.rules.specs.Table.{Held}
use Rattle.rules.specs.TableQueries.{KeyValue, row_of, in_direction}
use Rattle.kvs.specs.RowLaws.{map-append}
use Rattle.kvs.specs.Places.{no_pair, pair_at}
use Rattle.kvs.specs.PlaceLaws.{pairs_from}

module _ (p : Pair (List ℕ) Held → Bool) (m : Map (List ℕ) Held) where
  -- those from place i on
  pub selected : ℕ → Map (List ℕ) Held
  selected i = select p (drop i m)

  pub selected_all : selected 0 ≡ select p m
  unfolding selected
  selected_all = refl

  pub selected_none : (i : ℕ) → length m ≤ i → selected i ≡ []
  unfolding selected select
  selected_none i h = rw (drop_of_length-le m h)

  pub selected-more : (i : ℕ) → i < length m → selected i ≡ cond (p (pair_at i m)) (pair_at i m ∷ selected (suc i)) (selected (suc i))
  unfolding selected select
  selected-more i h = rw (pairs_from i m h)

  pub count_more : (i : ℕ) → i < length m → length (selected i) ≡ cond (p (pair_at i m)) 1 0 + length (selected (i + 1))
  count_more i h =
      split (p (pair_at i m))
      (λ e. rw (selected-more i h, e, add-one i) (omega arith))
      (λ e. rw (selected-more i h, e, add-one i) (omega arith))

  -- ---- in a direction

  pairs_snoc : (i : ℕ) → i < length m → take (suc i) m ≡ take i m ++ (pair_at i m ∷ [])
  unfolding pair_at
  pairs_snoc i h = take-suc m i no_pair h

  -- the rows that are left after s turns from the front, and from the back
  pub left : Bool → ℕ → List KeyValue
  left false s = map row_of (selected s)
  left true s = reverse (map row_of (select p (take (length m - s) m)))

  pub left_all : (b : Bool) → left b 0 ≡ in_direction b (map row_of (select p m))
  unfolding left in_direction selected
  left_all false = refl
  left_all true = rw (sub-zero (length m), take_all (length m) m (omega arith))

  pub left-none : (b : Bool) (s : ℕ) → length m ≤ s → left b s ≡ []
  unfolding left select
  left-none false s h = rw (selected_none s h)
  left-none true s h = let e : length m - s ≡ 0 = omega arith in rw e

  back : (s j : ℕ) → s < length m → j ≡ length m - 1 - s
      → left true s ≡ cond (p (pair_at j m)) (row_of (pair_at j m) ∷ left true (suc s)) (left true (suc s))
  unfolding left select
  back s j h e =
      let x = pair_at j m in
      let a : length m - s ≡ suc j = omega arith in
      let b : length m - suc s ≡ j = omega arith in
      rw (a, b, pairs_snoc j (omega arith), select-append p (take j m) (x ∷ []))
      (split (p x)
      (λ t. rw (t, map-append row_of (select p (take j m)) (x ∷ []), reverse-append (map row_of (select p (take j m))) (row_of x ∷ [])))
      (λ t. rw (t, map-append row_of (select p (take j m)) [], append-nil (map row_of (select p (take j m))))))

  pub left-more : (b : Bool) (s j : ℕ) → s < length m → j ≡ cond b (length m - 1 - s) s
      → left b s ≡ cond (p (pair_at j m)) (row_of (pair_at j m) ∷ left b (suc s)) (left b (suc s))
  unfolding left
  left-more true s j h e = back s j h e
  left-more false s j h e =
      rw e
      (split (p (pair_at s m))
      (λ t. rw (selected-more s h, t))
      (λ t. rw (selected-more s h, t)))
