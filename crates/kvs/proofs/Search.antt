-- The turns of the search for a key by halves: the stretch of rows that is left has the place of the whole. Assumes nothing.
use Rattle.rules.specs.Causes.{Ok, Err}
use Prim.Native.Nat.{ℕ, suc, ◌+◌, ◌-◌, ◌≤◌, ◌<◌}
use native.Mathlib.Nat.{add-zero, suc-add, add-suc}
use native.Mathlib.Numerals.{add-one}
use native.Mathlib.Omega.{arith}
use mathlib.Core.Bool.{true, false, cond}
use mathlib.Core.Path.{◌≡◌, ap, ◌∙◌}
use mathlib.Core.List.{List, [], ◌∷◌, ◌++◌}
use lib.ListN.{length}
use Rattle.cells.specs.Part.{part}
use Rattle.cells.specs.PartLaws.{part_all, part_none, part_cut, length_part}
use Rattle.std.specs.declared.cmp.Ordering.{Ordering}
use Rattle.std.specs.declared.cmp.Ordering.TheVariants.{Less, Equal, Greater}
use Rattle.cells.specs.Bytes.{byte_order}
use Rattle.maps.specs.Maps.{Pair, Map, bytes, equal_bytes, bytes_below}
use Rattle.maps.specs.OrderLaws.{bytes_lawful, below-differs, above-differs, below-not_back}
use Rattle.maps.specs.MapLaws.{AllBelow, Ascending}
use Rattle.rules.specs.Table.{Held}
use Rattle.kvs.specs.Rows.{keys_in}
use Rattle.kvs.specs.RowLaws.{length-keys}
use Rattle.kvs.specs.Orders.{below_by-order, same_by-order}
use Rattle.kvs.specs.Places.{place_from, place_of, pair_at, Within}
use Rattle.kvs.specs.PlaceLaws.{pairs_from, place-within}
use Rattle.kvs.specs.Stretches.{ascending-part, below_through}

-- ---- the place of k among keys with x between them

module _ (k : List ℕ) (x : Pair (List ℕ) Held) (t : Map (List ℕ) Held) where
  -- k is below x: the keys before x have its place
  place-front : (i : ℕ) (s : Map (List ℕ) Held) → bytes_below k x.key ≡ true → place_from i k (s ++ (x ∷ t)) ≡ place_from i k s
  unfolding place_from
  place-front i [] b = rw (below-differs bytes bytes_lawful k x.key b, b)
  place-front i (y ∷ s) b = ap (λ p. cond (equal_bytes k y.key) (Ok i) (cond (bytes_below k y.key) (Err i) p)) (place-front (suc i) s b)

  below-later : (j : List ℕ) (s : Map (List ℕ) Held) → AllBelow bytes j (s ++ (x ∷ t)) → bytes_below j x.key ≡ true
  unfolding AllBelow
  below-later j [] h = h.0
  below-later j (y ∷ s) h = below-later j s h.1

  -- k is not below x: x and the keys after it have its place
  place_rest : (i : ℕ) (s : Map (List ℕ) Held) → Ascending bytes (s ++ (x ∷ t)) → bytes_below k x.key ≡ false → place_from i k (s ++ (x ∷ t)) ≡ place_from (i + length s) k (x ∷ t)
  unfolding place_from Ascending
  place_rest i [] a b = rw (add-zero i)
  place_rest i (y ∷ s) a b =
      let below : bytes_below y.key k ≡ true = below_through k x.key y.key (below-later y.key s a.0) b in
      rw (
        above-differs bytes bytes_lawful y.key k below,
        below-not_back bytes bytes_lawful y.key k below,
        add-suc i (length s),
        ← suc-add i (length s),
      )
      (place_rest (suc i) s a.1 b)

-- ---- the turns

module _ (m : Map (List ℕ) Held) (key : List ℕ) where
  -- before the first turn all keys are left
  pub place_all : (n : ℕ) → n ≡ length m → place_of key m ≡ place_from 0 key (part 0 (n - 0) m)
  unfolding place_of
  place_all n h =
      let e : length m ≡ n - 0 = omega arith in
      rw (part_all (n - 0) m e)

  -- none is left
  pub place_none : (low high : ℕ) → high ≤ low → place_from low key (part low (high - low) m) ≡ Err low
  unfolding place_from
  place_none low high h =
      let e : high - low ≡ 0 = omega arith in
      rw (e, part_none low m)

  module _ (low mid high : ℕ) (b : low ≤ mid) (h : mid < high) (w : Ascending bytes m) (f : high ≤ length m) where
    -- the rows that are left, by row mid
    left_by_lem : part low (high - low) m ≡ part low (mid - low) m ++ (pair_at mid m ∷ part (mid + 1) (high - (mid + 1)) m)
    unfolding part
    left_by_lem =
        let e₁ : low + (mid - low) ≡ mid = omega arith in
        let e₂ : high - low - (mid - low) ≡ suc (high - (mid + 1)) = omega arith in
        part_cut (mid - low) low (high - low) m (omega arith) ∙ rw (e₁, e₂, pairs_from mid m (omega arith), add-one mid)

    left-ascend : Ascending bytes (part low (mid - low) m ++ (pair_at mid m ∷ part (mid + 1) (high - (mid + 1)) m))
    left-ascend = rw left_by_lem at (ascending-part low (high - low) m w)

    front_length : low + length (part low (mid - low) m) ≡ mid
    front_length = let g : length (part low (mid - low) m) ≡ mid - low = length_part low (mid - low) m (omega arith) in omega arith

    module _ {k : List ℕ} {o : Ordering} (e : k ≡ (pair_at mid m).key) (g : o ≡ byte_order key k) where
      order : o ≡ byte_order key (pair_at mid m).key
      order = rw e at g

      pub place-less : o ≡ Less → place_from low key (part low (high - low) m) ≡ place_from low key (part low (mid - low) m)
      place-less q =
          rw left_by_lem
          (place-front key (pair_at mid m) _ low _ (rw (below_by-order key (pair_at mid m).key, ← order, q)))

      pub place_equal : o ≡ Equal → place_from low key (part low (high - low) m) ≡ Ok mid
      unfolding place_from
      place_equal q =
          let x = (pair_at mid m).key in
          rw (left_by_lem, place_rest key (pair_at mid m) _ low _ left-ascend (rw (below_by-order key x, ← order, q)), front_length, same_by-order key x, ← order, q)

      pub place-greater : o ≡ Greater → place_from low key (part low (high - low) m) ≡ place_from (mid + 1) key (part (mid + 1) (high - (mid + 1)) m)
      unfolding place_from
      place-greater q =
          let x = (pair_at mid m).key in
          rw (left_by_lem, place_rest key (pair_at mid m) _ low _ left-ascend (rw (below_by-order key x, ← order, q)), front_length, same_by-order key x, below_by-order key x, ← order, q, add-one mid)

-- ---- what a place says

module _ (m : Map (List ℕ) Held) (key : List ℕ) (i : ℕ) where
  pub at_within : place_of key m ≡ Ok i → i < length m
  unfolding Within
  at_within e = rw e at (place-within key m)

  pub before_within : place_of key m ≡ Err i → i ≤ length m
  unfolding Within
  before_within e = rw e at (place-within key m)

module _ (n : ℕ) (rows bs key : List ℕ) (i : ℕ) where
  pub at_below : place_of key (keys_in n rows bs) ≡ Ok i → i < n
  at_below e = rw length-keys at (at_within (keys_in n rows bs) key i e)

  pub before_below : place_of key (keys_in n rows bs) ≡ Err i → i ≤ n
  before_below e = rw length-keys at (before_within (keys_in n rows bs) key i e)
