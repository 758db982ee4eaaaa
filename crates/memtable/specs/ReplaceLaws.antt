-- What `replaced` and `stopsAt` make of two windows, where the first k entries are replaced and no more. Assumes nothing.
use Rattle.std.proofs.Math.Bool.{true}
use Rattle.std.specs.Prelude.{false, ◌≡◌, take, drop}
use mathlib.Core.List.{List, [], ◌∷◌, ◌++◌, append-nil}
use Rattle.std.specs.Prelude.{Option, None, Some}
use Rattle.std.proofs.Math.Path.{refl}
use Rattle.std.proofs.Common.{sym, ap, ◌∙◌, add-zero, drop-drop}
use Prim.Native.Nat.{ℕ, zero, suc, ◌+◌, ◌-◌, ◌*◌, ◌≤◌, ◌<◌, min}
use Rattle.std.proofs.Math.Nat.{sub-zero}
use native.Mathlib.Omega.{arith}
use Rattle.maps.specs.Lists.{front, or_else}
use Rattle.pipe_log.specs.Rows.{entry_of, with_index, window}
use Rattle.rules.specs.Items.{EntryIndex}
use Rattle.rules.specs.Table.{replaces, replaced, stops_at, meets_rewrite}
use Rattle.memtable.specs.Views.{row_at}
use Rattle.memtable.specs.ListLaws.{front_all}
use Rattle.memtable.specs.Rewrites.{moved, Run}
use Rattle.memtable.specs.WindowLaws.{length-window, row_at-zero, row_at-suc, row_at-drop, window_all, window-cut}

module _ (gate : Option ℕ) where
  -- what is left after the first row of a window
  module _ (a k n : ℕ) (ys : List ℕ) where
    left : window (suc a + k) (n - k) (drop (k * 8) (drop 8 ys)) ≡ window (a + suc k) (suc n - suc k) (drop (suc k * 8) ys)
    left =
        let e : suc a + k ≡ a + suc k = omega arith in
        let d : n - k ≡ suc n - suc k = omega arith in
        let z : 8 + k * 8 ≡ suc k * 8 = omega arith in
        rw (drop-drop (k * 8) 8 ys, e, d, z)

  replaced-steps : (a n m k : ℕ) (ys zs : List ℕ) → k ≤ n → k ≤ m → ((i : ℕ) → i < k → replaces gate (row_at a ys i) ≡ true)
      → replaced gate (window a n ys) (window a m zs) ≡ window a k zs ++ replaced gate (window (a + k) (n - k) (drop (k * 8) ys)) (window (a + k) (m - k) (drop (k * 8) zs))
  unfolding window replaced
  replaced-steps a n m zero ys zs u v h = rw (add-zero a, sub-zero n, sub-zero m)
  replaced-steps a zero m (suc k) ys zs u v h = absurd (omega arith)
  replaced-steps a (suc n) zero (suc k) ys zs u v h = absurd (omega arith)
  replaced-steps a (suc n) (suc m) (suc k) ys zs u v h =
      rw (rw (row_at-zero a ys) at (h 0 (omega arith)))
      (ap (λ (l : List EntryIndex). with_index a (entry_of zs) ∷ l)
      (replaced-steps (suc a) n m k (drop 8 ys) (drop 8 zs) (omega arith) (omega arith) (λ i l. rw (row_at-suc a ys i) (h (suc i) (omega arith)))
      ∙ rw (left a k n ys, left a k m zs)))

  stops-steps : (a n m k : ℕ) (ys zs : List ℕ) → k ≤ n → k ≤ m → ((i : ℕ) → i < k → replaces gate (row_at a ys i) ≡ true)
      → stops_at gate (window a n ys) (window a m zs) ≡ stops_at gate (window (a + k) (n - k) (drop (k * 8) ys)) (window (a + k) (m - k) (drop (k * 8) zs))
  unfolding window stops_at
  stops-steps a n m zero ys zs u v h = rw (add-zero a, sub-zero n, sub-zero m)
  stops-steps a zero m (suc k) ys zs u v h = absurd (omega arith)
  stops-steps a (suc n) zero (suc k) ys zs u v h = absurd (omega arith)
  stops-steps a (suc n) (suc m) (suc k) ys zs u v h =
      rw (rw (row_at-zero a ys) at (h 0 (omega arith)))
      (stops-steps (suc a) n m k (drop 8 ys) (drop 8 zs) (omega arith) (omega arith) (λ i l. rw (row_at-suc a ys i) (h (suc i) (omega arith)))
      ∙ rw (left a k n ys, left a k m zs))

  -- where no more is replaced
  replaced_stop : (a n m : ℕ) (ys zs : List ℕ) → (0 < n → 0 < m → replaces gate (row_at a ys 0) ≡ false) → replaced gate (window a n ys) (window a m zs) ≡ window a n ys
  unfolding window replaced
  replaced_stop a zero m ys zs h = refl
  replaced_stop a (suc n) zero ys zs h = refl
  replaced_stop a (suc n) (suc m) ys zs h = rw (rw (row_at-zero a ys) at (h (omega arith) (omega arith)))

  none-meets : (g : Option ℕ) → meets_rewrite g None ≡ false
  unfolding meets_rewrite or_else
  none-meets None = refl
  none-meets (Some g) = refl

  stops_stop : (a n m : ℕ) (ys zs : List ℕ) → (0 < n → 0 < m → replaces gate (row_at a ys 0) ≡ false) → (0 < n → 0 < m → meets_rewrite gate (Some (row_at a ys 0)) ≡ false)
      → meets_rewrite gate (stops_at gate (window a n ys) (window a m zs)) ≡ false
  unfolding window stops_at
  stops_stop a zero m ys zs h d = none-meets gate
  stops_stop a (suc n) zero ys zs h d = none-meets gate
  stops_stop a (suc n) (suc m) ys zs h d =
      rw (rw (row_at-zero a ys) at (h (omega arith) (omega arith))) (rw (row_at-zero a ys) at (d (omega arith) (omega arith)))

  -- an overlap whose first entry is not replaced
  pub stops_first : (a n m : ℕ) (ys zs : List ℕ) → 0 < n → 0 < m → replaces gate (row_at a ys 0) ≡ false → stops_at gate (window a n ys) (window a m zs) ≡ Some (row_at a ys 0)
  unfolding window stops_at
  stops_first a zero m ys zs u v h = absurd (omega arith)
  stops_first a (suc n) zero ys zs u v h = absurd (omega arith)
  stops_first a (suc n) (suc m) ys zs u v h = rw (rw (row_at-zero a ys) at h) (ap Some (sym (row_at-zero a ys)))

  front_stop : (a n : ℕ) (ys : List ℕ) → (0 < n → replaces gate (row_at a ys 0) ≡ false) → front (replaces gate) (window a n ys) ≡ []
  unfolding window front
  front_stop a zero ys h = refl
  front_stop a (suc n) ys h = rw (rw (row_at-zero a ys) at (h (omega arith)))

  take-window : (a n m : ℕ) (ys : List ℕ) → take m (window a n ys) ≡ window a (min n m) ys
  unfolding window
  take-window a n zero ys = rw (none_left n)
    where
      none_left : (n : ℕ) → min n 0 ≡ 0
      none_left n = omega arith
  take-window a zero (suc m) ys = let e : min 0 (suc m) ≡ 0 = omega arith in rw e
  take-window a (suc n) (suc m) ys =
      let e : min (suc n) (suc m) ≡ suc (min n m) = omega arith in
      rw e (ap (λ (l : List EntryIndex). with_index a (entry_of ys) ∷ l) (take-window (suc a) n m (drop 8 ys)))

  -- ---- by a run

  module _ (a n m k : ℕ) (ys zs : List ℕ) (r : Run gate a ys (min n m) k) where
    at_stop : 0 < n - k → 0 < m - k → replaces gate (row_at (a + k) (drop (k * 8) ys) 0) ≡ false
    at_stop u v = rw (row_at-drop a k ys 0, add-zero k) (r.stop (omega arith))

    at_meets : 0 < n - k → 0 < m - k → meets_rewrite gate (Some (row_at (a + k) (drop (k * 8) ys) 0)) ≡ false
    at_meets u v = rw (row_at-drop a k ys 0, add-zero k) (r.meets (omega arith))

    pub replaced_run : replaced gate (window a n ys) (window a m zs) ≡ window a k zs ++ window (a + k) (n - k) (drop (k * 8) ys)
    replaced_run =
        replaced-steps a n m k ys zs (omega (arith, r.most)) (omega (arith, r.most)) r.all
        ∙ rw (replaced_stop (a + k) (n - k) (m - k) (drop (k * 8) ys) (drop (k * 8) zs) at_stop)

    pub stops_run : meets_rewrite gate (stops_at gate (window a n ys) (window a m zs)) ≡ false
    stops_run =
        rw (stops-steps a n m k ys zs (omega (arith, r.most)) (omega (arith, r.most)) r.all)
        (stops_stop (a + k) (n - k) (m - k) (drop (k * 8) ys) (drop (k * 8) zs) at_stop at_meets)

    pub moved_run : moved gate (window a n ys) (window a m zs) ≡ k
    unfolding moved
    moved_run =
        rw (
          length-window a m zs,
          take-window a n m ys,
          window-cut a (min n m) k ys r.most,
          front_all (replaces gate) (window (a + k) (min n m - k) (drop (k * 8) ys)) (window_all (replaces gate) true a k ys r.all),
          front_stop (a + k) (min n m - k) (drop (k * 8) ys) (λ u. at_stop (omega arith) (omega arith)),
          append-nil (window a k ys),
        )
        (length-window a k ys)
