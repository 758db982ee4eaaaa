-- The laws of rows: rows of neighbouring stretches, of stretches that are the same, and of parts with a row put in or taken out.
-- Assumes nothing.
use Prim.Native.Nat.{ℕ, zero, suc, ◌+◌, ◌*◌, ◌-◌, ◌≤◌, ◌<◌}
use Rattle.std.proofs.Math.Nat.{zero-add, suc-add, add-suc, add-zero}
use native.Mathlib.Omega.{arith}
use Rattle.std.specs.Prelude.{◌≡◌, List, [], ◌∷◌, ◌++◌, map, length, take, drop}
use Rattle.std.proofs.Math.Path.{refl, ap}
use Rattle.std.proofs.Common.{sym, ◌∙◌, take_at, drop_at}
use Rattle.std.proofs.lemmas.List.{length-map}
use Rattle.cells.specs.Part.{part}
use Rattle.cells.specs.PartLaws.{part-part}
use Rattle.kvs.specs.Rows.{Row, row_at, rows_from, pair_of, keys_in, RowOk, RowsOk}

-- ---- map

module _ {A B : Type 0} (f : A → B) where
  pub map-append : (s t : List A) → map f (s ++ t) ≡ map f s ++ map f t
  map-append [] t = refl
  map-append (x ∷ s) t = ap (λ l. f x ∷ l) (map-append s t)

  pub map-take : (n : ℕ) (s : List A) → map f (take n s) ≡ take n (map f s)
  map-take zero s = refl
  map-take (suc n) [] = refl
  map-take (suc n) (x ∷ s) = ap (λ l. f x ∷ l) (map-take n s)

  pub map-drop : (n : ℕ) (s : List A) → map f (drop n s) ≡ drop n (map f s)
  map-drop zero s = refl
  map-drop (suc n) [] = refl
  map-drop (suc n) (x ∷ s) = map-drop n s

-- ---- stretches of rows

module _ (rows bs : List ℕ) where
  pub length-rows : (i n : ℕ) → length (rows_from i n rows bs) ≡ n
  unfolding rows_from
  length-rows i zero = refl
  length-rows i (suc n) = ap suc (length-rows (suc i) n)

  pub rows_append : (i m n : ℕ) → rows_from i (m + n) rows bs ≡ rows_from i m rows bs ++ rows_from (i + m) n rows bs
  unfolding rows_from
  rows_append i zero n = rw (zero-add n, add-zero i)
  rows_append i (suc m) n = rw (suc-add m n, add-suc i m, ← suc-add i m) (ap (λ l. row_at i rows bs ∷ l) (rows_append (suc i) m n))

  pub take-rows : (i k n : ℕ) → k ≤ n → take k (rows_from i n rows bs) ≡ rows_from i k rows bs
  take-rows i k n h =
      let e : n ≡ k + (n - k) = omega arith in
      rw (e, rows_append i k (n - k)) (take_at (rows_from i k rows bs) _ k (length-rows i k))

  pub drop-rows : (i k n : ℕ) → k ≤ n → drop k (rows_from i n rows bs) ≡ rows_from (i + k) (n - k) rows bs
  drop-rows i k n h =
      let e : k + (n - k) ≡ n = omega arith in
      let f : drop k (rows_from i (k + (n - k)) rows bs) ≡ rows_from (i + k) (n - k) rows bs =
      rw (rows_append i k (n - k)) (drop_at (rows_from i k rows bs) _ k (length-rows i k)) in
      rw e at f

  -- row i in its place
  pub rows-from : (i n : ℕ) → i < n → drop i (rows_from 0 n rows bs) ≡ row_at i rows bs ∷ drop (suc i) (rows_from 0 n rows bs)
  unfolding rows_from
  rows-from i n h =
      let e : n - i ≡ suc (n - suc i) = omega arith in
      rw (drop-rows 0 i n (omega arith), drop-rows 0 (suc i) n h, zero-add i, zero-add (suc i), e)

-- stretches of rows that stand in the same numbers and bytes, wherever they begin
pub rows_same : (n a b : ℕ) (rows bs rows' bs' : List ℕ) → part (a * 4) (n * 4) rows ≡ part (b * 4) (n * 4) rows' → part (a * 64) (n * 64) bs ≡ part (b * 64) (n * 64) bs' → rows_from a n rows bs ≡ rows_from b n rows' bs'
unfolding rows_from row_at
rows_same zero a b rows bs rows' bs' p q = refl
rows_same (suc n) a b rows bs rows' bs' p q =
    let front : (w : ℕ) (s t : List ℕ) → w ≤ suc n * w → part (a * w) (suc n * w) s ≡ part (b * w) (suc n * w) t → part (a * w) w s ≡ part (b * w) w t =
    λ w s t h e. sym (rw add-zero at (part-part 0 w (a * w) (suc n * w) s (omega arith))) ∙ ap (part 0 w) e ∙ rw add-zero at (part-part 0 w (b * w) (suc n * w) t (omega arith)) in
    let back : (w : ℕ) (s t : List ℕ) → w + n * w ≡ suc n * w → a * w + w ≡ suc a * w → b * w + w ≡ suc b * w → part (a * w) (suc n * w) s ≡ part (b * w) (suc n * w) t → part (suc a * w) (n * w) s ≡ part (suc b * w) (n * w) t =
    λ w s t h j k e. rw (← j, ← k, ← part-part w (n * w) (a * w) (suc n * w) s (omega arith), ← part-part w (n * w) (b * w) (suc n * w) t (omega arith)) (ap (part w (n * w)) e) in
    λ i. record { numbers = front 4 rows rows' (omega arith) p i; bytes = front 64 bs bs' (omega arith) q i }
    ∷ rows_same n (suc a) (suc b) rows bs rows' bs' (back 4 rows rows' (omega arith) (omega arith) (omega arith) p) (back 64 bs bs' (omega arith) (omega arith) (omega arith) q) i

-- the stretch of n rows from row a of one pair of parts is that from row b of another
pub record Same (a b n : ℕ) (rows bs rows' bs' : List ℕ) : Type 0 where
  pub numbers : part (a * 4) (n * 4) rows ≡ part (b * 4) (n * 4) rows'
  pub bytes : part (a * 64) (n * 64) bs ≡ part (b * 64) (n * 64) bs'

module _ (rows bs rows' bs' : List ℕ) (n i : ℕ) where
  -- a row in place of those from row i up to row k
  pub with_row : (k : ℕ) → i ≤ n → k ≤ n → Same 0 0 i rows' bs' rows bs → Same (suc i) k (n - k) rows' bs' rows bs
      → rows_from 0 (i + suc (n - k)) rows' bs' ≡ take i (rows_from 0 n rows bs) ++ (row_at i rows' bs' ∷ drop k (rows_from 0 n rows bs))
  unfolding rows_from
  with_row k h h' p q =
      rw (
        rows_append rows' bs' 0 i (suc (n - k)),
        zero-add i,
        rows_same i 0 0 rows' bs' rows bs p.numbers p.bytes,
        rows_same (n - k) (suc i) k rows' bs' rows bs q.numbers q.bytes,
        take-rows rows bs 0 i n h,
        drop-rows rows bs 0 k n h',
        zero-add k,
      )

  pub without-row : i < n → Same 0 0 i rows' bs' rows bs → Same i (suc i) (n - suc i) rows' bs' rows bs
      → rows_from 0 (i + (n - suc i)) rows' bs' ≡ take i (rows_from 0 n rows bs) ++ drop (suc i) (rows_from 0 n rows bs)
  without-row h p q =
      rw (
        rows_append rows' bs' 0 i (n - suc i),
        zero-add i,
        rows_same i 0 0 rows' bs' rows bs p.numbers p.bytes,
        rows_same (n - suc i) i (suc i) rows' bs' rows bs q.numbers q.bytes,
        take-rows rows bs 0 i n (omega arith),
        drop-rows rows bs 0 (suc i) n h,
        zero-add (suc i),
      )

-- ---- rows that are a key's

pub ok-append : (s t : List Row) → RowsOk s → RowsOk t → RowsOk (s ++ t)
unfolding RowsOk
ok-append [] t p q = q
ok-append (r ∷ s) t p q = (p.0, ok-append s t p.1 q)

pub ok-take : (n : ℕ) (s : List Row) → RowsOk s → RowsOk (take n s)
unfolding RowsOk
ok-take zero s p = tt
ok-take (suc n) [] p = tt
ok-take (suc n) (r ∷ s) p = (p.0, ok-take n s p.1)

pub ok-drop : (n : ℕ) (s : List Row) → RowsOk s → RowsOk (drop n s)
unfolding RowsOk
ok-drop zero s p = p
ok-drop (suc n) [] p = tt
ok-drop (suc n) (r ∷ s) p = ok-drop n s p.1

pub ok-cons : (r : Row) (s : List Row) → RowOk r → RowsOk s → RowsOk (r ∷ s)
unfolding RowsOk
ok-cons r s p q = (p, q)

pub ok_at : (rows bs : List ℕ) (n i : ℕ) → i < n → RowsOk (rows_from 0 n rows bs) → RowOk (row_at i rows bs)
unfolding RowsOk
ok_at rows bs n i h p = (rw (rows-from rows bs i n h) at (ok-drop i (rows_from 0 n rows bs) p)).0

-- ---- the keys of rows

pub length-keys : (n : ℕ) (rows bs : List ℕ) → length (keys_in n rows bs) ≡ n
unfolding keys_in
length-keys n rows bs = length-map (rows_from 0 n rows bs) pair_of ∙ length-rows rows bs 0 n

pub keys_from : (n i : ℕ) (rows bs : List ℕ) → i < n → drop i (keys_in n rows bs) ≡ pair_of (row_at i rows bs) ∷ drop (suc i) (keys_in n rows bs)
unfolding keys_in
keys_from n i rows bs h =
    rw (← map-drop pair_of i (rows_from 0 n rows bs), ← map-drop pair_of (suc i) (rows_from 0 n rows bs), rows-from rows bs i n h)
