-- The scans as the rules' lists, and the turns of their loops. Assumes nothing.
use Rattle.std.specs.Prelude.{Bool, true, false, cond, ◌&&◌, List, [], ◌∷◌, ◌≡◌, refl, ℕ, zero, suc, ◌+◌, ◌-◌, ◌*◌, ◌≤◌, ◌<◌, ◌^◌, ltb, leb, drop}
use Rattle.std.proofs.Math.Path.{sym}
use Rattle.std.proofs.Math.Nat.{add-zero}
use Rattle.std.proofs.Common.{add_assoc, get_or-drop, drop-drop}
use native.Mathlib.Omega.{arith}
use Rattle.std.proofs.Math.ListN.{get_or}
use borrow.Author.Tests.{leb-true, le-leb, lt-leb, lt-ltb, le-ltb}
use Rattle.std.proofs.Math.Decide.{dec_lt}
use Rattle.maps.specs.Lists.{front}
use Rattle.pipe_log.specs.Rows.{entry_of, with_index, window}
use Rattle.rules.specs.Items.{EntryIndex, file_of}
use Rattle.rules.specs.TableQueries.{up_to_size}
use Rattle.maps.specs.BoolLaws.{clash, both_right}
use Rattle.memtable.specs.Views.{row_at, AnyRow}
use Rattle.memtable.specs.RowLaws.{row-seq, any-drop}
use Rattle.memtable.specs.Scans.{count_before, stops, len_sum, all_fit, size_count}

-- ---- as the rules' lists

-- the sequence number of the first row's record
first-seq : (f : ℕ) (xs : List ℕ) → AnyRow xs 0 → (file_of (with_index f (entry_of xs))).seq ≡ get_or xs 2 0
unfolding row_at
first-seq f xs r = rw (add-zero f) at (row-seq f xs 0 r)

-- the step of both, by the test
front_step : (b : Bool) (f m : ℕ) (xs : List ℕ) → cond b (with_index f (entry_of xs) ∷ window (suc f) m (drop 8 xs)) [] ≡ window f (cond b (suc m) 0) xs
unfolding window
front_step true f m xs = refl
front_step false f m xs = refl

back_step : (b : Bool) (f m : ℕ) (xs : List ℕ) → cond b [] (with_index f (entry_of xs) ∷ window (suc f) m (drop 8 xs)) ≡ window f (cond b 0 (suc m)) xs
unfolding window
back_step true f m xs = refl
back_step false f m xs = refl

pub front-before : (gate f n : ℕ) (xs : List ℕ) → ((i : ℕ) → i < n → AnyRow xs i) → front (λ (e : EntryIndex). leb (file_of e).seq gate) (window f n xs) ≡ window f (count_before gate n xs) xs
unfolding front window count_before
front-before gate f zero xs h = refl
front-before gate f (suc n) xs h =
    rw (first-seq f xs (h 0 (omega arith)), front-before gate (suc f) n (drop 8 xs) (λ i l. any-drop xs 1 i (h (1 + i) (omega arith))))
    (front_step (leb (get_or xs 2 0) gate) f (count_before gate n (drop 8 xs)) xs)

pub size-window : (size sum f n : ℕ) (xs : List ℕ) → up_to_size size sum (window f n xs) ≡ window f (size_count size sum n xs) xs
unfolding up_to_size window size_count stops with_index entry_of
size-window size sum f zero xs = refl
size-window size sum f (suc n) xs =
    rw (size-window size (sum + get_or xs 7 0) (suc f) n (drop 8 xs))
    (back_step (ltb size (sum + get_or xs 7 0) && ltb 0 sum) f (size_count size (sum + get_or xs 7 0) n (drop 8 xs)) xs)

-- a cell of row i + 1, as one of row i of what follows the first row
ahead : (k i : ℕ) (xs : List ℕ) → get_or xs (suc i * 8 + k) 0 ≡ get_or (drop 8 xs) (i * 8 + k) 0
ahead k i xs =
    let e : 8 + (i * 8 + k) ≡ suc i * 8 + k = omega arith in
    rw (get_or-drop 8 xs (i * 8 + k) 0, e)

le_of-suc : (a n : ℕ) → suc a < suc n → a < n
le_of-suc a n l = omega arith

later : (gate n : ℕ) (xs : List ℕ) (i : ℕ) → get_or xs 2 0 ≤ gate → i < suc (count_before gate n (drop 8 xs)) → ((j : ℕ) → j < count_before gate n (drop 8 xs) → get_or (drop 8 xs) (j * 8 + 2) 0 ≤ gate)
    → get_or xs (i * 8 + 2) 0 ≤ gate
later gate n xs zero u l h = u
later gate n xs (suc i) u l h = rw (ahead 2 i xs) (h i (omega arith))

-- each row that the scan by sequence number takes is at most the gate, and the next one is not
pub before_all : (gate n : ℕ) (xs : List ℕ) (i : ℕ) → i < count_before gate n xs → get_or xs (i * 8 + 2) 0 ≤ gate
unfolding count_before
before_all gate zero xs i l = absurd (omega arith)
before_all gate (suc n) xs i l =
    elim (dec_lt gate (get_or xs 2 0)) [
      | yes u ↦ (let z = rw (lt-leb (get_or xs 2 0) gate u) at l in absurd (omega arith))
      | no u ↦ later gate n xs i (omega arith) (rw (le-leb (get_or xs 2 0) gate (omega arith)) at l) (before_all gate n (drop 8 xs))
    ]

pub before-next : (gate n : ℕ) (xs : List ℕ) → count_before gate n xs < n → gate < get_or xs (count_before gate n xs * 8 + 2) 0
unfolding count_before
before-next gate zero xs l = absurd (omega arith)
before-next gate (suc n) xs l =
    elim (dec_lt gate (get_or xs 2 0)) [
      | yes u ↦ rw (lt-leb (get_or xs 2 0) gate u) u
      | no u ↦
          (let e = le-leb (get_or xs 2 0) gate (omega arith) in
          rw e (rw (ahead 2 (count_before gate n (drop 8 xs)) xs) (before-next gate n (drop 8 xs) (le_of-suc (count_before gate n (drop 8 xs)) n (rw e at l)))))
    ]

-- ---- the turns of the loops: what is left from place i on

module _ (xs : List ℕ) (from n i : ℕ) where
  -- the rows from place i on, and its cell k
  rest : i < n → n - i ≡ suc (n - (i + 1))
  rest l = omega arith

  one_more_lem : (k : ℕ) → i + suc k ≡ i + 1 + k
  one_more_lem k = omega arith

  next : drop 8 (drop (i * 8) (drop (from * 8) xs)) ≡ drop ((i + 1) * 8) (drop (from * 8) xs)
  next =
      let e : i * 8 + 8 ≡ (i + 1) * 8 = omega arith in
      rw (drop-drop 8 (i * 8) (drop (from * 8) xs), e)

  cell : (k : ℕ) → get_or (drop (i * 8) (drop (from * 8) xs)) k 0 ≡ get_or xs ((from + i) * 8 + k) 0
  cell k =
      let e : from * 8 + (i * 8 + k) ≡ (from + i) * 8 + k = omega arith in
      rw (get_or-drop (i * 8) (drop (from * 8) xs) k 0, get_or-drop (from * 8) xs (i * 8 + k) 0, e)

  -- the scan by sequence number, which takes t in all and has taken i
  module _ (gate t : ℕ) (e : t ≡ i + count_before gate (n - i) (drop (i * 8) (drop (from * 8) xs))) where
    pub before-end : n ≤ i → i ≡ t
    unfolding count_before
    before-end l =
        let d : n - i ≡ 0 = omega arith in
        sym (rw (d, add-zero i) at e)

    pub before_stop : i < n → gate < get_or xs ((from + i) * 8 + 2) 0 → i ≡ t
    unfolding count_before
    before_stop l g = sym (rw (rest l, cell 2, lt-leb (get_or xs ((from + i) * 8 + 2) 0) gate g, add-zero i) at e)

    pub before_more : i < n → get_or xs ((from + i) * 8 + 2) 0 ≤ gate → t ≡ i + 1 + count_before gate (n - (i + 1)) (drop ((i + 1) * 8) (drop (from * 8) xs))
    unfolding count_before
    before_more l g =
        rw (rest l, cell 2, le-leb (get_or xs ((from + i) * 8 + 2) 0) gate g, next, one_more_lem (count_before gate (n - (i + 1)) (drop ((i + 1) * 8) (drop (from * 8) xs)))) at e

  -- the scan by size
  module _ (size sum t : ℕ) (e : t ≡ i + size_count size sum (n - i) (drop (i * 8) (drop (from * 8) xs))) where
    pub size-end : n ≤ i → i ≡ t
    unfolding size_count
    size-end l =
        let d : n - i ≡ 0 = omega arith in
        sym (rw (d, add-zero i) at e)

    pub size_stop : i < n → stops size sum (get_or xs ((from + i) * 8 + 7) 0) ≡ true → i ≡ t
    unfolding size_count
    size_stop l g = sym (rw (rest l, cell 7, g, add-zero i) at e)

    pub size-more : i < n → stops size sum (get_or xs ((from + i) * 8 + 7) 0) ≡ false
        → t ≡ i + 1 + size_count size (sum + get_or xs ((from + i) * 8 + 7) 0) (n - (i + 1)) (drop ((i + 1) * 8) (drop (from * 8) xs))
    unfolding size_count
    size-more l g =
        rw (rest l, cell 7, g, next, one_more_lem (size_count size (sum + get_or xs ((from + i) * 8 + 7) 0) (n - (i + 1)) (drop ((i + 1) * 8) (drop (from * 8) xs)))) at e

  -- the sum of lengths, which is t in all and so far sum
  module _ (sum t : ℕ) (e : t ≡ sum + len_sum (n - i) (drop (i * 8) (drop (from * 8) xs))) where
    pub sum-end : n ≤ i → sum ≡ t
    unfolding len_sum
    sum-end l =
        let d : n - i ≡ 0 = omega arith in
        sym (rw (d, add-zero sum) at e)

    pub sum_more : i < n → t ≡ sum + get_or xs ((from + i) * 8 + 7) 0 + len_sum (n - (i + 1)) (drop ((i + 1) * 8) (drop (from * 8) xs))
    unfolding len_sum
    sum_more l =
        rw (add_assoc sum (get_or xs ((from + i) * 8 + 7) 0) (len_sum (n - (i + 1)) (drop ((i + 1) * 8) (drop (from * 8) xs)))) (rw (rest l, cell 7, next) at e)

-- no row is one too many if all lengths sum within the size
size_all : (size sum n : ℕ) (xs : List ℕ) → sum + len_sum n xs ≤ size → size_count size sum n xs ≡ n
unfolding size_count len_sum stops
size_all size sum zero xs h = refl
size_all size sum (suc n) xs h =
    rw (le-ltb size (sum + get_or xs 7 0) (omega arith), size_all size (sum + get_or xs 7 0) n (drop 8 xs) (omega arith))

pub all-fit : (size n : ℕ) (xs : List ℕ) → all_fit size n xs ≡ true → n ≡ size_count size 0 n xs
unfolding all_fit
all-fit size n xs e =
    let l : len_sum n xs ≤ size = leb-true (len_sum n xs) size (both_right (leb n (2 ^ 28)) (leb (len_sum n xs) size) e) in
    sym (size_all size 0 n xs (omega arith))

-- a sum that does not stop the scan is 0 with its record, or at most the size
pub size_fits : (size sum l : ℕ) → stops size sum l ≡ false → size < 2 ^ 64 → l ≤ 2 ^ 25 → sum + l < 2 ^ 64
unfolding stops
size_fits size zero l e a b = omega arith
size_fits size (suc sum) l e a b =
    elim (dec_lt size (suc sum + l)) [
      | yes u ↦ absurd (clash (sym (rw (lt-ltb size (suc sum + l) u, lt-ltb 0 (suc sum) (omega arith)) at e)))
      | no u ↦ omega arith
    ]
