-- The laws of `window`: the records of the first n rows of a list of numbers, at the indexes from f on. Assumes nothing.
use Rattle.std.specs.Prelude.{None, Bool, List, [], ◌++◌, ◌≡◌, refl, ℕ, zero, suc, ◌+◌, ◌-◌, ◌*◌, ◌≤◌, ◌<◌, min, ltb, leb, eqb, length, get_or, drop}
use Rattle.std.proofs.Math.Bool.{true, false}
use Rattle.std.proofs.Common.{append-nil, append_assoc, ap, ◌∙◌, zero-add, add-zero, suc-add, arith, get_or-drop, drop-drop}
use Rattle.std.specs.Prelude.{Some}
use Rattle.std.proofs.Math.Nat.{sub-zero}
use Rattle.std.proofs.Math.Decide.{dec_le}
use Rattle.std.proofs.Math.ListN.{get_or-append}
use Rattle.std.specs.Prelude.{slice_get}
use Rattle.cells.specs.Part.{put}
use Rattle.cells.specs.PartLaws.{from-put, drop-put, get_or-put-before}
use borrow.Author.Tests.{lt-ltb, le-ltb, le-leb, lt-leb, eq-eqb, ne_eqb}
use Rattle.maps.specs.Lists.{select, every, first, last, map_option, or_else}
use Rattle.maps.specs.ListLaws.{every-head, every-tail}
use Rattle.pipe_log.specs.Rows.{is_record, block_at, entry_of, with_index, window}
use Rattle.rules.specs.Items.{EntryIndex}
use Rattle.rules.specs.Table.{first_index_of, last_index, is_below_first, is_above_last, entries_below, entries_from}
use Rattle.memtable.specs.Views.{row_at}
use Rattle.memtable.specs.ListLaws.{All, none, more, select-append, select_all, select-none}

pub length-window : (f n : ℕ) (xs : List ℕ) → length (window f n xs) ≡ n
unfolding window
length-window f zero xs = refl
length-window f (suc n) xs = ap suc (length-window (suc f) n (drop 8 xs))

-- row 0, and row i + 1 as row i of what follows the first row
pub row_at-zero : (f : ℕ) (xs : List ℕ) → row_at f xs 0 ≡ with_index f (entry_of xs)
unfolding row_at
row_at-zero f xs = rw add-zero

pub row_at-suc : (f : ℕ) (xs : List ℕ) (i : ℕ) → row_at (suc f) (drop 8 xs) i ≡ row_at f xs (suc i)
unfolding row_at
row_at-suc f xs i =
    let e : 8 + i * 8 ≡ suc i * 8 = omega arith in
    let d : suc f + i ≡ f + suc i = omega arith in
    rw (drop-drop (i * 8) 8 xs, e, d)

-- a window cut in two
pub window-append : (f n m : ℕ) (xs : List ℕ) → window f (n + m) xs ≡ window f n xs ++ window (f + n) m (drop (n * 8) xs)
unfolding window
window-append f zero m xs = rw (zero-add m, add-zero f)
window-append f (suc n) m xs =
    let e : 8 + n * 8 ≡ suc n * 8 = omega arith in
    let d : suc f + n ≡ f + suc n = omega arith in
    rw (suc-add n m, window-append (suc f) n m (drop 8 xs), drop-drop (n * 8) 8 xs, e, d)

-- the records depend on the first n rows alone
entry_same : (xs ys : List ℕ) → ((k : ℕ) → k < 8 → get_or xs k 0 ≡ get_or ys k 0) → entry_of xs ≡ entry_of ys
unfolding entry_of is_record block_at
entry_same xs ys h =
    rw (h 0 (omega arith), h 1 (omega arith), h 2 (omega arith), h 3 (omega arith), h 4 (omega arith), h 5 (omega arith), h 6 (omega arith), h 7 (omega arith))

pub window_same : (f n : ℕ) (xs ys : List ℕ) → ((k : ℕ) → k < n * 8 → get_or xs k 0 ≡ get_or ys k 0) → window f n xs ≡ window f n ys
unfolding window
window_same f zero xs ys h = refl
window_same f (suc n) xs ys h =
    rw (
      entry_same xs ys (λ k l. h k (omega arith)),
      window_same (suc f) n (drop 8 xs) (drop 8 ys) (λ k l. rw (get_or-drop 8 xs k 0, get_or-drop 8 ys k 0) (h (8 + k) (omega arith))),
    )

-- rows laid in behind the first m
pub window-put : (f m n : ℕ) (xs s : List ℕ) → length s ≡ n * 8 → m * 8 ≤ length xs → window f (m + n) (put xs (m * 8) s) ≡ window f m xs ++ window (f + m) n s
window-put f m n xs s e h =
    rw (
      window-append f m n (put xs (m * 8) s),
      from-put xs (m * 8) s h,
      window_same f m (put xs (m * 8) s) xs (λ k l. get_or-put-before xs (m * 8) s k 0 l h),
      window_same (f + m) n (s ++ drop (m * 8 + length s) xs) s (λ k l. get_or-append s (drop (m * 8 + length s) xs) 0 k (omega arith)),
    )

-- what holds of each row holds of each record
pub window_all : (p : EntryIndex → Bool) (b : Bool) (f n : ℕ) (xs : List ℕ) → ((i : ℕ) → i < n → p (row_at f xs i) ≡ b) → All p b (window f n xs)
unfolding window
window_all p b f zero xs h = none
window_all p b f (suc n) xs h =
    more (rw (row_at-zero f xs) at (h 0 (omega arith))) (window_all p b (suc f) n (drop 8 xs) (λ i l. rw (row_at-suc f xs i) (h (suc i) (omega arith))))

-- what holds of each record holds of each row
pub window-every : (p : EntryIndex → Bool) (f n : ℕ) (xs : List ℕ) (i : ℕ) → i < n → every p (window f n xs) ≡ true → p (row_at f xs i) ≡ true
unfolding window
window-every p f zero xs i h a = absurd (omega arith)
window-every p f (suc n) xs zero h a = rw (row_at-zero f xs) (every-head p _ _ a)
window-every p f (suc n) xs (suc i) h a = rw (← row_at-suc f xs i) (window-every p (suc f) n (drop 8 xs) i (omega arith) (every-tail p _ _ a))

-- ---- by index

module _ (s f n : ℕ) (xs : List ℕ) where
  pub below_all : f + n ≤ s → entries_below s (window f n xs) ≡ window f n xs
  unfolding entries_below row_at with_index
  below_all h = select_all _ (window_all _ true f n xs (λ i l. lt-ltb (f + i) s (omega arith)))

  pub below_none : s ≤ f → entries_below s (window f n xs) ≡ []
  unfolding entries_below row_at with_index
  below_none h = select-none _ (window_all _ false f n xs (λ i l. le-ltb (f + i) s (omega arith)))

  pub from_all : s ≤ f → entries_from s (window f n xs) ≡ window f n xs
  unfolding entries_from row_at with_index
  from_all h = select_all _ (window_all _ true f n xs (λ i l. le-leb s (f + i) (omega arith)))

  pub from-none : f + n ≤ s → entries_from s (window f n xs) ≡ []
  unfolding entries_from row_at with_index
  from-none h = select-none _ (window_all _ false f n xs (λ i l. lt-leb s (f + i) (omega arith)))

-- the rows below index f + k, and those from there
pub below-cut : (f k m : ℕ) (xs : List ℕ) → entries_below (f + k) (window f (k + m) xs) ≡ window f k xs
unfolding entries_below
below-cut f k m xs =
    rw (window-append f k m xs, select-append (λ (e : EntryIndex). ltb e.index (f + k)) (window f k xs) (window (f + k) m (drop (k * 8) xs)))
    (rw (below_all (f + k) f k xs (omega arith), below_none (f + k) (f + k) m (drop (k * 8) xs) (omega arith)) (append-nil (window f k xs)))

pub from_cut : (f k m : ℕ) (xs : List ℕ) → entries_from (f + k) (window f (k + m) xs) ≡ window (f + k) m (drop (k * 8) xs)
unfolding entries_from
from_cut f k m xs =
    rw (window-append f k m xs, select-append (λ (e : EntryIndex). leb (f + k) e.index) (window f k xs) (window (f + k) m (drop (k * 8) xs)))
    (rw (from-none (f + k) f k xs (omega arith), from_all (f + k) (f + k) m (drop (k * 8) xs) (omega arith)))

-- ---- the first and the last record

pub first-window : (f n : ℕ) (xs : List ℕ) → 0 < n → first (window f n xs) ≡ Some (row_at f xs 0)
unfolding window first
first-window f zero xs h = absurd (omega arith)
first-window f (suc n) xs h = rw (row_at-zero f xs)

last-suc : (f n : ℕ) (xs : List ℕ) → last (window f (suc n) xs) ≡ Some (row_at f xs n)
unfolding window last
last-suc f zero xs = rw (row_at-zero f xs)
last-suc f (suc n) xs = last-suc (suc f) n (drop 8 xs) ∙ rw (row_at-suc f xs n)

pub last-window : (f n : ℕ) (xs : List ℕ) → 0 < n → last (window f n xs) ≡ Some (row_at f xs (n - 1))
last-window f n xs h =
    let e : n ≡ suc (n - 1) = omega arith in
    ap (λ (k : ℕ). last (window f k xs)) e ∙ last-suc f (n - 1) xs

pub first_index-window : (f n : ℕ) (xs : List ℕ) → 0 < n → first_index_of (window f n xs) ≡ Some f
unfolding first_index_of map_option row_at with_index
first_index-window f n xs h = rw (first-window f n xs h, add-zero f)

-- f is the index of the first record, or d, which f is where there is none
pub first_or : (d f n : ℕ) (xs : List ℕ) → (n ≡ 0 → f ≡ d) → f ≡ or_else d (λ (i : ℕ). i) (first_index_of (window f n xs))
unfolding first_index_of map_option first window or_else
first_or d f zero xs e = e refl
first_or d f (suc n) xs e = rw (first_index-window f (suc n) xs (omega arith))

pub last_index-window : (f n : ℕ) (xs : List ℕ) → 0 < n → last_index (window f n xs) ≡ Some (f + (n - 1))
unfolding last_index map_option row_at with_index
last_index-window f n xs h = rw (last-window f n xs h)

pub is_below_first-window : (s f n : ℕ) (xs : List ℕ) → 0 < n → is_below_first s (window f n xs) ≡ ltb s f
unfolding is_below_first or_else
is_below_first-window s f n xs h = rw (first_index-window f n xs h)

pub is_above_last-window : (s f n : ℕ) (xs : List ℕ) → 0 < n → is_above_last s (window f n xs) ≡ ltb (f + n) s
unfolding is_above_last or_else
is_above_last-window s f n xs h =
    let e : suc (f + (n - 1)) ≡ f + n = omega arith in
    rw (last_index-window f n xs h, e)

-- ---- the record at a place

pub slice_get-window : (f n : ℕ) (xs : List ℕ) (i : ℕ) → i < n → slice_get (window f n xs) i ≡ Some (row_at f xs i)
unfolding window
slice_get-window f zero xs i h = absurd (omega arith)
slice_get-window f (suc n) xs zero h = rw (row_at-zero f xs)
slice_get-window f (suc n) xs (suc i) h = slice_get-window (suc f) n (drop 8 xs) i (omega arith) ∙ rw (row_at-suc f xs i)

pub slice_get-window-none : (f n : ℕ) (xs : List ℕ) (i : ℕ) → n ≤ i → slice_get (window f n xs) i ≡ None
unfolding window
slice_get-window-none f zero xs i h = refl
slice_get-window-none f (suc n) xs zero h = absurd (omega arith)
slice_get-window-none f (suc n) xs (suc i) h = slice_get-window-none (suc f) n (drop 8 xs) i (omega arith)

-- ---- the records below an index, and those from it, wherever it lies

below_by : (s f n c : ℕ) (xs : List ℕ) → c ≡ min (s - f) n → entries_below s (window f n xs) ≡ window f c xs
unfolding window
below_by s f n c xs e =
    elim (dec_le s f) [
      | yes l ↦ (let z : c ≡ 0 = omega arith in rw z (below_none s f n xs l))
      | no l ↦
          elim (dec_le (f + n) s) [
            | yes g ↦ (let z : c ≡ n = omega arith in rw z (below_all s f n xs g))
            | no g ↦
                (let z : s ≡ f + c = omega arith in
                let d : n ≡ c + (n - c) = omega arith in
                ap (λ (k : ℕ). entries_below k (window f n xs)) z ∙ ap (λ (k : ℕ). entries_below (f + c) (window f k xs)) d ∙ below-cut f c (n - c) xs)
          ]
    ]

pub below-window : (s f n : ℕ) (xs : List ℕ) → entries_below s (window f n xs) ≡ window f (min (s - f) n) xs
below-window s f n xs = below_by s f n (min (s - f) n) xs refl

from_by : (s f n c : ℕ) (xs : List ℕ) → c ≡ min (s - f) n → entries_from s (window f n xs) ≡ window (f + c) (n - c) (drop (c * 8) xs)
unfolding window
from_by s f n c xs e =
    elim (dec_le s f) [
      | yes l ↦ (let z : c ≡ 0 = omega arith in rw (z, add-zero f, sub-zero n) (from_all s f n xs l))
      | no l ↦
          elim (dec_le (f + n) s) [
            | yes g ↦ (let z : n - c ≡ 0 = omega arith in rw z (from-none s f n xs g))
            | no g ↦
                (let z : s ≡ f + c = omega arith in
                let d : n ≡ c + (n - c) = omega arith in
                ap (λ (k : ℕ). entries_from k (window f n xs)) z ∙ ap (λ (k : ℕ). entries_from (f + c) (window f k xs)) d ∙ from_cut f c (n - c) xs)
          ]
    ]

pub from-window : (s f n : ℕ) (xs : List ℕ)
    → entries_from s (window f n xs) ≡ window (f + min (s - f) n) (n - min (s - f) n) (drop (min (s - f) n * 8) xs)
from-window s f n xs = from_by s f n (min (s - f) n) xs refl

-- row i of what follows the first k rows
pub row_at-drop : (f k : ℕ) (xs : List ℕ) (i : ℕ) → row_at (f + k) (drop (k * 8) xs) i ≡ row_at f xs (k + i)
unfolding row_at
row_at-drop f k xs i =
    let e : k * 8 + i * 8 ≡ (k + i) * 8 = omega arith in
    let d : f + k + i ≡ f + (k + i) = omega arith in
    rw (drop-drop (i * 8) (k * 8) xs, e, d)

-- a window cut at k
pub window-cut : (f n k : ℕ) (xs : List ℕ) → k ≤ n → window f n xs ≡ window f k xs ++ window (f + k) (n - k) (drop (k * 8) xs)
window-cut f n k xs h =
    let e : n ≡ k + (n - k) = omega arith in
    ap (λ (m : ℕ). window f m xs) e ∙ window-append f k (n - k) xs

-- ---- the record at an index

pub entry_at : (f n : ℕ) (xs : List ℕ) (k i : ℕ) → k < n → i ≡ f + k → first (select (λ (e : EntryIndex). eqb e.index i) (window f n xs)) ≡ Some (row_at f xs k)
unfolding window select first with_index
entry_at f zero xs k i h e = absurd (omega arith)
entry_at f (suc n) xs zero i h e = rw (eq-eqb f i (omega arith), row_at-zero f xs)
entry_at f (suc n) xs (suc k) i h e =
    rw (ne_eqb f i (λ z. omega arith)) (entry_at (suc f) n (drop 8 xs) k i (omega arith) (omega arith) ∙ rw (row_at-suc f xs k))

pub entry_absent : (f n : ℕ) (xs : List ℕ) (i : ℕ) → ((k : ℕ) → k < n → f + k ≡ i → ⊥) → first (select (λ (e : EntryIndex). eqb e.index i) (window f n xs)) ≡ None
unfolding row_at with_index first
entry_absent f n xs i h =
    rw (select-none (λ (e : EntryIndex). eqb e.index i) (window_all (λ (e : EntryIndex). eqb e.index i) false f n xs (λ k l. ne_eqb (f + k) i (h k l))))

-- rows laid in behind the first p, with rows behind them
pub window-lay : (f n p k : ℕ) (xs s : List ℕ) → length s ≡ k * 8 → p + k ≤ n → n * 8 ≤ length xs
    → window f n (put xs (p * 8) s) ≡ window f p xs ++ (window (f + p) k s ++ window (f + p + k) (n - p - k) (drop (k * 8) (drop (p * 8) xs)))
window-lay f n p k xs s e b h =
    let z : p * 8 + k * 8 ≡ (p + k) * 8 = omega arith in
    let y : f + (p + k) ≡ f + p + k = omega arith in
    let x : n - (p + k) ≡ n - p - k = omega arith in
    rw (
      window-cut f n (p + k) (put xs (p * 8) s) b,
      window-put f p k xs s e (omega arith),
      drop-put ((p + k) * 8) xs (p * 8) s (omega arith) (omega arith),
      drop-drop (k * 8) (p * 8) xs,
      z,
      y,
      x,
    )
    (append_assoc (window f p xs) (window (f + p) k s) (window (f + p + k) (n - p - k) (drop ((p + k) * 8) xs)))
