-- The columns of a window are those of its rows. Assumes nothing.
use Rattle.std.specs.Prelude.{List, [], ◌∷◌, ◌++◌, map, ◌≡◌, refl, ℕ, zero, suc, ◌+◌, ◌*◌, ◌<◌, length, get_or, drop}
use Rattle.std.proofs.Common.{ap, zero-add, add-zero, suc-add, arith, get_or-drop, drop-drop}
use Rattle.pipe_log.specs.Rows.{entry_of, with_index, window}
use Rattle.rules.specs.Items.{EntryIndex}
use Rattle.memtable.specs.Views.{row_at}
use Rattle.memtable.specs.Columns.{column, up_from}

pub length-column : (k n : ℕ) (xs : List ℕ) → length (column k n xs) ≡ n
unfolding column
length-column k zero xs = refl
length-column k (suc n) xs = ap suc (length-column k n (drop 8 xs))

pub length-up_from : (f n : ℕ) → length (up_from f n) ≡ n
unfolding up_from
length-up_from f zero = refl
length-up_from f (suc n) = ap suc (length-up_from (suc f) n)

-- one more
pub column-snoc : (k n : ℕ) (xs : List ℕ) → column k n xs ++ (get_or xs (n * 8 + k) 0 ∷ []) ≡ column k (n + 1) xs
unfolding column
column-snoc k zero xs = rw (zero-add k)
column-snoc k (suc n) xs =
    let e : 8 + (n * 8 + k) ≡ suc n * 8 + k = omega arith in
    let d : suc n + 1 ≡ suc (n + 1) = omega arith in
    rw (d, ← e, ← get_or-drop 8 xs (n * 8 + k) 0, column-snoc k n (drop 8 xs))

-- the rows from row a on behind the first a
pub column-append : (k a b : ℕ) (xs : List ℕ) → column k a xs ++ column k b (drop (a * 8) xs) ≡ column k (a + b) xs
unfolding column
column-append k zero b xs = rw (zero-add b)
column-append k (suc a) b xs =
    let e : 8 + a * 8 ≡ suc a * 8 = omega arith in
    rw (suc-add a b, ← e, ← drop-drop (a * 8) 8 xs) (ap (λ l. get_or xs k 0 ∷ l) (column-append k a b (drop 8 xs)))

pub up_from-snoc : (f n : ℕ) → up_from f n ++ ((f + n) ∷ []) ≡ up_from f (n + 1)
unfolding up_from
up_from-snoc f zero = rw (add-zero f)
up_from-snoc f (suc n) =
    let e : suc f + n ≡ f + suc n = omega arith in
    let d : suc n + 1 ≡ suc (n + 1) = omega arith in
    rw (d, ← e, up_from-snoc (suc f) n)

-- a field of each record, where it is a cell of each row
pub map-window : (g : EntryIndex → ℕ) (k f n : ℕ) (xs : List ℕ) → ((i : ℕ) → i < n → g (row_at f xs i) ≡ get_or xs (i * 8 + k) 0) → map g (window f n xs) ≡ column k n xs
unfolding window column row_at
map-window g k f zero xs h = refl
map-window g k f (suc n) xs h =
    let a : g (with_index f (entry_of xs)) ≡ get_or xs k 0 = rw (add-zero f, zero-add k) at (h 0 (omega arith)) in
    rw (
      a,
      map-window g k (suc f) n (drop 8 xs)
          (λ i l.
          let e : 8 + i * 8 ≡ suc i * 8 = omega arith in
          let d : suc f + i ≡ f + suc i = omega arith in
          let b : 8 + (i * 8 + k) ≡ suc i * 8 + k = omega arith in
          rw (drop-drop (i * 8) 8 xs, e, d, get_or-drop 8 xs (i * 8 + k) 0, b) (h (suc i) (omega arith))),
    )

pub map-index : (f n : ℕ) (xs : List ℕ) → map (λ (e : EntryIndex). e.index) (window f n xs) ≡ up_from f n
unfolding window up_from with_index
map-index f zero xs = refl
map-index f (suc n) xs = rw (map-index (suc f) n (drop 8 xs))
