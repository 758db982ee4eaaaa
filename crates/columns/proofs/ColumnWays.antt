-- The turns of the loops that fill lent slices, and what the slices then hold. Assumes nothing.
use mathlib.Core.List.{List, [], ◌∷◌, ◌++◌}
use mathlib.Core.Path.{◌≡◌, refl, sym, ap, ◌∙◌}
use Prim.Native.Nat.{ℕ, ◌+◌, ◌*◌, ◌≤◌, ◌<◌}
use native.Mathlib.Omega.{arith}
use lib.ListN.{length, get_or, set, drop}
use lib.Seq.{get_or-drop, drop-drop}
use Rattle.cells.specs.Part.{put}
use Rattle.cells.specs.PartLaws.{put-nil, put-append, put-snoc}
use borrow.Author.Tests.{le-leb, lt-leb}
use Rattle.pipe_log.specs.Numbers.{queue_number, compression_number}
use Rattle.pipe_log.specs.Rows.{window}
use Rattle.rules.specs.Causes.{ListTooShort, Err, Ok, and_then}
use Rattle.rules.specs.Items.{EntryIndex, file_of}
use Rattle.memtable.specs.Views.{AnyRow}
use Rattle.memtable.specs.RowLaws.{row-queue, row-seq, row-offset, row_len, row-compression, row_entry-offset, row_entry_len}
use Rattle.memtable.specs.WindowLaws.{length-window}
use Rattle.memtable.specs.Columns.{Columns, columns, block_offset, block_len, laid_into, judged, columns_after, Answered, column, up_from}
use Rattle.columns.specs.ColumnLaws.{length-column, length-up_from, column-snoc, column-append, up_from-snoc, map-window, map-index}

-- ---- a turn of the loop: one row more in each slice

pub index-none : (d : List ℕ) (f : ℕ) → d ≡ put d 0 (up_from f 0)
unfolding up_from
index-none d f = sym (put-nil d 0)

pub cell-none : (d : List ℕ) (k : ℕ) (xs : List ℕ) → d ≡ put d 0 (column k 0 xs)
unfolding column
cell-none d k xs = sym (put-nil d 0)

-- a slice with numbers laid in from place `at`, and one more behind them
module _ (d : List ℕ) {l : List ℕ} (at : ℕ) where
  more : (s s' : List ℕ) (t v : ℕ) → l ≡ put d at s → s ++ (v ∷ []) ≡ s' → t ≡ at + length s → t < length d → set l t v ≡ put d at s'
  more s s' t v h e z b = rw (h, ← e, z) (put-snoc d at s v (rw z at b))

  -- one cell more, of row n behind row `from`
  next-cell : (xs : List ℕ) (from k n t p : ℕ) → p ≡ (from + n) * 8 + k → t ≡ at + n → t < length d → l ≡ put d at (column k n (drop (from * 8) xs))
      → set l t (get_or xs p 0) ≡ put d at (column k (n + 1) (drop (from * 8) xs))
  next-cell xs from k n t p e z b h =
      let m : length (column k n (drop (from * 8) xs)) ≡ n = length-column k n (drop (from * 8) xs) in
      let y : from * 8 + (n * 8 + k) ≡ p = omega arith in
      let g : get_or (drop (from * 8) xs) (n * 8 + k) 0 ≡ get_or xs p 0 = rw (get_or-drop (from * 8) xs (n * 8 + k) 0, y) in
      more _ _ t _ h (rw (← g) (column-snoc k n (drop (from * 8) xs))) (rw m z) b

module _ (d l : List ℕ) (i : ℕ) (b : i < length d) where
  pub index-more : (f : ℕ) → l ≡ put d 0 (up_from f i) → set l i (f + i) ≡ put d 0 (up_from f (i + 1))
  index-more f h = more d 0 _ _ i (f + i) h (up_from-snoc f i) (rw (length-up_from f i) (omega arith)) b

  pub cell-more : (xs : List ℕ) (from k : ℕ) → l ≡ put d 0 (column k i (drop (from * 8) xs)) → set l i (get_or xs ((from + i) * 8 + k) 0) ≡ put d 0 (column k (i + 1) (drop (from * 8) xs))
  cell-more xs from k h = next-cell d 0 xs from k i i _ refl (omega arith) b h

-- four cells from place `at` on
pub four-laid : (d : List ℕ) (at : ℕ) (xs : List ℕ) (from k : ℕ) → at + 4 ≤ length d
    → set (set (set (set d at (get_or xs (from * 8 + k) 0)) (at + 1) (get_or xs (from * 8 + k + 8) 0)) (at + 2) (get_or xs (from * 8 + k + 16) 0)) (at + 3) (get_or xs (from * 8 + k + 24) 0)
    ≡ put d at (column k 4 (drop (from * 8) xs))
unfolding column
four-laid d at xs from k b =
    next-cell d at xs from k 3 (at + 3) _ (omega arith) refl (omega arith)
    (next-cell d at xs from k 2 (at + 2) _ (omega arith) refl (omega arith)
    (next-cell d at xs from k 1 (at + 1) _ (omega arith) refl (omega arith)
    (next-cell d at xs from k 0 at _ (omega arith) (omega arith) (omega arith) (sym (put-nil d at)))))

-- four cells behind those of the rows before
pub four-more : (d : List ℕ) {l r : List ℕ} (xs : List ℕ) (from k i j : ℕ) → l ≡ put d 0 (column k i (drop (from * 8) xs)) → r ≡ put l i (column k 4 (drop ((from + i) * 8) xs)) → j ≡ i + 4 → i ≤ length d
    → r ≡ put d 0 (column k j (drop (from * 8) xs))
four-more d xs from k i j h e z b =
    let A = column k i (drop (from * 8) xs) in
    let B = column k 4 (drop (i * 8) (drop (from * 8) xs)) in
    let y : from * 8 + i * 8 ≡ (from + i) * 8 = omega arith in
    let m : 0 + length A ≡ i = rw (length-column k i (drop (from * 8) xs)) (omega arith) in
    let q : put (put d 0 A) i B ≡ put d 0 (A ++ B) = rw m at (sym (put-append d 0 A B (omega arith))) in
    e ∙ rw (h, ← y, ← drop-drop (i * 8) (from * 8) xs) q ∙ ap (put d 0) (column-append k i 4 (drop (from * 8) xs)) ∙ rw z

-- ---- rows as an answer

module _ (f n : ℕ) (ys : List ℕ) (out : Columns) where
  pub rows_short : length out.index < n → Answered (Ok (window f n ys)) out (Err ListTooShort) out
  unfolding judged columns_after and_then
  rows_short l =
      record {
        number = rw (length-window f n ys, lt-leb n (length out.index) l);
        slices = rw (length-window f n ys, lt-leb n (length out.index) l);
      }

  module _ (l : n ≤ length out.index) (r : (i : ℕ) → i < n → AnyRow ys i) where
    laid : columns
        (put out.index 0 (up_from f n))
        (put out.queue 0 (column 1 n ys))
        (put out.seq 0 (column 2 n ys))
        (put out.offset 0 (column 3 n ys))
        (put out.len 0 (column 4 n ys))
        (put out.compression 0 (column 5 n ys))
        (put out.entry_offset 0 (column 6 n ys))
        (put out.entry_len 0 (column 7 n ys))
        ≡ laid_into out (window f n ys)
    unfolding laid_into
    laid =
        rw (
          map-index f n ys,
          map-window (λ (e : EntryIndex). queue_number (file_of e).queue) 1 f n ys (λ i b. row-queue f ys i (r i b)),
          map-window (λ (e : EntryIndex). (file_of e).seq) 2 f n ys (λ i b. row-seq f ys i (r i b)),
          map-window (λ (e : EntryIndex). block_offset e.entries) 3 f n ys (λ i b. row-offset f ys i (r i b)),
          map-window (λ (e : EntryIndex). block_len e.entries) 4 f n ys (λ i b. row_len f ys i (r i b)),
          map-window (λ (e : EntryIndex). compression_number e.compression_type) 5 f n ys (λ i b. row-compression f ys i (r i b)),
          map-window (λ (e : EntryIndex). e.entry_offset) 6 f n ys (λ i b. row_entry-offset f ys i (r i b)),
          map-window (λ (e : EntryIndex). e.entry_len) 7 f n ys (λ i b. row_entry_len f ys i (r i b)),
        )

    pub rows-done : (exits : Columns)
        → exits.index ≡ put out.index 0 (up_from f n)
        → exits.queue ≡ put out.queue 0 (column 1 n ys)
        → exits.seq ≡ put out.seq 0 (column 2 n ys)
        → exits.offset ≡ put out.offset 0 (column 3 n ys)
        → exits.len ≡ put out.len 0 (column 4 n ys)
        → exits.compression ≡ put out.compression 0 (column 5 n ys)
        → exits.entry_offset ≡ put out.entry_offset 0 (column 6 n ys)
        → exits.entry_len ≡ put out.entry_len 0 (column 7 n ys)
        → Answered (Ok (window f n ys)) out (Ok n) exits
    unfolding judged columns_after and_then
    rows-done exits e0 e1 e2 e3 e4 e5 e6 e7 =
        record {
          number = rw (length-window f n ys, le-leb n (length out.index) l) (ap Ok (sym (length-window f n ys)));
          slices =
              rw (length-window f n ys, le-leb n (length out.index) l)
              (◌∙◌ {A = Columns} (λ i. columns (e0 i) (e1 i) (e2 i) (e3 i) (e4 i) (e5 i) (e6 i) (e7 i)) laid);
        }
