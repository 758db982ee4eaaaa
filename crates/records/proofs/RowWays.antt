-- Records laid into a lent list as rows: one row, one row more, and what is answered. Assumes nothing.
use Rattle.std.specs.Prelude.{IsErrAnd}
use Rattle.std.proofs.lemmas.Result.{err_from_is_err_and}
use Rattle.memtable.specs.Columns.{judged}
use Rattle.records.specs.declared.Plan.{Plan}
use Rattle.records.specs.Plans.{Storing}
use mathlib.Core.List.{List, [], ◌∷◌, ◌++◌, append_assoc, append-nil}
use mathlib.Core.Path.{◌≡◌, refl, sym, ap, ◌∙◌}
use Prim.Native.Nat.{ℕ, suc, ◌+◌, ◌*◌, ◌/◌, ◌≤◌, ◌<◌}
use native.Mathlib.Nat.{zero-add}
use native.Mathlib.Numerals.{add-one}
use native.Mathlib.Omega.{arith}
use lib.ListN.{length, get_or, drop, length-append}
use lib.Seq.{get_or-drop}
use borrow.Author.Tests.{le-leb}
use Rattle.cells.specs.Part.{put}
use Rattle.cells.specs.PartLaws.{length-put, put-nil, put-append}
use Rattle.pipe_log.specs.Rows.{with_index, window}
use Rattle.rules.specs.Causes.{ByCause, Cause, Result, Ok, refuse, and_then}
use Rattle.rules.specs.Items.{EntryIndex, file_of}
use Rattle.rules.specs.Queries.{answered}
use Rattle.log_batch.specs.OpenLaws.{length-entries}
use Rattle.memtable.specs.Views.{row_at, AnyRow}
use Rattle.memtable.specs.Columns.{block_offset, block_len}
use Rattle.memtable.specs.RowLaws.{row-queue, row-seq, row-offset, row_len, row-compression, row_entry-offset, row_entry_len}
use Rattle.memtable.specs.WindowLaws.{length-window}
use Rattle.records.specs.Filling.{Fillable}
use Rattle.records.specs.FillingLaws.{window-snoc}
use Rattle.records.specs.Rows.{row_of, rows_of, lent_rows, rows_after, RowsFetched, cells_of}

-- ---- one row

-- a number of row i of those from place `at` on
cell-is : (xs : List ℕ) (at i k : ℕ) → get_or (drop at xs) (i * 8 + k) 0 ≡ get_or xs (at + i * 8 + k) 0
cell-is xs at i k =
    let e : at + (i * 8 + k) ≡ at + i * 8 + k = omega arith in
    rw (get_or-drop at xs (i * 8 + k) 0, e)

index_is : (f i : ℕ) (p : List ℕ) → (row_at f p i).index ≡ f + i
unfolding row_at with_index
index_is f i p = refl

pub row_is : (xs : List ℕ) (at f i : ℕ) → AnyRow (drop at xs) i → cells_of (f + i) (at + i * 8) xs ≡ row_of (row_at f (drop at xs) i)
unfolding cells_of row_of file_of block_offset block_len row_at
row_is xs at f i r =
    rw (
      index_is f i (drop at xs),
      row-queue f (drop at xs) i r,
      row-seq f (drop at xs) i r,
      row-offset f (drop at xs) i r,
      row_len f (drop at xs) i r,
      row-compression f (drop at xs) i r,
      row_entry-offset f (drop at xs) i r,
      row_entry_len f (drop at xs) i r,
      cell-is xs at i 1,
      cell-is xs at i 2,
      cell-is xs at i 3,
      cell-is xs at i 4,
      cell-is xs at i 5,
      cell-is xs at i 6,
      cell-is xs at i 7,
    )

-- ---- one row more

length-row : (e : EntryIndex) → length (row_of e) ≡ 8
unfolding row_of
length-row e = refl

pub length-rows : (es : List EntryIndex) → length (rows_of es) ≡ length es * 8
unfolding rows_of
length-rows [] = refl
length-rows (e ∷ es) =
    let a = length-append (row_of e) (rows_of es) in
    let b = length-row e in
    let c = length-rows es in
    omega (arith, a, b, c)

rows_append : (es fs : List EntryIndex) → rows_of (es ++ fs) ≡ rows_of es ++ rows_of fs
unfolding rows_of
rows_append [] fs = refl
rows_append (e ∷ es) fs = rw (rows_append es fs) (sym (append_assoc (row_of e) (rows_of es) (rows_of fs)))

rows-one : (e : EntryIndex) → rows_of (e ∷ []) ≡ row_of e
unfolding rows_of
rows-one e = append-nil (row_of e)

module _ (ys : List ℕ) (f n : ℕ) (p : List ℕ) where
  length-laid : length (rows_of (window f n p)) ≡ n * 8
  length-laid = length-rows (window f n p) ∙ rw (length-window f n p)

  -- the list stays as long as it was
  pub same-room : n * 8 ≤ length ys → length (put ys 0 (rows_of (window f n p))) ≡ length ys
  same-room l =
      let e = length-laid in
      length-put ys 0 (rows_of (window f n p)) (omega (arith, e))

  pub row_more : put (put ys 0 (rows_of (window f n p))) (n * 8) (row_of (row_at f p n)) ≡ put ys 0 (rows_of (window f (suc n) p))
  row_more =
      let z : 0 + length (rows_of (window f n p)) ≡ n * 8 = zero-add _ ∙ length-laid in
      rw (← window-snoc f n p, rows_append (window f n p) (row_at f p n ∷ []), rows-one (row_at f p n))
      (rw z at (sym (put-append ys 0 (rows_of (window f n p)) (row_of (row_at f p n)) (omega arith))))

pub rows_none : (ys : List ℕ) (f : ℕ) (p : List ℕ) → ys ≡ put ys 0 (rows_of (window f 0 p))
unfolding window rows_of
rows_none ys f p = sym (put-nil ys 0)

-- ---- a turn of the loop

module _ {at f n : ℕ} {xs : List ℕ} (ys : List ℕ) (h : Fillable at f n xs (length ys / 8)) where
  rows_fit : (i : ℕ) → i ≤ n → i * 8 ≤ length ys
  rows_fit i l = omega (arith, h.fits)

  pub room-stays : {i : ℕ} {out : List ℕ} → i ≤ n → out ≡ put ys 0 (rows_of (window f i (drop at xs))) → length out ≡ length ys
  room-stays {i} l e = ap length e ∙ same-room ys f i (drop at xs) (rows_fit i l)

  pub room_at : {i : ℕ} {out : List ℕ} → out ≡ put ys 0 (rows_of (window f i (drop at xs))) → i < n → (at + i * 8 + 8 ≤ length xs) × (i * 8 + 8 ≤ length out)
  room_at e l =
      let m = room-stays (omega arith) e in
      (omega (arith, h.inside), omega (arith, m, h.fits))

  pub row-turn : {i : ℕ} {out out' : List ℕ} → out ≡ put ys 0 (rows_of (window f i (drop at xs))) → i < n → out' ≡ put out (i * 8) (cells_of (f + i) (at + i * 8) xs) → out' ≡ put ys 0 (rows_of (window f (i + 1) (drop at xs)))
  row-turn {i} e l d =
      d ∙ rw (e, row_is xs at f i (h.rows i (omega arith) l), add-one i) (row_more ys f i (drop at xs))

-- ---- what is answered

room-is : (out : List ℕ) → length (lent_rows out) ≡ length out / 8
unfolding lent_rows
room-is out = length-entries (length out / 8) out

-- the answer judged by the room for rows
judged-rows : (out : List ℕ) (answer : Result (List EntryIndex)) → answered (lent_rows out) answer ≡ judged (length out / 8) answer
unfolding answered judged
judged-rows out answer = rw (room-is out)

-- a refusal that a `?` passes on leaves the list
pub rows-refused : {answer : Result (List EntryIndex)} {out : List ℕ} {cause : Cause} → judged (length out / 8) answer ≡ refuse cause → (r : ByCause ℕ) → IsErrAnd r (λ y. y ≡ cause) → RowsFetched answer out r out
unfolding rows_after and_then
rows-refused {answer} {out} e r p =
    let q = err_from_is_err_and r p in
    rw (q.1, q.2) (record { number = rw (judged-rows out answer, e); rows = rw (judged-rows out answer, e) })

pub rows-done : {answer : Result (List EntryIndex)} {xs out exits : List ℕ} {p : Plan} → Storing answer xs (length out / 8) p → exits ≡ put out 0 (rows_of (window p.first p.count (drop p.at xs))) → RowsFetched answer out (Ok p.count) exits
unfolding judged rows_after and_then
rows-done {xs = xs} {out} {p = p} s d =
    let e = length-window p.first p.count (drop p.at xs) in
    let t = le-leb p.count (length out / 8) s.fillable.fits in
    record {
      number = rw (judged-rows out _, s.records-are, e, t, e);
      rows = rw (judged-rows out _, s.records-are, e, t) d;
    }
