-- What is laid into eight lent slices, read as a list of records, is what the rules leave in it. Assumes nothing.
use Rattle.std.specs.Prelude.{List, [], ◌∷◌, ◌++◌, map, ◌≡◌, ℕ, zero, suc, ◌+◌, ◌-◌, ◌*◌, ◌≤◌, ◌<◌, min, length, get_or, drop}
use Rattle.std.proofs.Math.Path.{refl}
use Rattle.std.proofs.Common.{ap, ◌∙◌, add-zero, zero-add, suc-add, get_or-drop, drop-drop}
use Rattle.std.proofs.Math.Nat.{le_trans, min-le_left, min-le_right}
use Rattle.std.proofs.Math.Decide.{dec_le}
use native.Mathlib.Omega.{arith}
use Rattle.std.proofs.lemmas.List.{length-map}
use borrow.Author.Tests.{le-leb, lt-leb}
use Rattle.cells.specs.Part.{put}
use Rattle.cells.specs.PartLaws.{put-nil, length-put}
use Rattle.pipe_log.specs.Numbers.{queue_number, compression_number}
use Rattle.pipe_log.specs.Rows.{compression_at, is_record, block_at, entry_of, with_index, window}
use Rattle.rules.specs.Causes.{Ok, and_then}
use Rattle.rules.specs.Items.{EntryIndex, file_of}
use Rattle.rules.specs.Queries.{answered, lent_after}
use Rattle.memtable.specs.Views.{row_at, AnyRow}
use Rattle.memtable.specs.RowLaws.{row-queue, row-seq, row-offset, row_len, row-compression, row_entry-offset, row_entry_len, any-drop}
use Rattle.memtable.specs.WindowLaws.{length-window}
use Rattle.memtable.specs.Columns.{Columns, columns, block_offset, block_len, laid_into, columns_after}
use Rattle.columns.specs.Slices.{least_of, Least, shortest, first_row, behind_first, records_up_to, records_in}

-- ---- the least of eight numbers

module _ (a b c d e f g h : ℕ) where
  pub least-is : Least a b c d e f g h (least_of a b c d e f g h)
  unfolding least_of
  least-is =
      let l = min-le_left (min (min a b) (min c d)) (min (min e f) (min g h)) in
      let r = min-le_right (min (min a b) (min c d)) (min (min e f) (min g h)) in
      let ll = le_trans l (min-le_left (min a b) (min c d)) in
      let lr = le_trans l (min-le_right (min a b) (min c d)) in
      let rl = le_trans r (min-le_left (min e f) (min g h)) in
      let rr = le_trans r (min-le_right (min e f) (min g h)) in
      record {
        is = refl;
        below-a = le_trans ll (min-le_left a b);
        below-b = le_trans ll (min-le_right a b);
        below-c = le_trans lr (min-le_left c d);
        below-d = le_trans lr (min-le_right c d);
        below-e = le_trans rl (min-le_left e f);
        below-f = le_trans rl (min-le_right e f);
        below-g = le_trans rr (min-le_left g h);
        below-h = le_trans rr (min-le_right g h);
      }

-- ---- one record

-- the numbers of a record, in the order of a row
unfoldable pub numbers_of : EntryIndex → List ℕ
numbers_of e =
    e.index
    ∷ queue_number (file_of e).queue
    ∷ (file_of e).seq
    ∷ block_offset e.entries
    ∷ block_len e.entries
    ∷ compression_number e.compression_type
    ∷ e.entry_offset
    ∷ e.entry_len
    ∷ []

-- a row at another index
row_record : (f : ℕ) (ys : List ℕ) → entry_of (f ∷ get_or ys 1 0 ∷ get_or ys 2 0 ∷ get_or ys 3 0 ∷ get_or ys 4 0 ∷ get_or ys 5 0 ∷ get_or ys 6 0 ∷ get_or ys 7 0 ∷ []) ≡ with_index f (entry_of ys)
unfolding entry_of is_record block_at with_index
row_record f ys = refl

index_at : (f : ℕ) (xs : List ℕ) (i : ℕ) → (row_at f xs i).index ≡ f + i
unfolding row_at with_index
index_at f xs i = refl

made : (f : ℕ) (xs : List ℕ) (i : ℕ) → entry_of ((f + i) ∷ get_or (drop (i * 8) xs) 1 0 ∷ get_or (drop (i * 8) xs) 2 0 ∷ get_or (drop (i * 8) xs) 3 0 ∷ get_or (drop (i * 8) xs) 4 0 ∷ get_or (drop (i * 8) xs) 5 0 ∷ get_or (drop (i * 8) xs) 6 0 ∷ get_or (drop (i * 8) xs) 7 0 ∷ []) ≡ row_at f xs i
unfolding row_at
made f xs i = row_record (f + i) (drop (i * 8) xs)

-- the numbers of a row's record stand for it
numbers_record : (f : ℕ) (xs : List ℕ) (i : ℕ) → AnyRow xs i → entry_of (numbers_of (row_at f xs i)) ≡ row_at f xs i
unfolding numbers_of entry_of row_at is_record compression_at with_index
numbers_record f xs i r =
    rw (
      index_at f xs i,
      row-queue f xs i r,
      row-seq f xs i r,
      row-offset f xs i r,
      row_len f xs i r,
      row-compression f xs i r,
      row_entry-offset f xs i r,
      row_entry_len f xs i r,
      ← get_or-drop (i * 8) xs 1 0,
      ← get_or-drop (i * 8) xs 2 0,
      ← get_or-drop (i * 8) xs 3 0,
      ← get_or-drop (i * 8) xs 4 0,
      ← get_or-drop (i * 8) xs 5 0,
      ← get_or-drop (i * 8) xs 6 0,
      ← get_or-drop (i * 8) xs 7 0,
    )
    (made f xs i)

first_record : (f : ℕ) (ys : List ℕ) → AnyRow ys 0 → entry_of (numbers_of (with_index f (entry_of ys))) ≡ with_index f (entry_of ys)
unfolding row_at
first_record f ys r = rw (add-zero f) at (numbers_record f ys 0 r)

-- ---- records laid in

drop-one : (n : ℕ) (l : List ℕ) → drop n (drop 1 l) ≡ drop (suc n) l
drop-one n l = drop-drop n 1 l ∙ ap (λ (k : ℕ). drop k l) (let e : 1 + n ≡ suc n = omega arith in e)

-- a number and those behind it, laid in from the first place
put_first : (d : List ℕ) (v : ℕ) (s : List ℕ) → put d 0 (v ∷ s) ≡ v ∷ put (drop 1 d) 0 s
unfolding put
put_first d v s = rw (zero-add (length (v ∷ s)), zero-add (length s), drop-one (length s) d)

module _ (out : Columns) where
  laid_none : laid_into out [] ≡ out
  unfolding laid_into
  laid_none =
      λ i. columns
      (put-nil out.index 0 i)
      (put-nil out.queue 0 i)
      (put-nil out.seq 0 i)
      (put-nil out.offset 0 i)
      (put-nil out.len 0 i)
      (put-nil out.compression 0 i)
      (put-nil out.entry_offset 0 i)
      (put-nil out.entry_len 0 i)

  module _ (e : EntryIndex) (es : List EntryIndex) where
    laid-first : first_row (laid_into out (e ∷ es)) ≡ numbers_of e
    unfolding laid_into first_row numbers_of put
    laid-first = refl

    laid-behind : behind_first (laid_into out (e ∷ es)) ≡ laid_into (behind_first out) es
    unfolding laid_into behind_first
    laid-behind =
        rw (
          put_first out.index,
          put_first out.queue,
          put_first out.seq,
          put_first out.offset,
          put_first out.len,
          put_first out.compression,
          put_first out.entry_offset,
          put_first out.entry_len,
        )

pub length-up_to : (n : ℕ) (out : Columns) → length (records_up_to n out) ≡ n
unfolding records_up_to
length-up_to zero out = refl
length-up_to (suc n) out = ap suc (length-up_to n (behind_first out))

-- n records of rows laid in, of n + m that are read
records-laid : (f n m : ℕ) (ys : List ℕ) (out : Columns) → ((i : ℕ) → i < n → AnyRow ys i) → records_up_to (n + m) (laid_into out (window f n ys)) ≡ window f n ys ++ drop n (records_up_to (n + m) out)
unfolding records_up_to window
records-laid f zero m ys out r = rw (laid_none out)
records-laid f (suc n) m ys out r =
    let next : (i : ℕ) → i < n → AnyRow (drop 8 ys) i = λ i l. any-drop ys 1 i (let e : 1 + i ≡ suc i = omega arith in rw e (r (suc i) (omega arith))) in
    rw (
      suc-add n m,
      laid-first out (with_index f (entry_of ys)) (window (suc f) n (drop 8 ys)),
      first_record f ys (r 0 (omega arith)),
      laid-behind out (with_index f (entry_of ys)) (window (suc f) n (drop 8 ys)),
      records-laid (suc f) n m (drop 8 ys) (behind_first out) next,
    )

-- ---- the lent list

pub length-records : (out : Columns) → length (records_in out) ≡ shortest out
unfolding records_in
length-records out = length-up_to (shortest out) out

laid-length : (d : List ℕ) (g : EntryIndex → ℕ) (es : List EntryIndex) → length es ≤ length d → length (put d 0 (map g es)) ≡ length d
laid-length d g es h =
    let e = length-map es g in
    length-put d 0 (map g es) (omega arith)

pub shortest-is : (out : Columns) → Least (length out.index) (length out.queue) (length out.seq) (length out.offset) (length out.len) (length out.compression) (length out.entry_offset) (length out.entry_len) (shortest out)
shortest-is out =
    least-is (length out.index) (length out.queue) (length out.seq) (length out.offset) (length out.len) (length out.compression) (length out.entry_offset) (length out.entry_len)

-- records that have room leave the list's length
shortest-laid : (out : Columns) (es : List EntryIndex) → length es ≤ shortest out → shortest (laid_into out es) ≡ shortest out
unfolding laid_into
shortest-laid out es h =
    let b = shortest-is out in
    rw (
      laid-length out.index (λ (e : EntryIndex). e.index) es (le_trans h b.below-a),
      laid-length out.queue (λ (e : EntryIndex). queue_number (file_of e).queue) es (le_trans h b.below-b),
      laid-length out.seq (λ (e : EntryIndex). (file_of e).seq) es (le_trans h b.below-c),
      laid-length out.offset (λ (e : EntryIndex). block_offset e.entries) es (le_trans h b.below-d),
      laid-length out.len (λ (e : EntryIndex). block_len e.entries) es (le_trans h b.below-e),
      laid-length out.compression (λ (e : EntryIndex). compression_number e.compression_type) es (le_trans h b.below-f),
      laid-length out.entry_offset (λ (e : EntryIndex). e.entry_offset) es (le_trans h b.below-g),
      laid-length out.entry_len (λ (e : EntryIndex). e.entry_len) es (le_trans h b.below-h),
    )

module _ (f n : ℕ) (ys : List ℕ) (out : Columns) (r : (i : ℕ) → i < n → AnyRow ys i) where
  laid_in : n ≤ shortest out → records_in (laid_into out (window f n ys)) ≡ window f n ys ++ drop n (records_in out)
  unfolding records_in
  laid_in l =
      let e : n + (shortest out - n) ≡ shortest out = omega arith in
      let m = length-window f n ys in
      rw (shortest-laid out (window f n ys) (omega arith)) (rw e at (records-laid f n (shortest out - n) ys out r))

  -- the slices after the call are the rules' list after the call
  pub records-left : records_in (columns_after out (answered (records_in out) (Ok (window f n ys)))) ≡ lent_after (records_in out) (answered (records_in out) (Ok (window f n ys)))
  unfolding answered and_then columns_after lent_after
  records-left =
      elim (dec_le n (shortest out)) [
        | yes l ↦ rw (length-window f n ys, length-records out, le-leb n (shortest out) l, length-window f n ys) (laid_in l)
        | no l ↦ rw (length-window f n ys, length-records out, lt-leb n (shortest out) (omega arith))
      ]
