-- The laws of rows: a row that stands elsewhere, and what the record of a row says. Assumes nothing.
use Rattle.std.specs.Prelude.{true, false, List, ◌≡◌, refl, ℕ, zero, suc, ◌+◌, ◌*◌, ◌<◌, ◌^◌, get_or, drop}
use Rattle.std.proofs.Common.{◌∙◌, arith}
use Rattle.std.proofs.Math.Decide.{dec_lt}
use Rattle.std.proofs.Math.Seq.{get_or-drop}
use borrow.Author.Tests.{lt-ltb}
use Rattle.pipe_log.specs.Numbers.{queue_number, compression_number}
use Rattle.pipe_log.specs.Rows.{queue_at, compression_at, is_record, block_at, entry_of, with_index}
use Rattle.rules.specs.Items.{same_queue, block_file, file_of, is_rewrite}
use Rattle.memtable.specs.declared.Head.{Head}
use Rattle.memtable.specs.Views.{row_at, Row, AnyRow, Wf}
use Rattle.memtable.specs.Columns.{block_offset, block_len}

-- row i of ys, which is row j of xs
pub row_moved : {q : ℕ} (xs ys : List ℕ) (i j : ℕ) → ((k : ℕ) → k < 8 → get_or ys (i * 8 + k) 0 ≡ get_or xs (j * 8 + k) 0) → Row q xs j → Row q ys i
row_moved xs ys i j h r =
    record {
      queue = h 1 (omega arith) ∙ r.queue;
      compression = rw (h 5 (omega arith)) r.compression;
      offset = rw (h 6 (omega arith)) r.offset;
      len = rw (h 7 (omega arith)) r.len;
    }

-- what the record of a row of either queue says
pub queue_number_lem : (n : ℕ) → n < 2 → queue_number (queue_at n) ≡ n
unfolding queue_at
queue_number_lem zero h = refl
queue_number_lem (suc zero) h = refl
queue_number_lem (suc (suc n)) h = absurd (omega arith)

compression_number_lem : (n : ℕ) → n < 2 → compression_number (compression_at n) ≡ n
unfolding compression_at
compression_number_lem zero h = refl
compression_number_lem (suc zero) h = refl
compression_number_lem (suc (suc n)) h = absurd (omega arith)

module _ (f : ℕ) (xs : List ℕ) (i : ℕ) (r : AnyRow xs i) where
  is_record_lem : is_record (drop (i * 8) xs) ≡ true
  unfolding is_record
  is_record_lem =
      rw (
        get_or-drop (i * 8) xs 1 0,
        get_or-drop (i * 8) xs 5 0,
        get_or-drop (i * 8) xs 6 0,
        lt-ltb (get_or xs (i * 8 + 1) 0) 2 r.queue,
        lt-ltb (get_or xs (i * 8 + 5) 0) 2 r.compression,
        lt-ltb (get_or xs (i * 8 + 6) 0) (2 ^ 32) r.offset,
      )

  pub row-queue : queue_number (file_of (row_at f xs i)).queue ≡ get_or xs (i * 8 + 1) 0
  unfolding file_of block_file row_at with_index entry_of block_at
  row-queue = rw (is_record_lem, get_or-drop (i * 8) xs 1 0) (queue_number_lem (get_or xs (i * 8 + 1) 0) r.queue)

  pub row-seq : (file_of (row_at f xs i)).seq ≡ get_or xs (i * 8 + 2) 0
  unfolding file_of block_file row_at with_index entry_of block_at
  row-seq = rw (is_record_lem, get_or-drop (i * 8) xs 2 0)

  pub row-offset : block_offset (row_at f xs i).entries ≡ get_or xs (i * 8 + 3) 0
  unfolding block_offset row_at with_index entry_of block_at
  row-offset = rw (is_record_lem, get_or-drop (i * 8) xs 3 0)

  pub row_len : block_len (row_at f xs i).entries ≡ get_or xs (i * 8 + 4) 0
  unfolding block_len row_at with_index entry_of block_at
  row_len = rw (is_record_lem, get_or-drop (i * 8) xs 4 0)

  pub row-compression : compression_number (row_at f xs i).compression_type ≡ get_or xs (i * 8 + 5) 0
  unfolding row_at with_index entry_of
  row-compression = rw (get_or-drop (i * 8) xs 5 0) (compression_number_lem (get_or xs (i * 8 + 5) 0) r.compression)

  pub row_entry-offset : (row_at f xs i).entry_offset ≡ get_or xs (i * 8 + 6) 0
  unfolding row_at with_index entry_of
  row_entry-offset = rw (get_or-drop (i * 8) xs 6 0)

  pub row_entry_len : (row_at f xs i).entry_len ≡ get_or xs (i * 8 + 7) 0
  unfolding row_at with_index entry_of
  row_entry_len = rw (get_or-drop (i * 8) xs 7 0)

pub row_any : {q : ℕ} (xs : List ℕ) (i : ℕ) → q < 2 → Row q xs i → AnyRow xs i
row_any xs i l r = record { queue = rw r.queue l; compression = r.compression; offset = r.offset; len = r.len }

pub row_at-queue : {q : ℕ} (f : ℕ) (xs : List ℕ) (i : ℕ) → q < 2 → Row q xs i → (file_of (row_at f xs i)).queue ≡ queue_at q
unfolding file_of block_file row_at with_index entry_of block_at
row_at-queue f xs i l r = rw (is_record_lem f xs i (row_any xs i l r), get_or-drop (i * 8) xs 1 0, r.queue)

module _ (f : ℕ) (xs : List ℕ) (i : ℕ) where
  pub row_at-rewrite : Row 1 xs i → is_rewrite (row_at f xs i) ≡ true
  unfolding is_rewrite same_queue queue_at
  row_at-rewrite r = rw (row_at-queue f xs i (omega arith) r)

  pub row_at-append : Row 0 xs i → is_rewrite (row_at f xs i) ≡ false
  unfolding is_rewrite same_queue queue_at
  row_at-append r = rw (row_at-queue f xs i (omega arith) r)

-- each row of a well-formed head
pub held-row : (h : Head) (xs : List ℕ) → Wf h xs → (i : ℕ) → i < h.len → AnyRow xs i
held-row h xs w i l =
    elim (dec_lt i h.rewrite_count) [
      | yes u ↦ row_any xs i (omega arith) (w.rewritten i (omega arith) u)
      | no u ↦ row_any xs i (omega arith) (w.appended i (omega arith) l)
    ]

-- a row of what follows the first k rows
pub any-drop : (xs : List ℕ) (k i : ℕ) → AnyRow xs (k + i) → AnyRow (drop (k * 8) xs) i
any-drop xs k i r =
    let e : (j : ℕ) → get_or (drop (k * 8) xs) (i * 8 + j) 0 ≡ get_or xs ((k + i) * 8 + j) 0 =
    λ j. (let z : k * 8 + (i * 8 + j) ≡ (k + i) * 8 + j = omega arith in rw (get_or-drop (k * 8) xs (i * 8 + j) 0, z)) in
    record { queue = rw (e 1) r.queue; compression = rw (e 5) r.compression; offset = rw (e 6) r.offset; len = rw (e 7) r.len }
