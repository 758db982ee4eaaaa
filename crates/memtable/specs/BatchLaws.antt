-- Lent rows of a batch that the checks 3 to 5 let pass: their records are a window, and they meet what the writers require.
-- Assumes nothing.
use Rattle.std.specs.Prelude.{None, Some, Bool, true, false, cond, not, ◌&&◌, ◌||◌, List, ◌∷◌, ◌≡◌, refl, ℕ, zero, suc, ◌+◌, ◌-◌, ◌*◌, ◌/◌, ◌≤◌, ◌<◌, ◌^◌, eqb, length, get_or, drop}
use Rattle.std.proofs.Math.Path.{sym, ap}
use Rattle.std.proofs.Common.{◌∙◌, arith}
use Rattle.std.proofs.Math.Decide.{dec_lt}
use Rattle.std.proofs.Math.Dec.{ltb}
use Rattle.std.proofs.Math.Seq.{get_or-drop}
use borrow.Author.Tests.{ltb-true, ltb-false, eqb-true, not-false}
use Rattle.maps.specs.Lists.{any}
use Rattle.pipe_log.specs.Numbers.{queue_number}
use Rattle.pipe_log.specs.Rows.{queue_at, is_record, block_at, entry_of, entries_of, with_index, window}
use Rattle.rules.specs.Items.{LogQueue, Append, Rewrite, EntryIndex, same_queue, has_file, block_file, file_of, entries, Call, writes}
use Rattle.pipe_log.specs.declared.FileBlockHandle.{FileBlockHandle}
use Rattle.rules.specs.Limits.{max_index, max_entry_len}
use Rattle.rules.specs.Checks.{consecutive, is_incomplete, is_out_of_range, is_other_queue}
use Rattle.maps.specs.BoolLaws.{clash, both_left, both_right, neither_left, neither_right}
use Rattle.memtable.specs.Views.{row_at}
use Rattle.memtable.specs.Appends.{Lent}
use Rattle.memtable.specs.RowLaws.{queue_number_lem}
use Rattle.memtable.specs.WindowLaws.{row_at-zero, row_at-suc}

-- ---- a checked list is a window

pub entries_of-window : (n : ℕ) (rows : List ℕ) → consecutive (entries_of n rows) ≡ true → entries_of n rows ≡ window (get_or rows 0 0) n rows
unfolding entries_of window consecutive with_index entry_of
entries_of-window zero rows e = refl
entries_of-window (suc zero) rows e = refl
entries_of-window (suc (suc n)) rows e =
    let a = eqb (get_or (drop 8 rows) 0 0) (suc (get_or rows 0 0)) in
    let b = consecutive (entries_of (suc n) (drop 8 rows)) in
    let d : get_or (drop 8 rows) 0 0 ≡ suc (get_or rows 0 0) = eqb-true (get_or (drop 8 rows) 0 0) (suc (get_or rows 0 0)) (both_left a b e) in
    ap (λ (l : List EntryIndex). entry_of rows ∷ l)
    (entries_of-window (suc n) (drop 8 rows) (both_right a b e) ∙ ap (λ (i : ℕ). window i (suc n) (drop 8 rows)) d)

-- what a test is not of any record of a window, it is of no row
pub none_of : (p : EntryIndex → Bool) (f n : ℕ) (xs : List ℕ) → any p (window f n xs) ≡ false → (i : ℕ) → i < n → p (row_at f xs i) ≡ false
unfolding any window
none_of p f zero xs e i l = absurd (omega arith)
none_of p f (suc n) xs e zero l = rw (row_at-zero f xs) (neither_left (p (with_index f (entry_of xs))) (any p (window (suc f) n (drop 8 xs))) e)
none_of p f (suc n) xs e (suc i) l =
    rw (row_at-suc f xs i) at (none_of p (suc f) n (drop 8 xs) (neither_right (p (with_index f (entry_of xs))) (any p (window (suc f) n (drop 8 xs))) e) i (omega arith))

-- ---- what the checks of a list say of a row

entry_len_lem : (f : ℕ) (xs : List ℕ) (i : ℕ) → (row_at f xs i).entry_len ≡ get_or xs (i * 8 + 7) 0
unfolding row_at with_index entry_of
entry_len_lem f xs i = rw (get_or-drop (i * 8) xs 7 0)

filed : (b : Bool) (block : FileBlockHandle) → not (has_file (cond b (Some block) None)) ≡ false → b ≡ true
unfolding has_file
filed true block e = refl
filed false block e = sym e

same_queue_lem : (a b : LogQueue) → same_queue a b ≡ true → a ≡ b
unfolding same_queue
same_queue_lem Append Append e = refl
same_queue_lem Append Rewrite e = absurd (clash e)
same_queue_lem Rewrite Append e = absurd (clash e)
same_queue_lem Rewrite Rewrite e = refl

module _ (call : Call) (s n : ℕ) (rows : List ℕ)
    (three : is_incomplete call (entries (window s n rows)) ≡ false)
    (four : is_out_of_range (entries (window s n rows)) ≡ false)
    (five : is_other_queue call (entries (window s n rows)) ≡ false) where
  -- the test of 3 on a record
  abbrev unfiled : EntryIndex → Bool
  unfiled e = not (has_file e.entries)

  abbrev too_high : EntryIndex → Bool
  too_high e = ltb max_index e.index || ltb max_entry_len e.entry_len

  abbrev elsewhere : EntryIndex → Bool
  elsewhere e = has_file e.entries && not (same_queue (file_of e).queue (writes call))

  is_record_lem : (i : ℕ) → i < n → is_record (drop (i * 8) rows) ≡ true
  unfolding is_incomplete row_at with_index entry_of
  is_record_lem i l =
      filed (is_record (drop (i * 8) rows)) (block_at (drop (i * 8) rows))
      (none_of unfiled s n rows (neither_left (any unfiled (window s n rows)) (not (consecutive (window s n rows))) three) i l)

  -- the three bounds of a record
  cells_fit : (i : ℕ) → i < n → (get_or rows (i * 8 + 1) 0 < 2) × (get_or rows (i * 8 + 5) 0 < 2) × (get_or rows (i * 8 + 6) 0 < 2 ^ 32)
  unfolding is_record
  cells_fit i l =
      let e = rw (get_or-drop (i * 8) rows 1 0, get_or-drop (i * 8) rows 5 0, get_or-drop (i * 8) rows 6 0) at (is_record_lem i l) in
      let x = ltb (get_or rows (i * 8 + 1) 0) 2 in
      let y = ltb (get_or rows (i * 8 + 5) 0) 2 in
      let z = ltb (get_or rows (i * 8 + 6) 0) (2 ^ 32) in (
        ltb-true (get_or rows (i * 8 + 1) 0) 2 (both_left x y (both_left (x && y) z e)),
        ltb-true (get_or rows (i * 8 + 5) 0) 2 (both_right x y (both_left (x && y) z e)),
        ltb-true (get_or rows (i * 8 + 6) 0) (2 ^ 32) (both_right (x && y) z e),
      )

  -- its index, its length and its queue
  index-fits : (i : ℕ) → i < n → s + i ≤ max_index
  unfolding is_out_of_range row_at with_index
  index-fits i l =
      ltb-false max_index (s + i) (neither_left (ltb max_index (s + i)) (ltb max_entry_len (row_at s rows i).entry_len) (none_of too_high s n rows four i l))

  len-fits : (i : ℕ) → i < n → get_or rows (i * 8 + 7) 0 ≤ max_entry_len
  unfolding is_out_of_range row_at with_index
  len-fits i l =
      rw (entry_len_lem s rows i) at
      (ltb-false max_entry_len (row_at s rows i).entry_len (neither_right (ltb max_index (s + i)) (ltb max_entry_len (row_at s rows i).entry_len) (none_of too_high s n rows four i l)))

  queue-is : (i : ℕ) → i < n → get_or rows (i * 8 + 1) 0 ≡ queue_number (writes call)
  unfolding is_other_queue row_at with_index entry_of block_at file_of block_file has_file
  queue-is i l =
      let e = rw (is_record_lem i l, get_or-drop (i * 8) rows 1 0) at (none_of elsewhere s n rows five i l) in
      let q = same_queue_lem (queue_at (get_or rows (i * 8 + 1) 0)) (writes call) (not-false (same_queue (queue_at (get_or rows (i * 8 + 1) 0)) (writes call)) e) in
      sym (queue_number_lem (get_or rows (i * 8 + 1) 0) (cells_fit i l).0) ∙ ap queue_number q

  -- the rows meet what the writers require; a list without entries starts anywhere up to 2^63
  pub lent-checked : length rows ≡ n * 8 → (n ≡ 0 → s ≤ 2 ^ 63) → Lent (queue_number (writes call)) s rows
  lent-checked e z =
      let d : length rows / 8 ≡ n = omega arith in
      record {
        whole = omega arith;
        index =
            elim (dec_lt 0 n) [
              | yes l ↦ omega (arith, index-fits (n - 1) (omega arith))
              | no l ↦ omega (arith, z (omega arith))
            ];
        are = λ i a b.
            record {
              queue = queue-is i (omega arith);
              compression = (cells_fit i (omega arith)).1;
              offset = (cells_fit i (omega arith)).2;
              len = len-fits i (omega arith);
            };
      }
