-- The ways through the functions that close a field. Assumes nothing.
use Rattle.std.specs.Prelude.{Option, None, Some, unwrap_or, Ok, SomeIff}
use Rattle.std.proofs.Common.{◌≡◌, refl, sym, ap, ◌∙◌, List, [], ◌∷◌, ◌++◌, ℕ, zero, suc, ◌+◌, ◌*◌, ◌^◌, ◌≤◌, ◌<◌, add-one, zero-add, arith, length, drop, length-append, length-drop, lt-ltb}
use lib.ListN.{get_or-append}
use lib.Seq.{take_all, take_at, drop-append-le}
use Rattle.cells.specs.Part.{part, put}
use Rattle.cells.specs.PartLaws.{length_part, part-append, part-put-before, part-put_same}
use Rattle.pipe_log.specs.Rows.{queue_at, compression_at, is_record, block_at, entry_of, entries_of}
use Rattle.takes_lines.specs.declared.line.OpenLine.{OpenLine}
use Rattle.takes_rules.specs.Fields.{bind}
use Rattle.takes_rules.specs.Lines.{number_limit, append_file, entry_at}
use Rattle.takes_lines.specs.Reading.{kept_most, keep, with_number, with_named, with_entry, close_number, close_length}
use Rattle.takes_lines.specs.Views.{named_of, reading_of, read_of, TurnsRows}

-- ---- lengths

-- rows with one more behind them
rows_more : (n : ℕ) (ys zs : List ℕ) → length ys ≡ n * 8 → entries_of (suc n) (ys ++ zs) ≡ entries_of n ys ++ (entry_of zs ∷ [])
unfolding entries_of entry_of is_record block_at compression_at
rows_more zero [] zs e = refl
rows_more zero (y ∷ ys) zs e = absurd (omega arith)
rows_more (suc n) ys zs e =
    rw (first_entry ys zs (omega arith), drop-append-le 8 ys zs (omega arith), rows_more n (drop 8 ys) zs (simp length-drop (omega arith)))
  where
    first_entry : (xs us : List ℕ) → 8 ≤ length xs → entry_of (xs ++ us) ≡ entry_of xs
    first_entry xs us h =
        rw (
          get_or-append xs us 0 0 (omega arith),
          get_or-append xs us 0 1 (omega arith),
          get_or-append xs us 0 2 (omega arith),
          get_or-append xs us 0 3 (omega arith),
          get_or-append xs us 0 4 (omega arith),
          get_or-append xs us 0 5 (omega arith),
          get_or-append xs us 0 6 (omega arith),
          get_or-append xs us 0 7 (omega arith),
        )

length-entries : (n : ℕ) (xs : List ℕ) → length (entries_of n xs) ≡ n
unfolding entries_of
length-entries zero xs = refl
length-entries (suc n) xs = ap suc (length-entries n (drop 8 xs))

-- the row of a length's entry
abbrev pub row_for : ℕ → ℕ → ℕ → List ℕ
row_for i f n = i ∷ (0 ∷ (f ∷ (0 ∷ (0 ∷ (0 ∷ (0 ∷ (n ∷ [])))))))

module _ (n : ℕ) (rows : List ℕ) (fits : length rows ≡ 264) (i f len : ℕ) where
  row_written : n < 33 → part 0 ((n + 1) * 8) (put rows (n * 8) (row_for i f len)) ≡ part 0 (n * 8) rows ++ row_for i f len
  row_written k =
      let e : (n + 1) * 8 ≡ n * 8 + 8 = omega arith in
      rw (
        e,
        ← part-append 0 (n * 8) 8 (put rows (n * 8) (row_for i f len)),
        zero-add,
        part-put-before 0 (n * 8) rows (n * 8) (row_for i f len) (omega arith) (omega arith),
        part-put_same 8 rows (n * 8) (row_for i f len) refl (omega arith),
      )

  pub entry_kept : n < 33 → entries_of (n + 1) (part 0 ((n + 1) * 8) (put rows (n * 8) (row_for i f len))) ≡ keep (entries_of n (part 0 (n * 8) rows)) (entry_at i f len)
  unfolding keep entry_of is_record block_at queue_at compression_at entry_at append_file
  entry_kept k =
      let held = entries_of n (part 0 (n * 8) rows) in
      rw (row_written k, add-one n, rows_more n (part 0 (n * 8) rows) (row_for i f len) (length_part 0 (n * 8) rows (omega arith)))
      (sym (take_all kept_most (held ++ (entry_at i f len ∷ [])) (simp (length-append, length-entries) (omega arith))))

  pub entries-full : n ≡ 33 → keep (entries_of n (part 0 (n * 8) rows)) (entry_at i f len) ≡ entries_of n (part 0 (n * 8) rows)
  unfolding keep
  entries-full k = take_at (entries_of n (part 0 (n * 8) rows)) _ kept_most (length-entries n _ ∙ k)

-- the index behind an entry's
pub next-index : (n : Option ℕ) (i : ℕ) → i < 2 ^ 64 → SomeIff n (i + 1 < 2 ^ 64) (i + 1) → unwrap_or n number_limit ≡ suc i
next-index None i h s = omega (arith, s)
next-index (Some x) i h s = s.1 ∙ add-one i

module _ (h : OpenLine) (rows : List ℕ) where
  pub length-turns : (i v : ℕ) (r : OpenLine) (rows' : List ℕ) → h.next ≡ Some i → i < 2 ^ 64 → h.number ≡ Some v → length rows' ≡ length rows → ((bytes : List ℕ) → reading_of r rows' bytes ≡ with_named (with_entry v (named_of h rows bytes)) (with_number None (reading_of h rows bytes))) → TurnsRows h rows (Ok r) rows' close_length
  unfolding close_length close_number reading_of named_of read_of bind
  length-turns i v r rows' e b n l f = record { same_length = l; reads = λ bytes. ap Some (f bytes) ∙ rw (e, lt-ltb i number_limit b, n) }
