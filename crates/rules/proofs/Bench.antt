-- 01's starred bench cases 2 to 10.
use mathlib.Core.Path.{◌≡◌, refl}
use mathlib.Core.Bool.{true}
use mathlib.Core.List.{List, [], ◌∷◌, ◌++◌, map}
use Rattle.std.specs.Prelude.{Option, None, Some}
use Prim.Native.Nat.{ℕ}
use Rattle.rules.specs.Causes.{Result, Ok, refuse, and_then, EntryCompacted, EntryNotFound, BelowFirst, AboveLast, AppendLeft, AlreadyRewritten}
use Rattle.rules.specs.Items.{Append, Rewrite, EntryIndex, file_of, Batch, entries, command, compact}
use Rattle.rules.specs.Table.{Table, Span, empty_table, appended, rewritten, compacted, compacted_count, with_entries, with_span}
use Rattle.rules.specs.TableQueries.{fetch_entries_to, min_file_seq, rewrite_count}
use Rattle.rules.proofs.Opened.{opened}
use Rattle.rules.proofs.Terms.{sized_entry, entry, several, indexes, batch, recovered, merged, held}

-- the indexes that a table holds after a change
abbrev pub held_by : Result Table → Result (List ℕ)
held_by r = and_then r (λ t. Ok (indexes t.entries))

abbrev pub answer : Result (List EntryIndex) → Result (List ℕ)
answer r = and_then r (λ es. Ok (indexes es))

abbrev pub table_of : List EntryIndex → Table
table_of es = with_entries es empty_table

-- 5..8 in an Append file
abbrev pub live : Table
live = table_of (several Append 1 5 4)

-- 5..8 in Append files 1, 1, 2, 3
abbrev pub filed : Table
filed = table_of (entry Append 1 5 ∷ entry Append 1 6 ∷ entry Append 2 7 ∷ entry Append 3 8 ∷ [])

-- the files' numbers after a rewrite of 4..8 to Rewrite file s, and the number of rewritten entries
abbrev pub seqs : Result Table → Result (List ℕ)
seqs r = and_then r (λ t. Ok (map (λ (e : EntryIndex). (file_of e).seq) t.entries))

abbrev pub moved : Option ℕ → ℕ → Table → Result Table
moved gate s t = rewritten gate (several Rewrite s 4 5) t

-- Rewrite files 9 and 4
abbrev pub nine_four : Option Span → Table
nine_four s = with_span s (table_of (entry Rewrite 9 1 ∷ entry Rewrite 4 2 ∷ []))

abbrev pub run1 : List Batch
run1 = batch Append 1 (entries (several Append 1 1 10) ∷ []) ∷ []

abbrev pub run2 : List Batch
run2 = batch Append 2 (entries (several Append 2 4 3) ∷ command (compact 7) ∷ []) ∷ []

abbrev pub rewrite1 : List Batch
rewrite1 = batch Rewrite 1 (entries (several Rewrite 1 1 3) ∷ []) ∷ []

abbrev pub rewrite2 : List Batch
rewrite2 = batch Rewrite 2 (entries (several Rewrite 2 10 3) ∷ entries (several Rewrite 2 4 2) ∷ []) ∷ []

pub record Bench : Type 0 where
  -- 2. run 1: 1..10; run 2: 4..6, compact 7. One pass holds none; two runs merged hold 7..10.
  pub case-2-pass : held (recovered Append (run1 ++ run2)) ≡ Ok []
  pub case-2-merge : held (merged (recovered Append run1) (recovered Append run2)) ≡ Ok (7 ∷ 8 ∷ 9 ∷ 10 ∷ [])
  -- 3. Rewrite runs 1..3 and (10..12, 4..5): one pass 4..5, merged 1..5
  pub case-3-pass : held (recovered Rewrite (rewrite1 ++ rewrite2)) ≡ Ok (4 ∷ 5 ∷ [])
  pub case-3-merge : held (merged (recovered Rewrite rewrite1) (recovered Rewrite rewrite2)) ≡ Ok (1 ∷ 2 ∷ 3 ∷ 4 ∷ 5 ∷ [])
  -- 4. live 5..8: append at 4 is 13, 10 is 14; 9 and 6 are taken
  pub case-4-below : appended true (several Append 2 4 1) live ≡ refuse BelowFirst
  pub case-4-above : appended true (several Append 2 10 1) live ≡ refuse AboveLast
  pub case-4-next : held_by (appended true (several Append 2 9 1) live) ≡ Ok (5 ∷ 6 ∷ 7 ∷ 8 ∷ 9 ∷ [])
  pub case-4-inside : held_by (appended true (several Append 2 6 1) live) ≡ Ok (5 ∷ 6 ∷ [])
  -- 5. the same: fetch [7,7) empty, [4,6) 11, [8,9) one, [8,10) 12
  pub case-5-empty : fetch_entries_to 7 7 None live ≡ Ok []
  pub case-5-compacted : fetch_entries_to 4 6 None live ≡ refuse EntryCompacted
  pub case-5-one : answer (fetch_entries_to 8 9 None live) ≡ Ok (8 ∷ [])
  pub case-5-missing : fetch_entries_to 8 10 None live ≡ refuse EntryNotFound
  -- 6. lengths 0, 0, 9, 1, size 5: three records
  pub case-6 : answer (fetch_entries_to 1 5 (Some 5) (table_of (sized_entry Append 1 1 0 ∷ sized_entry Append 1 2 0 ∷ sized_entry Append 1 3 9 ∷ sized_entry Append 1 4 1 ∷ []))) ≡ Ok (1 ∷ 2 ∷ 3 ∷ [])
  -- 7. 5..8 in files 1, 1, 2, 3; rewrite 4..8, gate 2: three moved. Again: 16. Ungated: three renewed.
  pub case-7-moved : seqs (moved (Some 2) 4 filed) ≡ Ok (4 ∷ 4 ∷ 4 ∷ 3 ∷ [])
  pub case-7-count : and_then (moved (Some 2) 4 filed) (λ t. Ok (rewrite_count t)) ≡ Ok 3
  pub case-7-again : and_then (moved (Some 2) 4 filed) (moved (Some 2) 5) ≡ refuse AlreadyRewritten
  pub case-7-renewed : seqs (and_then (moved (Some 2) 4 filed) (moved None 5)) ≡ Ok (5 ∷ 5 ∷ 5 ∷ 3 ∷ [])
  -- 8. 5..8 Append, rewrite 7..8: 15
  pub case-8 : rewritten (Some 9) (several Rewrite 1 7 2) live ≡ refuse AppendLeft
  -- 9. Rewrite files 9, 4: least 9; span (3,12): 3; span (3,8): 9
  pub case-9-least : min_file_seq Rewrite (nine_four None) ≡ Some 9
  pub case-9-inside : min_file_seq Rewrite (nine_four (Some (record { start = 3; end = 12 }))) ≡ Some 3
  pub case-9-after : min_file_seq Rewrite (nine_four (Some (record { start = 3; end = 8 }))) ≡ Some 9
  -- 10. 5..8, compact 5: 0; 7: 2; 20: 2; then append at 3 is taken
  pub case-10-first : compacted_count 5 live ≡ 0
  pub case-10-seven : compacted_count 7 (compacted 5 live) ≡ 2
  pub case-10-twenty : compacted_count 20 (compacted 7 (compacted 5 live)) ≡ 2
  pub case-10-append : held_by (appended true (several Append 2 3 1) (compacted 20 (compacted 7 (compacted 5 live)))) ≡ Ok (3 ∷ [])

pub bench : Bench
unfolding opened
bench =
    record {
      case-2-pass = refl;
      case-2-merge = refl;
      case-3-pass = refl;
      case-3-merge = refl;
      case-4-below = refl;
      case-4-above = refl;
      case-4-next = refl;
      case-4-inside = refl;
      case-5-empty = refl;
      case-5-compacted = refl;
      case-5-one = refl;
      case-5-missing = refl;
      case-6 = refl;
      case-7-moved = refl;
      case-7-count = refl;
      case-7-again = refl;
      case-7-renewed = refl;
      case-8 = refl;
      case-9-least = refl;
      case-9-inside = refl;
      case-9-after = refl;
      case-10-first = refl;
      case-10-seven = refl;
      case-10-twenty = refl;
      case-10-append = refl;
    }
