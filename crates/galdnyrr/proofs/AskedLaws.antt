-- Answers to queries, told as numbers: the ways of each function that tells one, and equal answers. Assumes nothing.
use mathlib.Core.Bool.{Bool}
use mathlib.Core.List.{List}
use Rattle.std.specs.Prelude.{Option, None, Some}
use mathlib.Core.Path.{◌≡◌, refl, ap, subst}
use Prim.Native.Nat.{ℕ, ◌≤◌, ◌<◌}
use lib.ListN.{length}
use borrow.Author.Tests.{le-leb, lt-leb}
use Rattle.cells.specs.Part.{put}
use Rattle.rules.specs.Causes.{ListTooShort, by_cause, ByCause, Cause, Result, Ok, refuse, number_of, and_then}
use Rattle.rules.specs.Items.{EntryIndex, LogQueue}
use Rattle.rules.specs.Context.{Context}
use Rattle.rules.specs.TableQueries.{KeyValue, min_file_seq, fetch_entries_to}
use Rattle.rules.specs.Queries.{in_group}
use Rattle.memtable.specs.Columns.{Columns}
use Rattle.queries.specs.Cleaned.{CleanedTaken}
use Rattle.queries.specs.Fetches.{KeysFetched, NumbersFetched}
use Rattle.columns.specs.Fetches.{EntriesFetched}
use Rattle.records.specs.Rows.{row_of, RowsFetched}
use Rattle.galdnyrr.specs.Told as told
use Rattle.galdnyrr.specs.Asked.{absent, number_or_absent, value_after, found_after, flag_of, flagged, in_row, row_after, ValueTold, FoundTold, EntryTold, EntriesTold, RowsTold, KeysTold, NumbersTold, CleanedTold}

-- ---- a number

module _ (v : ℕ) where
  pub found-refused : (c : Cause) → FoundTold (refuse c) v (number_of c) v
  unfolding number_or_absent found_after
  found-refused c = record { number_is = refl; value-is = refl }

  pub found_none : (o : Option ℕ) → o ≡ None → FoundTold (Ok o) v absent v
  unfolding number_or_absent found_after
  found_none o e = rw e (record { number_is = refl; value-is = refl })

  pub found_some : (o : Option ℕ) (n : ℕ) → o ≡ Some n → FoundTold (Ok o) v 0 n
  unfolding number_or_absent found_after
  found_some o n e = rw e (record { number_is = refl; value-is = refl })

  pub value-refused : (c : Cause) → ValueTold (refuse c) v (number_of c) v
  unfolding told.number_of value_after
  value-refused c = record { number_is = refl; value-is = refl }

  pub value-some : (n : ℕ) → ValueTold (Ok n) v 0 n
  unfolding told.number_of value_after
  value-some n = record { number_is = refl; value-is = refl }

  pub flag-refused : (c : Cause) → ValueTold (flagged (refuse c)) v (number_of c) v
  unfolding flagged and_then
  flag-refused c = value-refused c

  pub flag-some : (b : Bool) (n : ℕ) → n ≡ flag_of b → ValueTold (flagged (Ok b)) v 0 n
  unfolding flagged and_then
  flag-some b n e = rw e (value-some (flag_of b))

-- ---- a record

module _ (row : List ℕ) where
  pub entry-refused : (c : Cause) → EntryTold (refuse c) row (number_of c) row
  unfolding number_or_absent in_row row_after
  entry-refused c = record { number_is = refl; row_is = refl }

  pub entry-none : (o : Option EntryIndex) → o ≡ None → EntryTold (Ok o) row absent row
  unfolding number_or_absent in_row row_after
  entry-none o e = rw e (record { number_is = refl; row_is = refl })

  module _ (o : Option EntryIndex) (e : EntryIndex) (is : o ≡ Some e) where
    pub entry-short : length row < 8 → EntryTold (Ok o) row (number_of ListTooShort) row
    unfolding number_or_absent in_row row_after
    entry-short l = rw is (record { number_is = rw (lt-leb 8 (length row) l); row_is = rw (lt-leb 8 (length row) l) })

    pub entry-some : (row' : List ℕ) → 8 ≤ length row → row' ≡ put row 0 (row_of e) → EntryTold (Ok o) row 0 row'
    unfolding number_or_absent in_row row_after
    entry-some row' l p = rw is (record { number_is = rw (le-leb 8 (length row) l); row_is = rw (le-leb 8 (length row) l) p })

-- ---- equal answers

pub found_same : {a b : Result (Option ℕ)} {v n w : ℕ} → a ≡ b → FoundTold a v n w → FoundTold b v n w
found_same {v = v} {n = n} {w = w} e = subst (λ r. FoundTold r v n w) e

pub value_same : {a b : Result ℕ} {v n w : ℕ} → a ≡ b → ValueTold a v n w → ValueTold b v n w
value_same {v = v} {n = n} {w = w} e = subst (λ r. ValueTold r v n w) e

pub flag_same : {a b : Result Bool} {v n w : ℕ} → a ≡ b → ValueTold (flagged a) v n w → ValueTold (flagged b) v n w
flag_same e = value_same (ap flagged e)

pub entry_same : {a b : Result (Option EntryIndex)} {row : List ℕ} {n : ℕ} {row' : List ℕ} → a ≡ b → EntryTold a row n row' → EntryTold b row n row'
entry_same {row = row} {n = n} {row' = row'} e = subst (λ r. EntryTold r row n row') e

-- ---- lent lists

pub entries_told : {answer : Result (List EntryIndex)} {out : Columns} {r : (ByCause ℕ)} {exits : Columns} {k n k' : ℕ} → EntriesFetched answer out r exits → ValueTold (by_cause r) k n k' → EntriesTold answer out k n k' exits
entries_told f t = record { told = value_same f.number t; slices = f.slices; records-are = f.records-are }

pub rows_told : {answer : Result (List EntryIndex)} {out : List ℕ} {r : (ByCause ℕ)} {exits : List ℕ} {k n k' : ℕ} → RowsFetched answer out r exits → ValueTold (by_cause r) k n k' → RowsTold answer out k n k' exits
rows_told f t = record { told = value_same f.number t; rows = f.rows }

pub keys_told : {answer : Result (List KeyValue)} {lens out : List ℕ} {r : (ByCause ℕ)} {lens' out' : List ℕ} {k n k' : ℕ} → KeysFetched answer lens out r lens' out' → ValueTold (by_cause r) k n k' → KeysTold answer lens out k n k' lens' out'
keys_told f t = record { told = value_same f.number t; lens-are = f.lens-are; bytes-are = f.bytes-are; rows_are = f.rows_are }

pub numbers_told : {answer : Result (List ℕ)} {lent : List ℕ} {r : (ByCause ℕ)} {lent' : List ℕ} {k n k' : ℕ} → NumbersFetched answer lent r lent' → ValueTold (by_cause r) k n k' → NumbersTold answer lent k n k' lent'
numbers_told f t = record { told = value_same f.number t; list-is = f.list-is }

pub cleaned_told : {xs bs lent : List ℕ} {r : (ByCause ℕ)} {xs' lent' : List ℕ} {k n k' : ℕ} → CleanedTaken xs bs lent r xs' lent' → ValueTold (by_cause r) k n k' → CleanedTold xs bs lent k n k' xs' lent'
cleaned_told f t = record { told = value_same f.number t; list-is = f.list-is; leaves = f.context-is; wf = f.wf }

-- ---- what is lent as numbers

module _ (g : ℕ) (c : Context) where
  pub file_told : {q p : LogQueue} {a : Result (Option ℕ)} {v n w : ℕ} → q ≡ p → a ≡ in_group g (λ t. Ok (min_file_seq q t)) c → FoundTold a v n w → FoundTold (in_group g (λ t. Ok (min_file_seq p t)) c) v n w
  file_told {v = v} {n = n} {w = w} e f t =
      subst (λ q. FoundTold (in_group g (λ t. Ok (min_file_seq q t)) c) v n w) e (found_same f t)

  pub fetch_told : (begin end : ℕ) {x y : Option ℕ} {out : Columns} {r : (ByCause ℕ)} {exits : Columns} {k n k' : ℕ} → x ≡ y → EntriesFetched (in_group g (fetch_entries_to begin end x) c) out r exits → ValueTold (by_cause r) k n k' → EntriesTold (in_group g (fetch_entries_to begin end y) c) out k n k' exits
  fetch_told begin end {out = out} {exits = exits} {k = k} {n = n} {k' = k'} e f t =
      subst (λ x. EntriesTold (in_group g (fetch_entries_to begin end x) c) out k n k' exits) e (entries_told f t)

  pub rows_to_told : (begin end : ℕ) {x y : Option ℕ} {out : List ℕ} {r : (ByCause ℕ)} {exits : List ℕ} {k n k' : ℕ} → x ≡ y → RowsFetched (in_group g (fetch_entries_to begin end x) c) out r exits → ValueTold (by_cause r) k n k' → RowsTold (in_group g (fetch_entries_to begin end y) c) out k n k' exits
  rows_to_told begin end {out = out} {exits = exits} {k = k} {n = n} {k' = k'} e f t =
      subst (λ x. RowsTold (in_group g (fetch_entries_to begin end x) c) out k n k' exits) e (rows_told f t)
