-- A plan gives the rules' answer, and carried out puts it into the list: each way through `plan` and `fetch_records`. Assumes nothing.
use Rattle.memtable.specs.declared.RowRange.{RowRange}
use Rattle.std.specs.Prelude.{IsErrAnd}
use Rattle.std.proofs.lemmas.Result.{err_from_is_err_and}
use Rattle.memtable.specs.Columns.{judged}
use mathlib.Core.List.{List}
use mathlib.Core.Path.{◌≡◌, refl, sym, ◌∙◌}
use Prim.Native.Nat.{ℕ, ◌+◌, ◌*◌, ◌^◌, ◌≤◌, ◌<◌}
use native.Mathlib.Nat.{zero-add}
use native.Mathlib.Omega.{arith}
use lib.ListN.{length, get_or, drop}
use lib.Seq.{get_or-drop}
use borrow.Author.Tests.{le-leb, lt-leb}
use Rattle.cells.specs.Part.{part, put}
use Rattle.cells.specs.PartLaws.{length_part, get_or-part}
use Rattle.pipe_log.specs.Rows.{window}
use Rattle.rules.specs.Causes.{ListTooShort, ByCause, Err, Cause, Result, Ok, refuse, and_then}
use Rattle.rules.specs.Items.{EntryIndex}
use Rattle.rules.specs.Table.{Table}
use Rattle.rules.specs.Queries.{answered, lent_after, in_group}
use Rattle.kvs.specs.Rows.{keys_in}
use Rattle.memtable.specs.declared.Head.{Head}
use Rattle.memtable.specs.Views.{AnyRow}
use Rattle.memtable.specs.Views as table
use Rattle.memtable.specs.Fetches.{entries_at, range_of, RangeAnswer}
use Rattle.memtable.specs.RowLaws.{held-row, any-drop}
use Rattle.memtable.specs.WindowLaws.{length-window, window_same}
use Rattle.stretch.specs.Stretch.{head_part, entry_rows, key_count, key_rows, is_counted, table_in}
use Rattle.groups.specs.Area.{stretch_at, bytes_at}
use Rattle.contexts.specs.Contexts.{context_of, Wf}
use Rattle.queries.specs.Places.{StandsAt}
use Rattle.queries.specs.PlaceLaws.{asked_at}
use Rattle.records.specs.declared.Plan.{Plan}
use Rattle.records.specs.Filling.{Fillable}
use Rattle.records.specs.Fetches.{Fetching}
use Rattle.records.specs.Plans.{Storing, Planned}

-- ---- what is answered in a list

-- a refusal that a `?` passes on leaves the list
pub fetched-refused : {answer : Result (List EntryIndex)} {lent : List EntryIndex} {cause : Cause} → judged (length lent) answer ≡ refuse cause → (r : ByCause ℕ) → IsErrAnd r (λ y. y ≡ cause) → Fetching answer lent r lent
unfolding answered judged lent_after and_then
fetched-refused e r p = let q = err_from_is_err_and r p in rw (q.1, q.2) (record { number = rw e; list = rw e })

pub fetched-done : {answer : Result (List EntryIndex)} {xs : List ℕ} {lent : List EntryIndex} {p : Plan} → Storing answer xs (length lent) p → Fetching answer lent (Ok p.count) (put lent 0 (window p.first p.count (drop p.at xs)))
unfolding answered lent_after and_then put
fetched-done {xs = xs} {lent} {p} s =
    let e = length-window p.first p.count (drop p.at xs) in
    let t = le-leb p.count (length lent) s.fillable.fits in
    record {
      number = rw (s.records-are, e, t, e);
      list = rw (s.records-are, e, t, e, zero-add p.count);
    }

-- ---- a plan that is refused

pub planned-refused : {answer : Result (List EntryIndex)} (xs : List ℕ) (room : ℕ) {cause : Cause} → refuse cause ≡ answer → (r : ByCause Plan) → IsErrAnd r (λ y. y ≡ cause) → Planned answer xs room r
unfolding judged and_then
planned-refused xs room e r p = let q = err_from_is_err_and r p in rw (q.1, q.2, ← e) refl

-- ---- a plan for rows of stretch k

module _ {g : ℕ} {xs bs : List ℕ} {k : ℕ} (w : Wf xs bs) (s : StandsAt g xs bs k) where
  pub numbers-there : (k < 8) × (9376 ≤ length xs)
  numbers-there = (s.inside, w.groups.numbers_fit)

  abbrev h : Head
  h = head_part (stretch_at k xs)

  abbrev rows : List ℕ
  rows = entry_rows (stretch_at k xs)

  own_wf : table.Wf h rows
  own_wf = s.wf.numbers.entries

  length-rows : length rows ≡ 512
  unfolding entry_rows
  length-rows =
      let e = s.wf.numbers.numbers-are in
      length_part 10 512 (stretch_at k xs) (omega (arith, e))

  -- the numbers from row a on, in the stretch and in the area
  numbers_at : (a j : ℕ) → a * 8 + j < 512 → get_or (drop (k * 586 + 10 + a * 8) xs) j 0 ≡ get_or (drop (a * 8) rows) j 0
  unfolding entry_rows stretch_at
  numbers_at a j l =
      let e : k * 586 + 10 + a * 8 + j ≡ k * 586 + (10 + (a * 8 + j)) = omega arith in
      rw (
        get_or-drop (k * 586 + 10 + a * 8) xs j 0,
        get_or-drop (a * 8) (part 10 512 (part (k * 586) 586 xs)) j 0,
        get_or-part 10 512 (part (k * 586) 586 xs) (a * 8 + j) 0 l,
        get_or-part (k * 586) 586 xs (10 + (a * 8 + j)) 0 (omega arith),
        e,
      )

  module _ (a n : ℕ) (l : a + n ≤ h.len) where
    last_row : (a + n) * 8 ≤ 512
    last_row =
        let e = length-rows in
        let r = own_wf.room in
        omega (arith, e, r, l)

    pub records_at : window (h.first_index + a) n (drop (k * 586 + 10 + a * 8) xs) ≡ entries_at a n h rows
    unfolding entries_at
    records_at =
        let b = last_row in
        window_same (h.first_index + a) n (drop (k * 586 + 10 + a * 8) xs) (drop (a * 8) rows) (λ j m. numbers_at a j (omega (arith, b, m)))

    pub length-records : length (entries_at a n h rows) ≡ n
    length-records = rw (← records_at) (length-window (h.first_index + a) n (drop (k * 586 + 10 + a * 8) xs))

    row_at_lem : (i : ℕ) → i < n → AnyRow (drop (k * 586 + 10 + a * 8) xs) i
    row_at_lem i m =
        let b = last_row in
        let r = any-drop rows a i (held-row h rows own_wf (a + i) (omega (arith, l, m))) in
        record {
          queue = rw (numbers_at a (i * 8 + 1) (omega (arith, b, m))) r.queue;
          compression = rw (numbers_at a (i * 8 + 5) (omega (arith, b, m))) r.compression;
          offset = rw (numbers_at a (i * 8 + 6) (omega (arith, b, m))) r.offset;
          len = rw (numbers_at a (i * 8 + 7) (omega (arith, b, m))) r.len;
        }

    pub fillable_at : (room : ℕ) → n ≤ room → Fillable (k * 586 + 10 + a * 8) (h.first_index + a) n xs room
    fillable_at room m =
        let b = last_row in
        let i = own_wf.index in
        let t = numbers-there in
        record {
          inside = omega (arith, b, t.0, t.1);
          index = omega (arith, i, l);
          rows = λ j _ u. row_at_lem j u;
          fits = omega (arith, m);
        }

  -- what the rows of the stretch answer, the group answers
  range-there : (query : Table → Result (List EntryIndex)) (range : ByCause RowRange) → RangeAnswer h rows query range → range_of range h rows ≡ in_group g query (context_of xs bs)
  unfolding table_in
  range-there query range a =
      let p = stretch_at k xs in
      a.rule (keys_in (key_count p) (key_rows p) (bytes_at k bs)) (is_counted p) ∙ sym (asked_at g query xs bs k s)

  module _ {head : Head} (e : head ≡ h) {lent : List ℕ} (d : lent ≡ rows) where
    pub rows_wf : table.Wf head lent
    rows_wf = rw (e, d) own_wf

    -- what the range answers, the group answers
    pub range-answers : {query : Table → Result (List EntryIndex)} {range : ByCause RowRange} → RangeAnswer head lent query range → range_of range head rows ≡ in_group g query (context_of xs bs)
    range-answers a = rw e (range-there _ _ (rw (e, d) at a))

    module _ {query : Table → Result (List EntryIndex)} {range : RowRange} (a : RangeAnswer head lent query (Ok range)) where
      within : range.from + range.count ≤ h.len
      within = rw e at a.within

      -- the places and the indexes of the rows
      pub fits : ((range.from + range.count) * 8 ≤ 512) × (head.first_index + range.from + range.count ≤ 2 ^ 63)
      fits = (last_row range.from range.count within, let i = own_wf.index in rw e (omega (arith, i, within)))

      pub plan-short : (room : ℕ) → room < range.count → Planned (in_group g query (context_of xs bs)) xs room (Err ListTooShort)
      unfolding judged and_then
      plan-short room l = rw (← range-answers a, e, length-records range.from range.count within, lt-leb range.count room l) refl

      pub plan-done : (room : ℕ) → range.count ≤ room → Storing (in_group g query (context_of xs bs)) xs room (record { at = k * 586 + 10 + range.from * 8; first = head.first_index + range.from; count = range.count })
      plan-done room l =
          rw e (record {
            fillable = fillable_at range.from range.count within room l;
            records-are = rw (records_at range.from range.count within) (sym (rw e at (range-answers a)));
          })
