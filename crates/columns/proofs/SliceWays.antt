-- Each way through the functions that answer records in eight lent slices gives what its contract says. Assumes nothing.
use Rattle.memtable.specs.declared.RowRange.{RowRange}
use Rattle.std.specs.Prelude.{IsErrAnd}
use Rattle.std.proofs.lemmas.Result.{err_from_is_err_and}
use mathlib.Core.List.{List, ◌++◌, map}
use mathlib.Core.Path.{◌≡◌, refl, sym, ◌∙◌}
use Prim.Native.Nat.{ℕ, ◌+◌, ◌*◌, ◌≤◌, ◌<◌}
use native.Mathlib.Decide.{dec_le}
use native.Mathlib.Omega.{arith}
use borrow.Author.Tests.{le-leb, lt-leb}
use lib.ListN.{length, take, drop, length-map, take-append-drop}
use lib.Seq.{length-take-le}
use Rattle.cells.specs.Part.{put}
use Rattle.cells.specs.PartLaws.{loan-front-in}
use Rattle.pipe_log.specs.Numbers.{queue_number, compression_number}
use Rattle.pipe_log.specs.Rows.{window}
use Rattle.rules.specs.Causes.{ByCause, Cause, Result, Ok, refuse, and_then}
use Rattle.rules.specs.Items.{EntryIndex, file_of}
use Rattle.rules.specs.Table.{Table}
use Rattle.rules.specs.Queries.{in_group, answered, lent_after}
use Rattle.memtable.specs.declared.Head.{Head}
use Rattle.memtable.specs.Views.{AnyRow, Wf}
use Rattle.memtable.specs.RowLaws.{held-row, any-drop}
use Rattle.memtable.specs.WindowLaws.{length-window}
use Rattle.memtable.specs.Columns.{Columns, columns, block_offset, block_len, laid_into, judged, columns_after, SameLength, Answered}
use Rattle.memtable.specs.Fetches.{entries_at, range_of, RangeAnswer}
use Rattle.stretch.specs.Stretch.{head_part, entry_rows}
use Rattle.groups.specs.Area.{stretch_at}
use Rattle.contexts.specs.Contexts.{context_of}
use Rattle.queries.specs.Places.{StandsAt}
use Rattle.queries.proofs.Ways.{by_entries_lem}
use Rattle.columns.specs.Fetches.{EntriesFetched}
use Rattle.columns.specs.Slices.{Least, records_in}
use Rattle.columns.specs.SliceLaws.{length-records, records-left}

-- ---- `answer_rows`

-- the slices cut to their first n places
abbrev pub cut : ℕ → Columns → Columns
cut n out =
    columns
    (take n out.index)
    (take n out.queue)
    (take n out.seq)
    (take n out.offset)
    (take n out.len)
    (take n out.compression)
    (take n out.entry_offset)
    (take n out.entry_len)

-- what was cut off, behind what was lent
abbrev pub joined : ℕ → Columns → Columns → Columns
joined n lent out =
    columns
    (lent.index ++ drop n out.index)
    (lent.queue ++ drop n out.queue)
    (lent.seq ++ drop n out.seq)
    (lent.offset ++ drop n out.offset)
    (lent.len ++ drop n out.len)
    (lent.compression ++ drop n out.compression)
    (lent.entry_offset ++ drop n out.entry_offset)
    (lent.entry_len ++ drop n out.entry_len)

module _ (out : Columns) (n : ℕ) (b : Least (length out.index) (length out.queue) (length out.seq) (length out.offset) (length out.len) (length out.compression) (length out.entry_offset) (length out.entry_len) n) where
  length_cut : length (take n out.index) ≡ n
  length_cut = length-take-le n out.index b.below-a

  pub cut_same : SameLength (cut n out)
  cut_same =
      record {
        queue = length-take-le n out.queue b.below-b ∙ sym length_cut;
        seq = length-take-le n out.seq b.below-c ∙ sym length_cut;
        offset = length-take-le n out.offset b.below-d ∙ sym length_cut;
        len = length-take-le n out.len b.below-e ∙ sym length_cut;
        compression = length-take-le n out.compression b.below-f ∙ sym length_cut;
        entry_offset = length-take-le n out.entry_offset b.below-g ∙ sym length_cut;
        entry_len = length-take-le n out.entry_len b.below-h ∙ sym length_cut;
      }

  -- nothing was written
  joined_same : joined n (cut n out) out ≡ out
  joined_same =
      λ i. columns
      (take-append-drop n out.index i)
      (take-append-drop n out.queue i)
      (take-append-drop n out.seq i)
      (take-append-drop n out.offset i)
      (take-append-drop n out.len i)
      (take-append-drop n out.compression i)
      (take-append-drop n out.entry_offset i)
      (take-append-drop n out.entry_len i)

  module _ (es : List EntryIndex) (l : length es ≤ n) where
    laid_back : (d : List ℕ) (g : EntryIndex → ℕ) → n ≤ length d → put (take n d) 0 (map g es) ++ drop n d ≡ put d 0 (map g es)
    laid_back d g h =
        let e = length-map es g in
        loan-front-in n d (put (take n d) 0 (map g es)) 0 (map g es) refl (omega arith) h

    joined-laid : joined n (laid_into (cut n out) es) out ≡ laid_into out es
    unfolding laid_into
    joined-laid =
        λ i. columns
        (laid_back out.index (λ (e : EntryIndex). e.index) b.below-a i)
        (laid_back out.queue (λ (e : EntryIndex). queue_number (file_of e).queue) b.below-b i)
        (laid_back out.seq (λ (e : EntryIndex). (file_of e).seq) b.below-c i)
        (laid_back out.offset (λ (e : EntryIndex). block_offset e.entries) b.below-d i)
        (laid_back out.len (λ (e : EntryIndex). block_len e.entries) b.below-e i)
        (laid_back out.compression (λ (e : EntryIndex). compression_number e.compression_type) b.below-f i)
        (laid_back out.entry_offset (λ (e : EntryIndex). e.entry_offset) b.below-g i)
        (laid_back out.entry_len (λ (e : EntryIndex). e.entry_len) b.below-h i)

  -- an answer judged by the length of the cut slices is judged by that of the list
  judged-cut : (r : Result (List EntryIndex)) → judged (length (take n out.index)) r ≡ answered (records_in out) r
  unfolding judged answered
  judged-cut r = rw (length_cut, length-records out, ← b.is)

  module _ (f m : ℕ) (ys : List ℕ) where
    slices-left : joined n (columns_after (cut n out) (answered (records_in out) (Ok (window f m ys)))) out ≡ columns_after out (answered (records_in out) (Ok (window f m ys)))
    unfolding answered and_then columns_after
    slices-left =
        elim (dec_le m n) [
          | yes l ↦ rw (length-window f m ys, length-records out, ← b.is, le-leb m n l) (joined-laid (window f m ys) (rw (length-window f m ys) l))
          | no l ↦ rw (length-window f m ys, length-records out, ← b.is, lt-leb m n (omega arith)) joined_same
        ]

    pub rows-answered : ((i : ℕ) → i < m → AnyRow ys i) → (lent : Columns) (r : ByCause ℕ) → Answered (Ok (window f m ys)) (cut n out) r lent → EntriesFetched (Ok (window f m ys)) out r (joined n lent out)
    rows-answered h lent r d =
        let s : joined n lent out ≡ columns_after out (answered (records_in out) (Ok (window f m ys))) = rw (d.slices, judged-cut (Ok (window f m ys))) slices-left in
        record {
          number = rw (judged-cut (Ok (window f m ys))) at d.number;
          slices = s;
          records-are = rw s (records-left f m ys out h);
        }

  -- the same of entries of a head
  pub held-answered : (h : Head) (xs : List ℕ) → Wf h xs → (from m : ℕ) → from + m ≤ h.len → (lent : Columns) (r : ByCause ℕ) → Answered (Ok (entries_at from m h xs)) (cut n out) r lent → EntriesFetched (Ok (entries_at from m h xs)) out r (joined n lent out)
  unfolding entries_at
  held-answered h xs w from m l =
      rows-answered (h.first_index + from) m (drop (from * 8) xs) (λ i k. any-drop xs from i (held-row h xs w (from + i) (omega arith)))

-- ---- the fetches

-- a range of the entries of a group that stands at stretch k, answered in lent slices, is the group's answer
module _ {g : ℕ} {xs bs : List ℕ} {k : ℕ} (s : StandsAt g xs bs k) {h : Head} (e : h ≡ head_part (stretch_at k xs)) where
  pub range-there : (query : Table → Result (List EntryIndex)) {rows : List ℕ} → rows ≡ entry_rows (stretch_at k xs) → (range : ByCause RowRange) → RangeAnswer h rows query range → {out : Columns} {r : (ByCause ℕ)} {exits : Columns} → EntriesFetched (range_of range h rows) out r exits → EntriesFetched (in_group g query (context_of xs bs)) out r exits
  range-there query {rows} d range a b = rw (← by_entries_lem s e query d (range_of range h rows) a.rule) b

-- a refusal that a `?` passes on leaves the slices
pub fetched-refused : {a : Result (List EntryIndex)} {out : Columns} {cause : Cause} → refuse cause ≡ a → (r : ByCause ℕ) → IsErrAnd r (λ y. y ≡ cause) → EntriesFetched a out r out
unfolding answered and_then columns_after lent_after
fetched-refused e r p = let q = err_from_is_err_and r p in rw (q.1, q.2, ← e) (record { number = refl; slices = refl; records-are = refl })
