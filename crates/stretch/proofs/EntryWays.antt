-- Each way through the changes of a group's entries. The part of the stretch was lent and came back as ys. Assumes nothing.
use mathlib.Core.Bool.{true}
use mathlib.Core.List.{List}
use Rattle.std.specs.Prelude.{Option}
use mathlib.Core.Path.{◌≡◌, refl, ap, ◌∙◌}
use Prim.Native.Nat.{ℕ, ◌-◌, ◌/◌, ◌≤◌}
use native.Mathlib.Omega.{arith}
use lib.ListN.{length, take}
use Rattle.cells.specs.Part.{put}
use borrow.Rule.Slice.PartMut.{put_mid}
use Rattle.cells.specs.PartLaws.{length-put, put-part, loan-put}
use Rattle.maps.specs.Lists.{every}
use Rattle.pipe_log.specs.Rows.{window}
use Rattle.rules.specs.Causes.{ByCause, Err, Result, Ok}
use Rattle.rules.specs.Items.{is_rewrite}
use Rattle.rules.specs.Table.{Table, rewritten, compacted}
use Rattle.kvs.specs.Rows.{keys_in}
use Rattle.memtable.specs.declared.Head.{Head}
use Rattle.memtable.specs.declared.Compacted.{Compacted}
use Rattle.memtable.specs.Appends.{appended_of, fitting, Laying}
use Rattle.memtable.specs.Compaction.{Compaction}
use Rattle.memtable.specs.Rewrites.{rewritten_of, Rewriting}
use Rattle.memtable.specs.Views.{table_of}
use Rattle.memtable.specs.Views as memtable
use Rattle.memtable.specs.SameLaws.{all-rewritten}
use Rattle.stretch.specs.Stretch.{head_part, key_count, is_counted, head_numbers, entry_rows_at, key_rows_at, table_at, WfAt}
use Rattle.stretch.specs.StretchLaws.{Holds, own, length-entries, length-head, with_entries_lem, with-head, table_of_lem, wf_of, front-put}
use Rattle.stretch.specs.Changes.{ChangedAt, laid_outcome, laid_numbers}
use Rattle.stretch.proofs.Outcomes.{Kept, done_by, done-fitting, refused_by, refused-fitting}

-- rows that came back as they were
entries_back : (w : ℕ) (p ys : List ℕ) → 10 ≤ w → w ≤ length p → ys ≡ entry_rows_at w p → put p 10 ys ≡ p
unfolding entry_rows_at
entries_back w p ys f t e = rw e (put-part 10 (w - 10) p (omega arith))

-- the stretch with the rows ys and the head g
abbrev with_both : List ℕ → List ℕ → Head → List ℕ
with_both p ys g = put (put p 10 ys) 2 (head_numbers g)

module _ (w : ℕ) (p ys b : List ℕ) (o : WfAt w p b) (l : length ys ≡ length (entry_rows_at w p)) (g : Head) where
  holds-both : Holds w (with_both p ys g) g ys (key_count p) (key_rows_at w p) (is_counted p)
  holds-both =
      with-head w (put p 10 ys) (head_part p) ys (key_count p) (key_rows_at w p) (is_counted p)
      (with_entries_lem w p (head_part p) (entry_rows_at w p) (key_count p) (key_rows_at w p) (is_counted p) (own w p o.numbers.from o.numbers.to) ys l) g

  table-both : table_at w (with_both p ys g) b ≡ table_of g ys (keys_in (key_count p) (key_rows_at w p) b) (is_counted p)
  table-both = table_of_lem w (with_both p ys g) g ys (key_count p) (key_rows_at w p) (is_counted p) holds-both b

  wf-both : memtable.Wf g ys → WfAt w (with_both p ys g) b
  wf-both e = wf_of w (with_both p ys g) g ys (key_count p) (key_rows_at w p) (is_counted p) holds-both b e o.keys

  length-rows : length (put p 10 ys) ≡ length p
  length-rows =
      let f = o.numbers.from in
      let t = o.numbers.to in
      let k = length-entries w p f t in
      length-put p 10 ys (omega arith)

  kept-both : Kept p b (with_both p ys g) b
  kept-both =
      let f = o.numbers.from in
      let t = o.numbers.to in
      let k = length-rows in
      let n = length-head g in
      record { numbers = length-put (put p 10 ys) 2 (head_numbers g) (omega arith) ∙ k; bytes = refl }

  front-both : take 2 (with_both p ys g) ≡ take 2 p
  front-both =
      let f = o.numbers.from in
      let t = o.numbers.to in
      let k = length-rows in
      front-put (put p 10 ys) 2 (head_numbers g) (omega arith) (omega arith) ∙ front-put p 10 ys (omega arith) (omega arith)

-- the stretch after the loan: ys is as long as what was lent
module _ (w : ℕ) (p ys b : List ℕ) (o : WfAt w p b) (k : length ys ≡ length (entry_rows_at w p)) where
  after-loan : put_mid 10 (w - 10) p ys ≡ put p 10 ys
  after-loan = loan-put 10 (w - 10) p ys (k ∙ length-entries w p o.numbers.from o.numbers.to)

  -- ys is what was lent
  as_before : ys ≡ entry_rows_at w p → put_mid 10 (w - 10) p ys ≡ p
  as_before e = after-loan ∙ entries_back w p ys o.numbers.from o.numbers.to e

-- rows laid over by a rule
module _ (w : ℕ) (by : Table → Result Table) (p ys rows : List ℕ) (k : length ys ≡ length (entry_rows_at w p)) (r : ByCause (Unit {0})) (p' b : List ℕ) (o : WfAt w p b) where
  laid_by_lem : (a : ByCause Head) → appended_of a ys (keys_in (key_count p) (key_rows_at w p) b) (is_counted p) ≡ fitting (length (entry_rows_at w p) / 8) (by (table_at w p b)) → Laying by (head_part p) (entry_rows_at w p) rows a ys
      → r ≡ laid_outcome a → p' ≡ laid_numbers a (put_mid 10 (w - 10) p ys) → ChangedAt w by p b r p' b
  laid_by_lem (Ok g) x t e f =
      rw (e, f, after-loan w p ys b o k)
      (done-fitting w by p b o (with_both p ys g) b (kept-both w p ys b o k g) (wf-both w p ys b o k g t.wf) (front-both w p ys b o k g) (ap Ok (table-both w p ys b o k g) ∙ x))
  laid_by_lem (Err n) x t e f = rw (e, f ∙ as_before w p ys b o k t.laid) (refused-fitting w by p b o n x)

  pub laying : (a : ByCause Head) → Laying by (head_part p) (entry_rows_at w p) rows a ys → r ≡ laid_outcome a → p' ≡ laid_numbers a (put_mid 10 (w - 10) p ys) → ChangedAt w by p b r p' b
  unfolding table_at
  laying a t e f = laid_by_lem a (t.rule (keys_in (key_count p) (key_rows_at w p) b) (is_counted p)) t e f

-- entries rewritten
module _ (w : ℕ) (gate : Option ℕ) (s : ℕ) (p ys rows : List ℕ) (k : length ys ≡ length (entry_rows_at w p)) (r : ByCause (Unit {0})) (p' b : List ℕ) (o : WfAt w p b) where
  moved_by : (a : ByCause Head) → rewritten_of a ys (keys_in (key_count p) (key_rows_at w p) b) (is_counted p) ≡ rewritten gate (window s (length rows / 8) rows) (table_at w p b)
      → Rewriting gate (head_part p) (entry_rows_at w p) s rows a ys → r ≡ laid_outcome a → p' ≡ laid_numbers a (put_mid 10 (w - 10) p ys)
      → ChangedAt w (rewritten gate (window s (length rows / 8) rows)) p b r p' b
  moved_by (Ok g) x t e f =
      rw (e, f, after-loan w p ys b o k)
      (done_by w (rewritten gate (window s (length rows / 8) rows)) p b o (with_both p ys g) b (kept-both w p ys b o k g) (wf-both w p ys b o k g t.wf) (front-both w p ys b o k g)
      (ap Ok (table-both w p ys b o k g) ∙ x))
  moved_by (Err n) x t e f =
      rw (e, f ∙ as_before w p ys b o k t.laid) (refused_by w (rewritten gate (window s (length rows / 8) rows)) p b o n x)

  pub moving : (a : ByCause Head) → Rewriting gate (head_part p) (entry_rows_at w p) s rows a ys → r ≡ laid_outcome a → p' ≡ laid_numbers a (put_mid 10 (w - 10) p ys)
      → ChangedAt w (rewritten gate (window s (length rows / 8) rows)) p b r p' b
  unfolding table_at
  moving a t e f = moved_by a (t.rule (keys_in (key_count p) (key_rows_at w p) b) (is_counted p)) t e f

-- entries dropped
pub compacting : (w i : ℕ) (p ys : List ℕ) → length ys ≡ length (entry_rows_at w p) → (a : Compacted) (p' b : List ℕ) → WfAt w p b → Compaction (head_part p) (entry_rows_at w p) i a ys
    → p' ≡ put (put_mid 10 (w - 10) p ys) 2 (head_numbers a.head) → ChangedAt w (λ t. Ok (compacted i t)) p b (Ok tt) p' b
unfolding table_at
compacting w i p ys k a p' b o t f =
    rw (f, after-loan w p ys b o k)
    (done_by w (λ t. Ok (compacted i t)) p b o (with_both p ys a.head) b (kept-both w p ys b o k a.head) (wf-both w p ys b o k a.head t.wf) (front-both w p ys b o k a.head)
    (ap Ok (table-both w p ys b o k a.head ∙ t.rule (keys_in (key_count p) (key_rows_at w p) b) (is_counted p))))

-- where all entries are Rewrite ones, the head counts them all
pub only-rewrites : (w : ℕ) (p b : List ℕ) → WfAt w p b → every is_rewrite (table_at w p b).entries ≡ true → (head_part p).len ≤ (head_part p).rewrite_count
unfolding table_at table_of
only-rewrites w p b o e = all-rewritten (head_part p) (entry_rows_at w p) o.numbers.entries e
