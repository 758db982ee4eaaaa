-- Each way through the changes of a group's span: a head is written, and the rows stay. Assumes nothing.
use Rattle.pipe_log.specs.declared.Span.{Span}
use Rattle.std.specs.Prelude.{Option}
use mathlib.Core.List.{List}
use mathlib.Core.Path.{◌≡◌, refl, ap, ◌∙◌}
use Prim.Native.Nat.{ℕ}
use native.Mathlib.Omega.{arith}
use Rattle.cells.specs.Part.{put}
use Rattle.cells.specs.PartLaws.{length-put}
use Rattle.rules.specs.Causes.{Cause, Err, Result, Ok}
use Rattle.rules.specs.Table.{Table, with_span, spanned}
use Rattle.kvs.specs.Rows.{keys_in}
use Rattle.memtable.specs.declared.Head.{Head}
use Rattle.memtable.specs.Spans.{grouped, SpanSet}
use Rattle.memtable.specs.Views.{table_of}
use Rattle.memtable.specs.Views as memtable
use Rattle.stretch.specs.Stretch.{head_part, key_count, is_counted, head_numbers, entry_rows_at, key_rows_at, table_at, WfAt}
use Rattle.stretch.specs.StretchLaws.{Holds, own, length-head, with-head, table_of_lem, wf_of, front-put}
use Rattle.stretch.specs.Changes.{ChangedAt}
use Rattle.stretch.proofs.Outcomes.{done_by, refused_by}

module _ (w : ℕ) (p b : List ℕ) (o : WfAt w p b) where
  holds-head : (g : Head) → Holds w (put p 2 (head_numbers g)) g (entry_rows_at w p) (key_count p) (key_rows_at w p) (is_counted p)
  holds-head g =
      with-head w p (head_part p) (entry_rows_at w p) (key_count p) (key_rows_at w p) (is_counted p) (own w p o.numbers.from o.numbers.to) g

  head_done : (by : Table → Result Table) (g : Head) → memtable.Wf g (entry_rows_at w p) → Ok (table_of g (entry_rows_at w p) (keys_in (key_count p) (key_rows_at w p) b) (is_counted p)) ≡ by (table_at w p b)
      → ChangedAt w by p b (Ok tt) (put p 2 (head_numbers g)) b
  head_done by g v e =
      let q = put p 2 (head_numbers g) in
      let f = o.numbers.from in
      let t = o.numbers.to in
      let n = length-head g in
      done_by w by p b o q b
      (record { numbers = length-put p 2 (head_numbers g) (omega arith); bytes = refl })
      (wf_of w q g (entry_rows_at w p) (key_count p) (key_rows_at w p) (is_counted p) (holds-head g) b v o.keys)
      (front-put p 2 (head_numbers g) (omega arith) (omega arith))
      (ap Ok (table_of_lem w q g (entry_rows_at w p) (key_count p) (key_rows_at w p) (is_counted p) (holds-head g) b) ∙ e)

  pub span-done : (s e : ℕ) (g : Head) → SpanSet (head_part p) s e (Ok g) → ChangedAt w (spanned (record { start = s; end = e })) p b (Ok tt) (put p 2 (head_numbers g)) b
  unfolding table_at
  span-done s e g t =
      head_done (spanned (record { start = s; end = e })) g (t.wf (entry_rows_at w p) o.numbers.entries) (t.rule (entry_rows_at w p) (keys_in (key_count p) (key_rows_at w p) b) (is_counted p))

  pub span-back : (s e : ℕ) (n : Cause) → SpanSet (head_part p) s e (Err n) → ChangedAt w (spanned (record { start = s; end = e })) p b (Err n) p b
  unfolding table_at
  span-back s e n t =
      refused_by w (spanned (record { start = s; end = e })) p b o n (t.rule (entry_rows_at w p) (keys_in (key_count p) (key_rows_at w p) b) (is_counted p))

  pub span-written : (a : Option Span) → ChangedAt w (λ t. Ok (with_span a t)) p b (Ok tt) (put p 2 (head_numbers (grouped a (head_part p)))) b
  unfolding table_at table_of with_span
  span-written a =
      let v = o.numbers.entries in
      head_done (λ t. Ok (with_span a t)) (grouped a (head_part p))
      (record { room = v.room; front = v.front; index = v.index; rewritten = v.rewritten; appended = v.appended })
      refl
