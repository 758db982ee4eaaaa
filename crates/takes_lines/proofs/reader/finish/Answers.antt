-- `takes_lines::reader::finish` meets its contract. Assumes nothing.
use Rattle.std.proofs.Common.{sym, ◌∙◌, arith}
use Rattle.std.proofs.Common.{rules, true≢false}
use denote.Enum.Bare.{same_true}
use Rattle.takes_lines.specs.contracts.fields.Field.{the_type}
use Rattle.takes_lines.proofs.ReadWays.{merge-finishes, batch-finishes}
use Rattle.takes_lines.proofs.reader.finish.Goals as goal

pub returns-then-eq : goal.returns-then-eq
returns-then-eq c =
    rw c.in_ok-reader.was
    (merge-finishes c.in_ok-reader.field-0 c.args.rows.now c.in_ok-line.line c.args.items.now _ (rw c.in_ok-line.was at c.close.ensures) (sym c.is_last.ensures ∙ c.if-not-is_last.false) (same_true the_type (search rules) _ _ (sym c.eq.ensures ∙ c.if-eq.true)))

pub returns : goal.returns
returns c =
    rw c.in_ok-reader.was
    (batch-finishes c.in_ok-reader.field-0 c.args.rows.now c.in_ok-line.line _ _ (rw c.in_ok-line.was at c.close.ensures) (sym c.is_last.ensures ∙ c.if-not-is_last.false) (λ e. true≢false (rw e at (sym c.eq.ensures ∙ c.if-eq.false))) (omega arith) (c.copy_from_slice.ensures.after ∙ c.item_row.ensures))
