-- `log_batch::mark::one_byte` meets its contract. Assumes nothing.
use mathlib.Core.Path.{sym, ◌∙◌}
use Rattle.cells.specs.PartLaws.{length_part}
use Rattle.log_batch.specs.Lent.{value_of}
use Rattle.log_batch.proofs.ItemLaws.{one-byte-part, not-one-byte}
use Rattle.log_batch.proofs.mark.one_byte.Goals as goal

pub returns-in-Some : goal.returns-in-Some
unfolding value_of
returns-in-Some c = let w = rw (c.in-Some.is, c.if-value-eq1.true) at c.requires in rw (c.in-Some.is, c.if-value-eq1.true) (sym (one-byte-part _ _ w))

pub returns-in_default : goal.returns-in_default
unfolding value_of
returns-in_default c = let w = rw c.in-Some.is at c.requires in rw c.in-Some.is (sym (not-one-byte _ (λ e. c.if-value-eq1.false (sym (length_part _ _ _ w) ∙ e))))
