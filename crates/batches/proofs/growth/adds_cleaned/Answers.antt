-- `batches::growth::adds_cleaned` meets its contract. Assumes nothing.
use mathlib.Core.Path.{sym, ◌∙◌}
use Rattle.log_batch.specs.Lent.{item_of}
use Rattle.batches.specs.Steps.{adds_cleaned}
use Rattle.batches.proofs.growth.adds_cleaned.Goals as goal

pub returns-then-not-is_append_side : goal.returns-then-not-is_append_side
unfolding adds_cleaned
returns-then-not-is_append_side c = λ es bs. rw (sym c.is_append_side.ensures ∙ c.if-not-is_append_side.true)

pub returns : goal.returns
unfolding adds_cleaned item_of
returns c = λ es bs. rw (sym c.is_append_side.ensures ∙ c.if-not-is_append_side.false) (c.is_clean.ensures es bs)
