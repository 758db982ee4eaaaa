-- `batches::growth::adds_tombstone` meets its contract. Assumes nothing.
use mathlib.Core.Path.{sym, ◌∙◌}
use Rattle.log_batch.specs.Lent.{item_of}
use Rattle.batches.specs.Steps.{adds_tombstone}
use Rattle.batches.proofs.growth.adds_tombstone.Goals as goal

pub returns-then-not-keeps : goal.returns-then-not-keeps
unfolding adds_tombstone
returns-then-not-keeps c = λ es bs. rw (sym c.keeps.ensures ∙ c.if-not-keeps.true)

pub returns : goal.returns
unfolding adds_tombstone item_of
returns c = λ es bs. rw (sym c.keeps.ensures ∙ c.if-not-keeps.false) (c.is_tombstone.ensures es bs)
