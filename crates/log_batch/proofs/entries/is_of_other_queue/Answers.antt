-- `log_batch::entries::is_of_other_queue` meets its contract. Assumes nothing.
use mathlib.Core.Path.{sym, ◌∙◌}
use Rattle.log_batch.specs.Judged.{entry_meets}
use Rattle.log_batch.specs.Queues.{same_as}
use Rattle.log_batch.proofs.RowLaws.{has-file, record-queue}
use Rattle.log_batch.proofs.entries.is_of_other_queue.Goals as goal

pub returns-then-is_record : goal.returns-then-is_record
unfolding entry_meets
returns-then-is_record c = let r = sym c.is_record.ensures ∙ c.if-is_record.true in rw (has-file _, r, record-queue _ r, ← same_as, ← c.from.ensures) c.ne.ensures

pub returns-else-is_record : goal.returns-else-is_record
unfolding entry_meets
returns-else-is_record c = rw (has-file _, sym c.is_record.ensures ∙ c.if-is_record.false) c.if-is_record.false
