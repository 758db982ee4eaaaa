-- `log_batch::entries::entry_meets` meets its contract. Assumes nothing.
use Rattle.log_batch.specs.Judged.{entry_meets}
use Rattle.log_batch.proofs.RowLaws.{has-file}
use Rattle.log_batch.proofs.entries.entry_meets.Goals as goal

pub returns-in-WithoutFile : goal.returns-in-WithoutFile
unfolding entry_meets
returns-in-WithoutFile c = rw (c.in-WithoutFile.is, has-file _, c.is_record.ensures)
