-- `log_batch::checks::check` meets its contract: after i items the best refusal is that of the items before i. Assumes nothing.
use Rattle.log_batch.specs.Judged.{call_of, mark_as}
use Rattle.log_batch.specs.Lent.{row_count_of}
use Rattle.log_batch.proofs.CheckLaws.{Scanned}
use Rattle.log_batch.proofs.checks.check.Given as goal

abbrev pub invariant-loop-i : goal.invariant-loop-i
invariant-loop-i l = Scanned (call_of l.call) (mark_as l.mark) l.batch.items.now l.batch.entries.now l.batch.bytes.now (row_count_of l.batch.items.now) l.best l.i
