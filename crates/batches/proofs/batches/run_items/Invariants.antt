-- `batches::batches::run_items` meets its contract. Assumes nothing.
use Rattle.log_batch.specs.Judged.{call_of}
use Rattle.batches.proofs.BatchWays.{Under}
use Rattle.batches.proofs.batches.run_items.Given as goal

abbrev pub invariant-loop-i : goal.invariant-loop-i
invariant-loop-i l = Under (call_of l.call) l.batch.items.now l.batch.entries.now l.batch.bytes.now l.n l.counts.tombstones l.counts.cleaned l.initial.xs l.initial.bs l.i l.xs l.bs
