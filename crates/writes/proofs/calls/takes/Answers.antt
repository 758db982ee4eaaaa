-- `writes::calls::takes` meets its contract. Assumes nothing.
use Rattle.log_batch.specs.Queues.{same_as}
use Rattle.writes.proofs.calls.takes.Goals as goal

pub returns-then-is_index : goal.returns-then-is_index
returns-then-is_index c = rw (← c.is_index.ensures, c.if-is_index.true) (rw c.eq.ensures (same_as _ _))
