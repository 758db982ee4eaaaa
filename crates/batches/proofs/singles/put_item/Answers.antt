-- `batches::singles::put_item` meets its contract. Assumes nothing.
use Rattle.batches.proofs.singles.put_item.Goals as goal

pub returns : goal.returns
returns c = rw c.writes-queue.ensures
