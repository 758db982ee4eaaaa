-- `batches::singles::append_call` meets its contract. Assumes nothing.
use Rattle.batches.specs.Singles.{append_call}
use Rattle.batches.proofs.singles.append_call.Goals as goal

pub returns-then-live : goal.returns-then-live
unfolding append_call
returns-then-live c = rw c.if-live.true

pub returns : goal.returns
unfolding append_call
returns c = rw c.if-live.false
