-- `kvs::files::count_of` meets its contract: the count is that of the rows passed. Assumes nothing.
use native.Mathlib.Omega.{arith}
use Rattle.kvs.proofs.Queues.{rest_all, rest_none}
use Rattle.kvs.proofs.files.count_of.Goals as goal

pub returns : goal.returns
returns c = λ t bs g. rw (rest_all _ _ _ bs t g) (grind (arith, rest_none, c.loop-i.invariant.1 bs))
