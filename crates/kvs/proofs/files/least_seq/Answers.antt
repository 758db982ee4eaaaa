-- `kvs::files::least_seq` meets its contract: what is found is the least from row i on. Assumes nothing.
use native.Mathlib.Omega.{arith}
use Rattle.kvs.proofs.Queues.{rest_all}
use Rattle.kvs.proofs.files.least_seq.Goals as goal

pub returns : goal.returns
returns c = λ t bs g. rw (rest_all _ _ _ bs t g) (grind (arith, c.loop-i.invariant bs))
