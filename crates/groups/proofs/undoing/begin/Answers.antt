-- `groups::undoing::begin` meets its contract: the marks of the spare stretches passed are cleared. Assumes nothing.
use native.Mathlib.Nat.{le_antisymm}
use Rattle.groups.proofs.Undoings.{cleared_more, cleared_all}
use Rattle.groups.proofs.undoing.begin.Goals as goal

pub loop-k-preserved : goal.loop-k-preserved
loop-k-preserved c = cleared_more c.loop-k.k c.args.xs.now c.loop-k.xs c.requires c.loop-k-test.true c.loop-k.invariant

pub returns : goal.returns
returns c = cleared_all _ _ (rw (le_antisymm c.loop-k.auto.k-end c.loop-k-test.false) at c.loop-k.invariant)
