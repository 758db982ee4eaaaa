-- `groups::undoing::undo` meets its contract: the stretches passed have gone back. Assumes nothing.
use native.Mathlib.Nat.{le_antisymm}
use Rattle.groups.proofs.Undoings.{taken-ready, taken_more, taken_all}
use Rattle.groups.proofs.undoing.undo.Goals as goal

pub undo_at-requires : goal.undo_at-requires
undo_at-requires c = taken-ready c.loop-k.k c.args.xs.now c.args.bs.now c.loop-k.xs c.loop-k.bs c.loop-k-test.true c.requires.wf c.requires.undoable c.loop-k.invariant

pub loop-k-preserved : goal.loop-k-preserved
loop-k-preserved c = taken_more c.loop-k.k c.args.xs.now c.args.bs.now c.loop-k.xs c.loop-k.bs c.loop-k-test.true c.requires.wf c.requires.undoable c.loop-k.invariant _ _ c.undo_at.ensures

pub returns : goal.returns
returns c = taken_all c.args.xs.now c.args.bs.now _ _ c.requires.wf c.requires.undoable (rw (le_antisymm c.loop-k.auto.k-end c.loop-k-test.false) at c.loop-k.invariant)
