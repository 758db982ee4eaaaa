-- `merging::waits::take_waiting` meets its contract. Assumes nothing.
use Rattle.staging.specs.StagingLaws.{sealed-undoable}
use Rattle.merging.proofs.FinishWays.{sealed_wf, undone_waitable, undone-merged, staged-taken}
use Rattle.merging.proofs.waits.take_waiting.Goals as goal

pub undo-requires : goal.undo-requires
undo-requires c = record { wf = sealed_wf _ _ _ c.requires.wf.0 c.requires.ready c.seal.ensures; undoable = sealed-undoable _ _ _ c.requires.ready c.seal.ensures }

pub grow_waiting-requires : goal.grow_waiting-requires
grow_waiting-requires c = undone_waitable _ _ _ c.requires.wf.0 c.requires.ready c.seal.ensures _ _ c.undo.ensures _ _ _ _ c.requires.wf.1 c.requires.room_wf c.requires.bs_value

pub returns : goal.returns
returns c =
    staged-taken _ _ _ c.requires.wf.0 c.requires.ready c.seal.ensures _ _ c.undo.ensures _ _ _ c.grow_waiting.ensures _ (undone-merged _ _ _ c.requires.wf.0 c.requires.ready c.seal.ensures _ _ c.undo.ensures _ _ _ _)
