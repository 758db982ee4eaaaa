-- `merging::calls::take_staged` meets its contract. Assumes nothing.
use Rattle.staging.specs.StagingLaws.{sealed-undoable}
use Rattle.merging.proofs.FinishWays.{sealed_wf, undone_growable, undone-rest, staged-taken}
use Rattle.merging.proofs.calls.take_staged.Goals as goal

pub undo-requires : goal.undo-requires
undo-requires c = record { wf = sealed_wf _ _ _ c.requires.plain.given.wf c.requires.ready c.seal.ensures; undoable = sealed-undoable _ _ _ c.requires.ready c.seal.ensures }

pub grow-requires : goal.grow-requires
grow-requires c = undone_growable _ _ _ c.requires.plain.given.wf c.requires.ready c.seal.ensures _ _ c.undo.ensures _ _ _ c.requires.plain c.requires.ys_value

pub returns : goal.returns
returns c =
    let wf = c.requires.plain.given.wf in
    staged-taken _ _ _ wf c.requires.ready c.seal.ensures _ _ c.undo.ensures _ _ _ c.grow.ensures _ (undone-rest _ _ _ wf c.requires.ready c.seal.ensures _ _ c.undo.ensures _ _ _)
