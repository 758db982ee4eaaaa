-- `batches::acts::secure_removal_unless` meets its contract. Assumes nothing.
use Rattle.batches.specs.ActLaws.{unsecured, secured_by}
use Rattle.batches.proofs.acts.secure_removal_unless.Goals as goal

pub returns-then-last : goal.returns-then-last
returns-then-last c = unsecured _ _ _ _ c.if-last.true c.requires.wf c.requires.undoable

pub returns : goal.returns
returns c = secured_by _ _ _ _ _ _ c.secure_removal.ensures
