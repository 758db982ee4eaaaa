-- `batches::acts::clean` meets its contract. Assumes nothing.
use Rattle.groups.specs.Undo.{ReadyToGo}
use Rattle.batches.specs.ActLaws.{found-still, acted-clean}
use Rattle.batches.proofs.acts.clean.Goals as goal

pub remove-requires : goal.remove-requires
remove-requires c =
    record { in_bounds = c.secure_removal_unless.ensures.wf.numbers_fit; found = found-still c.args.group c.find-slot.result c.args.last (ReadyToGo c.find-slot.result) c.args.xs.now c.args.bs.now _ _ c.find-slot.ensures c.secure_removal_unless.ensures }

pub returns : goal.returns
returns c = acted-clean c.args.group c.find-slot.result c.args.last c.args.xs.now c.args.bs.now _ _ c.find-slot.ensures c.secure_removal_unless.ensures _ (c.remove.ensures _ c.secure_removal_unless.ensures.wf)
