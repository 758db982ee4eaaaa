-- `batches::acts::change_group` meets its contract. Assumes nothing.
use Rattle.stretch.specs.Changes.{rule_of, Ready}
use Rattle.groups.specs.Undo.{ReadyFor}
use Rattle.batches.specs.ActLaws.{found-still, ready-still, acted-change}
use Rattle.batches.proofs.acts.change_group.Goals as goal

pub apply-requires : goal.apply-requires
apply-requires c =
    record { wf = c.secure_unless.ensures.wf; found = found-still c.args.group c.find-slot.result c.args.last (ReadyFor c.args.change c.find-slot.result) c.args.xs.now c.args.bs.now _ _ c.find-slot.ensures c.secure_unless.ensures; ready = ready-still c.args.group c.find-slot.result c.args.last (ReadyFor c.args.change c.find-slot.result) c.args.xs.now c.args.bs.now _ _ c.find-slot.ensures c.secure_unless.ensures (Ready c.args.change c.args.rows.now c.args.key.now c.args.value.now) c.requires.ready }

pub returns : goal.returns
returns c =
    acted-change c.args.group c.find-slot.result c.args.last c.args.xs.now c.args.bs.now _ _ c.find-slot.ensures c.args.change (rule_of c.args.change c.args.rows.now c.args.key.now c.args.value.now) c.secure_unless.ensures _ _ _ c.apply.ensures.changed_group c.apply.ensures.leaves_slot
