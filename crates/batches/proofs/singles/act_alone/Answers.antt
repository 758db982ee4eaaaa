-- `batches::singles::act_alone` meets its contract. Assumes nothing.
use Rattle.batches.specs.ActLaws.{change-ready}
use Rattle.batches.specs.SingleLaws.{alone-changed, alone-removed, alone-skipped}
use Rattle.batches.proofs.singles.act_alone.Goals as goal

pub apply-requires : goal.apply-requires
apply-requires c = record { wf = c.requires.wf; found = c.find-slot-in-Change.ensures; ready = change-ready _ _ _ _ _ _ c.in-Change.is c.requires.deed_ready }

pub returns-in-Skip : goal.returns-in-Skip
returns-in-Skip c = alone-skipped _ _ _ _ _ _ _ c.in-Skip.is c.requires.wf

pub returns-in-Clean : goal.returns-in-Clean
returns-in-Clean c = alone-removed c.args.group c.find-slot.result c.args.xs.now c.args.bs.now c.requires.wf c.find-slot.ensures _ _ _ _ c.in-Clean.is _ (c.remove.ensures _ c.requires.wf)

pub returns-in-Change : goal.returns-in-Change
returns-in-Change c = alone-changed c.args.group c.find-slot-in-Change.result c.args.xs.now c.args.bs.now c.requires.wf c.find-slot-in-Change.ensures _ _ _ _ _ c.in-Change.is _ _ _ c.apply.ensures.changed_group
