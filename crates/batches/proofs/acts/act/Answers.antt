-- `batches::acts::act` meets its contract. Assumes nothing.
use Rattle.batches.specs.ActLaws.{skipped, act-skip, act-clean, act-change, change-ready}
use Rattle.batches.proofs.acts.act.Goals as goal

pub change_group-requires : goal.change_group-requires
change_group-requires c = record { wf = c.requires.wf; undoable = c.requires.undoable; ready = change-ready _ _ _ _ _ _ c.in-Change.is c.requires.deed_ready }

pub returns-in-Skip : goal.returns-in-Skip
returns-in-Skip c = act-skip _ _ _ _ _ _ _ _ _ _ _ c.in-Skip.is (skipped _ _ _ c.requires.wf c.requires.undoable)

pub returns-in-Clean : goal.returns-in-Clean
returns-in-Clean c = act-clean _ _ _ _ _ _ _ _ _ _ _ c.in-Clean.is c.clean.ensures

pub returns-in-Change : goal.returns-in-Change
returns-in-Change c = act-change _ _ _ _ _ _ _ _ _ _ _ _ c.in-Change.is c.change_group.ensures
