-- `groups::undoing::secure_removal` meets its contract. Assumes nothing.
use Rattle.groups.specs.Laws.{found_at_lem}
use Rattle.groups.proofs.Savings.{entries-few}
use Rattle.groups.proofs.Securings.{restorable, secured_removal}
use Rattle.groups.proofs.undoing.secure_removal.Goals as goal

pub save_header-requires : goal.save_header-requires
save_header-requires c = let a = found_at_lem _ _ _ _ c.requires.found c.in-At.is in record { k_bound = (a.inside, c.requires.wf.numbers_fit); xs_bound = entries-few _ _ (c.requires.wf.used _ a.inside a.used) }

pub returns-in-At : goal.returns-in-At
returns-in-At c =
    let a = found_at_lem _ _ _ _ c.requires.found c.in-At.is in rw c.in-At.is (secured_removal _ c.args.xs.now c.args.bs.now _ _ a.inside c.requires.wf c.requires.undoable (c.save_header.ensures c.args.bs.now (restorable _ c.args.xs.now c.args.bs.now a.inside c.requires.wf c.requires.undoable) a.used))
