-- `groups::undoing::secure` meets its contract. Assumes nothing.
use Rattle.groups.specs.Laws.{found_at_lem, found-free}
use Rattle.groups.proofs.Securings.{restorable, secured-change, secured-made}
use Rattle.groups.proofs.undoing.secure.Goals as goal

pub secure_used-requires : goal.secure_used-requires
secure_used-requires c = let a = found_at_lem _ _ _ _ c.requires.found c.in-At.is in record { restorable = restorable _ c.args.xs.now c.args.bs.now a.inside c.requires.wf c.requires.undoable; xs_value = a.used }

pub secure_free-requires : goal.secure_free-requires
secure_free-requires c = let a = found-free _ _ _ _ c.requires.found c.in-Free.is in record { restorable = restorable _ c.args.xs.now c.args.bs.now a.inside c.requires.wf c.requires.undoable; xs_value = a.free }

pub returns-in-At : goal.returns-in-At
returns-in-At c =
    let a = found_at_lem _ _ _ _ c.requires.found c.in-At.is in rw c.in-At.is (secured-change _ c.args.xs.now c.args.bs.now _ _ a.inside c.requires.wf c.requires.undoable c.args.change c.secure_used.ensures)

pub returns-in-Free : goal.returns-in-Free
returns-in-Free c =
    let a = found-free _ _ _ _ c.requires.found c.in-Free.is in rw c.in-Free.is (secured-made _ c.args.xs.now c.args.bs.now _ _ a.inside c.requires.wf c.requires.undoable c.args.change c.secure_free.ensures)
