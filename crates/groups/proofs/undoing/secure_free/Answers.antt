-- `groups::undoing::secure_free` meets its contract. Assumes nothing.
use Rattle.groups.specs.Undo.{mark_at}
use Rattle.groups.proofs.Securings.{free-marked, covering_all}
use Rattle.groups.proofs.undoing.secure_free.Goals as goal

pub returns-then-xs-to-eq0 : goal.returns-then-xs-to-eq0
unfolding mark_at
returns-then-xs-to-eq0 c = free-marked c.args.k c.args.xs.now c.args.bs.now c.requires.restorable c.requires.xs_value c.if-xs-to-eq0.true

pub returns : goal.returns
returns c = covering_all c.args.k c.args.xs.now c.args.bs.now _ _ _ c.requires.restorable (c.save_rows.ensures c.args.bs.now c.requires.restorable) c.save_keys.ensures
