-- `groups::undoing::save_header` meets its contract. Assumes nothing.
use Rattle.groups.specs.Undo.{mark_at}
use Rattle.groups.proofs.Savings.{kept-none, header-saved}
use Rattle.groups.proofs.Securings.{marked_already}
use Rattle.groups.proofs.undoing.save_header.Goals as goal

pub returns-then-xs-to-eq0 : goal.returns-then-xs-to-eq0
unfolding mark_at
returns-then-xs-to-eq0 c = λ bs r u. header-saved c.args.k c.args.xs.now bs _ r u c.if-xs-to-eq0.true c.shift.ensures

pub returns-else-xs-to-eq0 : goal.returns-else-xs-to-eq0
unfolding mark_at
returns-else-xs-to-eq0 c = λ bs r u. marked_already c.args.k c.args.xs.now bs (kept-none c.args.k c.args.xs.now bs r) c.if-xs-to-eq0.false
