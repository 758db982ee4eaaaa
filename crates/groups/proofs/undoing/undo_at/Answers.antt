-- `groups::undoing::undo_at` meets its contract. Assumes nothing.
use native.Mathlib.Omega.{arith}
use Rattle.groups.specs.Undo.{mark_at}
use Rattle.groups.proofs.Restorings.{undone-stays, undone-gone, undone-front, undone_all}
use Rattle.groups.proofs.undoing.undo_at.Goals as goal

pub returns-then-mark-eq0 : goal.returns-then-mark-eq0
unfolding mark_at
returns-then-mark-eq0 c = undone-stays c.args.k c.args.xs.now c.args.bs.now c.requires c.if-mark-eq0.true

pub returns-then-mark-eq1 : goal.returns-then-mark-eq1
unfolding mark_at
returns-then-mark-eq1 c = rw c.free_at.ensures (undone-gone c.args.k c.args.xs.now c.args.bs.now c.requires c.if-mark-eq1.true)

pub returns-then-mark-eq1-2 : goal.returns-then-mark-eq1-2
unfolding mark_at
returns-then-mark-eq1-2 c = undone_all c.args.k c.args.xs.now c.args.bs.now c.requires _ (omega (arith, c.if-mark-eq0.false, c.if-mark-eq1.false)) c.restore_front.ensures _ _ c.restore_keys.ensures c.if-mark-eq1-2.true

pub returns-else-mark-eq1-2 : goal.returns-else-mark-eq1-2
unfolding mark_at
returns-else-mark-eq1-2 c = undone-front c.args.k c.args.xs.now c.args.bs.now c.requires _ (omega (arith, c.if-mark-eq0.false, c.if-mark-eq1.false)) c.restore_front.ensures (omega (arith, c.if-mark-eq1-2.false))
