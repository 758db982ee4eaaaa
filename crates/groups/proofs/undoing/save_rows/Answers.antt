-- `groups::undoing::save_rows` meets its contract. Assumes nothing.
use native.Mathlib.Omega.{arith}
use Rattle.groups.specs.Undo.{mark_at}
use Rattle.groups.proofs.Savings.{lowered_none, rows-saved}
use Rattle.groups.proofs.undoing.save_rows.Goals as goal

pub returns-then-mark-lt2 : goal.returns-then-mark-lt2
unfolding mark_at
returns-then-mark-lt2 c = λ bs r. lowered_none c.args.k c.args.first c.args.xs.now bs r (omega arith)

pub returns-then-low-first : goal.returns-then-low-first
unfolding mark_at
returns-then-low-first c = λ bs r. lowered_none c.args.k c.args.first c.args.xs.now bs r c.if-low-first.true

pub returns : goal.returns
unfolding mark_at
returns c = λ bs r. rows-saved c.args.k c.args.xs.now bs r c.args.first _ c.if-mark-lt2.false c.if-low-first.false c.shift.ensures
