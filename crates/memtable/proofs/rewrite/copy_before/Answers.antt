-- `memtable::rewrite::copy_before` meets its contract: after each turn one row more is laid in. Assumes nothing.
use Rattle.cells.specs.PartLaws.{part_none}
use Rattle.cells.proofs.Steps.{laid_none}
use Rattle.memtable.specs.ScanLaws.{before-end, before_stop, before_more}
use Rattle.memtable.proofs.RewriteWays.{held-cell, row_more}
use borrow.Author.Rules.{rules}
use mathlib.Core.Path.{sym, ◌∙◌}
use native.Mathlib.Nat.{le_antisymm}
use native.Mathlib.Omega.{arith}
use Rattle.memtable.proofs.rewrite.copy_before.Goals as goal

pub loop-i-init : goal.loop-i-init
loop-i-init c = (search rules, rw part_none (laid_none _ _))

pub returns-then-gate-part : goal.returns-then-gate-part
returns-then-gate-part c =
    let e = held-cell c.args.part.now c.args.rows.now c.args.pos c.args.skip c.loop-i.i c.loop-i.invariant.1 c.args.most c.requires.0 c.requires.1 (search rules) 2 in let k = before_stop c.args.part.now c.args.pos c.args.most c.loop-i.i c.args.gate _ c.loop-i.invariant.0 (search rules) (omega arith) in record { count = k; most = search rules; laid = c.loop-i.invariant.1.is }

pub loop-i-preserved : goal.loop-i-preserved
loop-i-preserved c =
    let e = held-cell c.args.part.now c.args.rows.now c.args.pos c.args.skip c.loop-i.i c.loop-i.invariant.1 c.args.most c.requires.0 c.requires.1 (search rules) 2 in (before_more c.args.part.now c.args.pos c.args.most c.loop-i.i c.args.gate _ c.loop-i.invariant.0 (search rules) (omega arith), row_more c.args.part.now c.args.rows.now c.args.pos c.args.skip c.loop-i.i c.loop-i.invariant.1 c.args.most c.requires.0 c.requires.1 (search rules) (search rules) _ c.copy_row.ensures c.copy_row.auto.part)

pub returns : goal.returns
returns c =
    let e = le_antisymm c.loop-i.auto.i-end c.loop-i-test.false in
    record { count = sym e ∙ before-end c.args.part.now c.args.pos c.args.most c.loop-i.i c.args.gate _ c.loop-i.invariant.0 c.loop-i-test.false; most = search rules; laid = rw e at c.loop-i.invariant.1.is }
