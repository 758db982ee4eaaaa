-- `memtable::scans::count_before` meets its contract. Assumes nothing.
use borrow.Author.Rules.{rules}
use mathlib.Core.Path.{◌∙◌}
use native.Mathlib.Nat.{le_antisymm}
use Rattle.memtable.specs.ScanLaws.{before-end, before_stop, before_more}
use Rattle.memtable.proofs.scans.count_before.Goals as goal

pub returns-then-gate-part : goal.returns-then-gate-part
returns-then-gate-part c = (before_stop _ c.args.from c.args.count c.loop-i.i c.args.gate _ c.loop-i.invariant c.loop-i-test.true c.if-gate-part.true, search rules)

pub loop-i-preserved : goal.loop-i-preserved
loop-i-preserved c = before_more _ c.args.from c.args.count c.loop-i.i c.args.gate _ c.loop-i.invariant c.loop-i-test.true c.if-gate-part.false

pub returns : goal.returns
returns c = (le_antisymm c.loop-i-test.false c.loop-i.auto.i-end ∙ before-end c.args.part.now c.args.from c.args.count c.loop-i.i c.args.gate _ c.loop-i.invariant c.loop-i-test.false, search rules)
