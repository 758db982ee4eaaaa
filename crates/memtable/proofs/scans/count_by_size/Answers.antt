-- `memtable::scans::count_by_size` meets its contract. Assumes nothing.
use mathlib.Core.Path.{sym, ◌∙◌}
use Prim.Native.Nat.{◌+◌}
use native.Mathlib.Omega.{arith}
use borrow.Author.Rules.{rules}
use native.Mathlib.Nat.{le_antisymm}
use Rattle.memtable.specs.ScanLaws.{size-end, size_stop, size-more, size_fits}
use Rattle.memtable.proofs.scans.count_by_size.Goals as goal

pub returns-then-over_size : goal.returns-then-over_size
returns-then-over_size c = (size_stop _ c.args.from c.args.count c.loop-i.i c.args.size c.loop-i.sum _ c.loop-i.invariant.1 c.loop-i-test.true (sym c.over_size.ensures ∙ c.if-over_size.true), search rules)

pub overflow_add-sum : goal.overflow_add-sum
overflow_add-sum c =
    let p = c.requires.any_rows (c.args.from + c.loop-i.i) (omega arith) (omega (arith, c.loop-i-test.true)) in record { fits = size_fits _ _ _ (sym c.over_size.ensures ∙ c.if-over_size.false) c.ranges.size.fits p.len }

pub loop-i-preserved : goal.loop-i-preserved
loop-i-preserved c =
    let p = c.requires.any_rows (c.args.from + c.loop-i.i) (omega arith) (omega (arith, c.loop-i-test.true)) in (size_fits _ _ _ (sym c.over_size.ensures ∙ c.if-over_size.false) c.ranges.size.fits p.len, size-more _ c.args.from c.args.count c.loop-i.i c.args.size c.loop-i.sum _ c.loop-i.invariant.1 c.loop-i-test.true (sym c.over_size.ensures ∙ c.if-over_size.false))

pub returns : goal.returns
returns c = (le_antisymm c.loop-i-test.false c.loop-i.auto.i-end ∙ size-end c.args.part.now c.args.from c.args.count c.loop-i.i c.args.size c.loop-i.sum _ c.loop-i.invariant.1 c.loop-i-test.false, search rules)
