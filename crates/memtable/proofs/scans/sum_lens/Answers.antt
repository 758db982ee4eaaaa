-- `memtable::scans::sum_lens` meets its contract: the sum so far and what is left from row i on give the whole. Assumes nothing.
use Prim.Native.Nat.{◌+◌}
use Rattle.memtable.specs.ScanLaws.{sum-end, sum_more}
use borrow.Author.Rules.{rules}
use native.Mathlib.Omega.{arith}
use Rattle.memtable.proofs.scans.sum_lens.Goals as goal

pub loop-i-preserved : goal.loop-i-preserved
loop-i-preserved c =
    let p = c.requires.any_rows (c.args.from + c.loop-i.i) (omega arith) (omega arith) in let b = p.len in (omega arith, sum_more c.args.part.now c.args.from c.args.count c.loop-i.i c.loop-i.sum _ c.loop-i.invariant.1 (search rules))

pub returns : goal.returns
returns c = sum-end c.args.part.now c.args.from c.args.count c.loop-i.i c.loop-i.sum _ c.loop-i.invariant.1 c.loop-i-test.false
