-- `takes_runs::blocks::take_block` meets its contract. The loop's invariant: the bytes passed are taken. Assumes nothing.
use Rattle.takes_runs.proofs.BlockLaws.{taking-none, taking_all, taking-more}
use native.Mathlib.Omega.{arith}
use borrow.Author.Rules.{rules}
use Rattle.takes_runs.proofs.blocks.take_block.Goals as goal

pub loop-b-init : goal.loop-b-init
loop-b-init c = (taking-none _ _ _ c.requires.fit (search rules), c.requires.lent)

pub loop-b-preserved : goal.loop-b-preserved
loop-b-preserved c =
    (taking-more _ _ _ c.requires.block_in_bounds.0 _ _ _ _ c.loop-b.invariant.0 _ _ _ c.loop-b-test.true c.take_byte-printed.ensures.stepped (omega arith) c.take_byte-printed.ensures.lines_bound, (omega arith, omega arith, omega arith))

pub returns-clause-stepped : goal.returns-clause-stepped
returns-clause-stepped c = taking_all _ _ _ c.requires.block_in_bounds.0 _ _ _ _ c.loop-b.invariant.0 c.loop-b-test.false
