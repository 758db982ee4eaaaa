-- `takes_lines::output::write_numbers` meets its contract. Assumes nothing.
use Rattle.std.proofs.Common.{arith}
use lib.ListN.{get_or, length-set}
use Rattle.takes_lines.specs.Written.{decimal-most}
use Rattle.takes_lines.proofs.WriteWays.{write-start, writing-length, write-more}
use Rattle.takes_lines.proofs.output.write_numbers.Goals as goal

pub loop-number-init : goal.loop-number-init
loop-number-init c = write-start c.args.out.now c.args.numbers.now c.requires

pub write_digits-at-requires : goal.write_digits-at-requires
write_digits-at-requires c =
    simp length-set (omega (arith, decimal-most (get_or c.args.numbers.now c.loop-number.number-index 0), writing-length c.args.out.now c.args.numbers.now c.requires c.loop-number.number-index c.loop-number.at c.loop-number.out c.loop-number.invariant, c.loop-number.invariant.bound, c.loop-number-test.true))

pub loop-number-preserved : goal.loop-number-preserved
loop-number-preserved c =
    write-more c.args.out.now c.args.numbers.now c.requires c.loop-number.number-index c.loop-number.at c.loop-number.out _ _ c.loop-number-test.true c.loop-number.invariant c.write_digits-at.ensures
