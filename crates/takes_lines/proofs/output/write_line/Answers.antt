-- `takes_lines::output::write_line` meets its contract. Assumes nothing.
use native.Mathlib.Omega.{arith}
use Rattle.takes_lines.proofs.WriteWays.{numbers-length, line-written}
use Rattle.takes_lines.proofs.output.write_line.Goals as goal

pub bounds-out-at : goal.bounds-out-at
bounds-out-at c =
    omega (arith, numbers-length c.args.out.now c.args.numbers.now c.requires c.args.letter c.write_numbers-at.result _ c.write_numbers-at.ensures.written_at c.write_numbers-at.ensures.upper_bound, c.write_numbers-at.ensures.upper_bound)

pub returns : goal.returns
returns c = line-written c.args.out.now c.args.numbers.now c.requires c.args.letter c.write_numbers-at.result _ c.write_numbers-at.ensures.written_at c.write_numbers-at.ensures.upper_bound
