-- `takes_lines::output::write_numbers` meets its contract. The loop's invariant: the numbers passed are written. Assumes nothing.
use Rattle.takes_lines.proofs.WriteWays.{Writing}
use Rattle.takes_lines.proofs.output.write_numbers.Given as goal

abbrev pub invariant-loop-number : goal.invariant-loop-number
invariant-loop-number l = Writing l.initial.out l.numbers l.number-index l.at l.out
