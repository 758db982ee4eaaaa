-- `takes_lines::output::write_digits` meets its contract. The measure is the number. Assumes nothing.
use Rattle.takes_lines.proofs.output.+write_digits.Given as goal

abbrev pub decreases-write_digits : goal.decreases-write_digits
decreases-write_digits l = l.n
