-- `takes_program::run` meets its contract. The loop's invariant: what was read is taken, and what it prints is written. Assumes nothing.
use Rattle.takes_program.proofs.RunLaws.{Running}
use Rattle.takes_program.proofs.run.Given as goal

abbrev pub invariant-loop-read : goal.invariant-loop-read
invariant-loop-read g l = Running (g.R.Read.remaining l.initial.input) (g.W.Write.contents l.initial.output) (g.R.Read.remaining l.input) (g.W.Write.contents l.output) l.held l._read
