-- `groups::undoing::begin` meets its contract: the marks of the spare stretches passed are cleared. Assumes nothing.
use Rattle.groups.proofs.Undoings.{Cleared}
use Rattle.groups.proofs.undoing.begin.Given as goal

abbrev pub invariant-loop-k : goal.invariant-loop-k
invariant-loop-k l = Cleared l.k l.initial.xs l.xs
