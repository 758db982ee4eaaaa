-- `groups::undoing::undo` meets its contract: the stretches passed have gone back. Assumes nothing.
use Rattle.groups.proofs.Undoings.{Taken}
use Rattle.groups.proofs.undoing.undo.Given as goal

abbrev pub invariant-loop-k : goal.invariant-loop-k
invariant-loop-k l = Taken l.k l.initial.xs l.initial.bs l.xs l.bs
