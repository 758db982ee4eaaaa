-- `groups::search::find` meets its contract: the stretches passed are not of the group. Assumes nothing.
use Rattle.groups.proofs.Finding.{Passed}
use Rattle.groups.proofs.search.find.Given as goal

abbrev pub invariant-loop-i : goal.invariant-loop-i
invariant-loop-i l = Passed l.group l.xs l.start l.free l.i
