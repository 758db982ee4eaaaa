-- `staging::marks::begin` meets its contract: the spare stretches passed are marked. Assumes nothing.
use Rattle.staging.specs.Staging.{Begun}
use Rattle.staging.proofs.marks.begin.Given as goal

abbrev pub invariant-loop-k : goal.invariant-loop-k
invariant-loop-k l = Begun l.k l.initial.xs l.xs
