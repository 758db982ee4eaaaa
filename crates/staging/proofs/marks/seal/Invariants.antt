-- `staging::marks::seal` meets its contract: the spare stretches passed have their marks. Assumes nothing.
use Rattle.staging.specs.Staging.{Sealed}
use Rattle.staging.proofs.marks.seal.Given as goal

abbrev pub invariant-loop-k : goal.invariant-loop-k
invariant-loop-k l = Sealed l.k l.initial.xs l.xs
