-- `contexts::clear_groups` meets its contract. Assumes nothing.
use Rattle.contexts.specs.Contexts.{Cleared}
use Rattle.contexts.proofs.clear_groups.Given as goal

abbrev pub invariant-loop-k : goal.invariant-loop-k
invariant-loop-k l = Cleared l.k l.initial.xs l.xs
