-- `staging::stages::stage_all` meets its contract: the numbers of the places passed are staged. Assumes nothing.
use Rattle.contexts.specs.Contexts.{context_of}
use Rattle.staging.specs.Staging.{no_flags, Staging}
use Rattle.staging.specs.Modes.{group_by, number_at, firsts}
use Rattle.staging.proofs.stages.stage_all.Given as goal

abbrev pub invariant-loop-i : goal.invariant-loop-i
invariant-loop-i l = Staging (group_by l.mode (context_of l.ys l.cs) (context_of l.initial.xs l.initial.bs)) (firsts (number_at l.initial.xs l.ys) l.i) no_flags l.initial.xs l.initial.bs l.flags l.xs l.bs
