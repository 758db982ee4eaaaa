-- `takes_runs::totals::groups_text` meets its contract. The loop's invariant: the groups passed are printed. Assumes nothing.
use Rattle.contexts.specs.Contexts.{context_of}
use Rattle.takes_runs.proofs.TotalLaws.{Printing}
use Rattle.takes_runs.proofs.totals.groups_text.Given as goal

abbrev pub invariant-loop-group : goal.invariant-loop-group
invariant-loop-group l = Printing (context_of l.xs l.bs).groups l.initial.out l.out l.at l.group-index
