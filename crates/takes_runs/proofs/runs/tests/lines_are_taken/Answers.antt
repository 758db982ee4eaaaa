-- The test of `takes_runs::runs` meets what it calls. Assumes nothing.
use Rattle.takes_runs.proofs.KindLaws.{fresh-area}
use Rattle.takes_runs.proofs.runs.tests.lines_are_taken.Goals as goal

pub take_line-requires-clause-fit : goal.take_line-requires-clause-fit
take_line-requires-clause-fit g c =
    let runs = c.begin.new.self in
    record { merged-area = fresh-area runs.xs runs.bs c.begin.ensures.merged; run-area = fresh-area runs.ys runs.cs c.begin.ensures.run }
