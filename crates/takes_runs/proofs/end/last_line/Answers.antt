-- `takes_runs::end::last_line` meets its contract. Assumes nothing.
use Rattle.takes_runs.proofs.EndLaws.{line-open, line_empty}
use Rattle.takes_runs.proofs.end.last_line.Goals as goal

pub returns-then-known : goal.returns-then-known
returns-then-known c = line-open _ _ _ _ c.if-known.true c.end_line.ensures.stepped

pub returns : goal.returns
returns c = line_empty _ _ c.if-known.false c.requires.fit
