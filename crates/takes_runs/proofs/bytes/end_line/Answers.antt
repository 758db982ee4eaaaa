-- `takes_runs::bytes::end_line` meets its contract. Assumes nothing.
use Rattle.takes_runs.proofs.ReadingLaws.{line-ended}
use Rattle.std.proofs.Common.{refl}
use Rattle.takes_runs.proofs.bytes.end_line.Goals as goal

pub returns-clause-stepped : goal.returns-clause-stepped
returns-clause-stepped c = line-ended _ _ _ c.finish-line.ensures refl c.requires.lent.2 _ _ _ c.take_line-printed.ensures _ c.start.ensures
