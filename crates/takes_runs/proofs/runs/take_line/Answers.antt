-- `takes_runs::runs::take_line` meets its contract. Assumes nothing.
use Rattle.takes_lines.specs.Views.{answer_line}
use Rattle.takes_runs.proofs.StepLaws.{malformed-line}
use Rattle.takes_runs.proofs.runs.take_line.Goals as goal

pub returns-in_default : goal.returns-in_default
returns-in_default c = rw c.in_default.is (unfold answer_line in malformed-line _ _ _ _ _ c.requires.fit c.malformed_line.ensures)
