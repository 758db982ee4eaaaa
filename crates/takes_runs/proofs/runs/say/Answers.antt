-- `takes_runs::runs::say` meets its contract. Assumes nothing.
use Rattle.takes_runs.proofs.StepLaws.{says_nothing, says-refusal}
use Rattle.takes_runs.proofs.runs.say.Goals as goal

pub returns-in-Ok : goal.returns-in-Ok
returns-in-Ok c = rw c.in-Ok.is (says_nothing _ _)

pub returns-in-Err : goal.returns-in-Err
returns-in-Err c = rw c.in-Err.is (says-refusal _ _ _ _ _ (rw c.number.ensures at c.refusal_line.ensures))
