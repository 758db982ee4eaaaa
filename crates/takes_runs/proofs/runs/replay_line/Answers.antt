-- `takes_runs::runs::replay_line` meets its contract. Assumes nothing.
use Rattle.takes_runs.specs.Steps.{runs_of}
use Rattle.takes_runs.proofs.StepLaws.{replayed_run}
use Rattle.takes_runs.proofs.runs.replay_line.Goals as goal

pub returns : goal.returns
returns c = λ xs bs k. replayed_run _ _ (runs_of xs bs c.args.ys.now c.args.cs.now) _ _ _ _ _ _ _ _ (record { merged-area = k; run-area = c.requires.append_area }) c.replay-answer.ensures c.say.ensures
