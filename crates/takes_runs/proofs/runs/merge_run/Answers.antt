-- `takes_runs::runs::merge_run` meets its contract. Assumes nothing.
use Rattle.contexts.specs.AreaLaws.{formed_of, area-length, area-bytes}
use Rattle.takes_runs.proofs.StepLaws.{merged_run}
use Rattle.takes_runs.proofs.runs.merge_run.Goals as goal

pub fresh-requires : goal.fresh-requires
fresh-requires c = (area-length _ _ (formed_of _ _ c.requires.fit.run-area.wf), area-bytes _ _ (formed_of _ _ c.requires.fit.run-area.wf))

pub returns : goal.returns
returns c = merged_run _ _ _ _ _ _ _ _ _ c.requires.fit c.merge-answer.ensures c.fresh.ensures c.say.ensures
