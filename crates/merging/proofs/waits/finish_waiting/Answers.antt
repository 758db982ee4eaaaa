-- `merging::waits::finish_waiting` meets its contract. Assumes nothing.
use Rattle.std.proofs.lemmas.Result.{err_from_is_err_and}
use Rattle.staging.specs.ModeLaws.{waits_back}
use Rattle.merging.proofs.FinishWays.{refused_with}
use Rattle.merging.proofs.waits.finish_waiting.Goals as goal

pub returns-in_err-accept_waiting : goal.returns-in_err-accept_waiting
returns-in_err-accept_waiting c =
    let p = err_from_is_err_and c.from_residual.result c.from_residual.ensures.1 in
    rw (p.1, p.2) (refused_with _ _ _ _ c.requires.given.wf (waits_back _ _ _ _ _ c.requires.given c.requires.worked _ (rw c.in_err-accept_waiting.was at c.accept_waiting.ensures).0))
