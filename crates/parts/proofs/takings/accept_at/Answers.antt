-- `parts::takings::accept_at` meets its contract. Assumes nothing.
use Rattle.std.proofs.lemmas.Result.{err_from_is_err_and}
use Rattle.parts.proofs.TakingWays.{part_refused}
use Rattle.parts.proofs.takings.accept_at.Goals as goal

pub returns-in_err-accept_part : goal.returns-in_err-accept_part
returns-in_err-accept_part c =
    let p = err_from_is_err_and c.from_residual.result c.from_residual.ensures.1 in
    rw (p.1, p.2) (part_refused _ _ _ _ _ _ _ _ _ c.part_head-new.ensures _ c.in_err-accept_part.ensures)
