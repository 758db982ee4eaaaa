-- `parts::takings::take_parts` meets its contract. Assumes nothing.
use Rattle.std.proofs.lemmas.Result.{err_from_is_err_and}
use Rattle.parts.proofs.TakingWays.{taking_start, cell_room, taken_refused, taken_more}
use Rattle.parts.proofs.takings.take_parts.Goals as goal

pub loop-k-init : goal.loop-k-init
loop-k-init c = taking_start _ _ _ _ c.requires.context_room_2.room c.requires.context_room_2 c.requires.context_room

pub accept_cell-requires-clause-room_for_all : goal.accept_cell-requires-clause-room_for_all
accept_cell-requires-clause-room_for_all c = cell_room _ _ _ _ c.requires.context_room_2.room _ _ _ c.loop-k.invariant _ c.in-Some.ensures

pub returns-in_err-accept_cell : goal.returns-in_err-accept_cell
returns-in_err-accept_cell c =
    let p = err_from_is_err_and c.from_residual.result c.from_residual.ensures.1 in
    let refused = c.in_err-accept_cell.ensures in
    rw (p.1, p.2) (taken_refused _ _ _ _ c.requires.context_room_2.room _ _ _ c.loop-k.invariant _ c.in-Some.ensures _ refused.0, refused.1)

pub loop-k-preserved : goal.loop-k-preserved
loop-k-preserved c =
    taken_more _ _ _ _ c.requires.context_room_2.room _ _ _ c.loop-k.invariant _ c.in-Some.ensures _ _ c.in_ok-accept_cell.ensures _ c.group_at.ensures
