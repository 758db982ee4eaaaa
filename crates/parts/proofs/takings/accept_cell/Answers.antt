-- `parts::takings::accept_cell` meets its contract. Assumes nothing.
use Rattle.std.proofs.lemmas.Result.{err_from_is_err_and}
use Rattle.parts.proofs.TakingWays.{one_room, older_room, older_refused}
use Rattle.parts.proofs.takings.accept_cell.Goals as goal

pub accept_at-requires-clause-room_for : goal.accept_at-requires-clause-room_for
accept_at-requires-clause-room_for c = one_room _ _ _ c.requires.k_bound c.if-us-at-eq1.true _ _ c.requires.room_for_all

pub accept_at-requires-2-clause-room_for : goal.accept_at-requires-2-clause-room_for
accept_at-requires-2-clause-room_for c = older_room _ _ _ c.requires.k_bound c.if-us-at-eq1.false _ _ c.requires.room_for_all

pub returns-in_err-accept_at : goal.returns-in_err-accept_at
returns-in_err-accept_at c =
    let p = err_from_is_err_and c.from_residual.result c.from_residual.ensures.1 in
    let refused = c.in_err-accept_at.ensures in
    rw (p.1, p.2) (older_refused c.args.us.now c.args.ds.now c.args.k c.requires.k_bound c.if-us-at-eq1.false c.args.ws.now c.args.vs.now _ _ _ refused, refused.cause-is)
