-- `room::heads::take_part` meets its contract. Assumes nothing.
use Rattle.room.proofs.Settling.{took}
use mathlib.Core.Path.{refl}
use Rattle.room.proofs.heads.take_part.Goals as goal

pub returns : goal.returns
returns c =
    took c.args.cells c.args.k c.args.ws.now c.args.vs.now c.requires.room_wf c.requires.k_lt_cells.0 c.requires.k_lt_cells.1 _ _ _ _ _ _ _ c.counts_in-store.ensures refl c.left_head-head.ensures c.take_out-left.ensures c.settle.ensures
