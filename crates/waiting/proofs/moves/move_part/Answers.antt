-- `waiting::moves::move_part` meets its contract. Assumes nothing.
use Rattle.room.proofs.Settling.{wrote}
use Rattle.waiting.proofs.moves.move_part.Goals as goal

pub returns : goal.returns
returns c = rw (← c.its.view_is) (wrote 16 c.args.k c.args.head.now c.args.tag _ c.args.store _ _ _ _ _ c.push_part-all.ensures c.settle.ensures)
