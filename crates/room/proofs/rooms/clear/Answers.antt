-- `room::rooms::clear` meets its contract: the cells passed are cleared. Assumes nothing.
use Rattle.room.proofs.Clearing.{cleared_all}
use Rattle.room.proofs.rooms.clear.Goals as goal

pub returns : goal.returns
returns c = cleared_all _ _ _ c.loop-k-test.false c.loop-k.invariant
