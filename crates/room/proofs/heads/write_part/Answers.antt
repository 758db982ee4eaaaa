-- `room::heads::write_part` meets its contract. Assumes nothing.
use Rattle.room.proofs.Settling.{wrote}
use Rattle.room.proofs.heads.write_part.Goals as goal

pub returns : goal.returns
returns c = wrote c.args.cells c.args.k c.args.head.now c.args.tag _ c.args.store _ _ _ _ _ c.push_batch-all.ensures c.settle.ensures
