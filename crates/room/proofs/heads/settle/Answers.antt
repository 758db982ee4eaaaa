-- `room::heads::settle` meets its contract. Assumes nothing.
use Rattle.room.proofs.Settling.{settled}
use Rattle.room.proofs.heads.settle.Goals as goal

pub returns : goal.returns
returns c = settled c.args.cells c.args.k c.args.ws.now c.args.head.now c.args.store c.requires.0 c.requires.1 c.requires.2 _ c.copy_in.ensures
