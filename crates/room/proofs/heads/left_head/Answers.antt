-- `room::heads::left_head` meets its contract. Assumes nothing.
use Rattle.room.proofs.Settling.{left_is}
use Rattle.room.proofs.heads.left_head.Goals as goal

pub returns : goal.returns
returns c = left_is c.args.cells c.args.ws.now c.args.k c.requires.ws_len.1
