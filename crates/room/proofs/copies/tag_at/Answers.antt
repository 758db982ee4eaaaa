-- `room::copies::tag_at` meets its contract. Assumes nothing.
use Rattle.room.proofs.Copying.{tag_told}
use Rattle.room.proofs.copies.tag_at.Goals as goal

pub returns : goal.returns
returns c = tag_told c.args.ws.now c.args.j c.requires.0 c.requires.1
