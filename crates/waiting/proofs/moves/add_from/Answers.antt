-- `waiting::moves::add_from` meets its contract. Assumes nothing.
use Rattle.waiting.proofs.Moving.{added_from}
use Rattle.waiting.proofs.moves.add_from.Goals as goal

pub returns : goal.returns
returns c = added_from c.args.us.now c.args.ds.now c.requires.us_len.0 c.requires.us_len.1 _ _ _ _ _ _ c.add.ensures
