-- `lists::clear` meets its contract. Assumes nothing.
use Rattle.lists.proofs.CallLaws.{cleared}
use Rattle.lists.proofs.clear.Goals as goal

pub returns : goal.returns
returns c = cleared c.args.ys.now c.args.queue c.from.result c.requires c.from.ensures
