-- `lists::become_index` meets its contract. Assumes nothing.
use Rattle.lists.proofs.CallLaws.{become-index}
use Rattle.lists.proofs.become_index.Goals as goal

pub returns : goal.returns
returns c = become-index c.args.ys.now c.requires
