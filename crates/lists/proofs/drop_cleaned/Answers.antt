-- `lists::drop_cleaned` meets its contract. Assumes nothing.
use Rattle.lists.proofs.CallLaws.{drop-cleaned}
use Rattle.lists.proofs.drop_cleaned.Goals as goal

pub returns : goal.returns
returns c = drop-cleaned c.args.ys.now c.requires
