-- `lists::add_cleaned` meets its contract. Assumes nothing.
use Rattle.lists.proofs.CallLaws.{cleaned-added}
use Rattle.lists.proofs.add_cleaned.Goals as goal

pub returns : goal.returns
returns c = λ cs w. cleaned-added c.args.ys.now c.args.group c.requires.ys_len c.requires.ys_bound cs w
