-- `lists::add_all_cleaned` meets its contract: the other lists' numbers are copied behind one's own. Assumes nothing.
use Rattle.lists.proofs.CallLaws.{others-cleaned}
use Rattle.lists.proofs.add_all_cleaned.Goals as goal

pub returns : goal.returns
returns c = λ cs w. rw c.copy_in.ensures (others-cleaned c.args.ys.now c.args.its_ys.now c.requires.ys_len.0 c.requires.ys_len.1 c.requires.its_ys_bound cs w)
