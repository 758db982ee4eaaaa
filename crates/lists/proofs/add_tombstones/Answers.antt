-- `lists::add_tombstones` meets its contract: the rows and the bytes of both are lent to the stores. Assumes nothing.
use Rattle.lists.proofs.CallLaws.{others-added}
use Rattle.lists.proofs.add_tombstones.Goals as goal

pub returns : goal.returns
returns c = others-added c.args.ys.now c.args.cs.now c.args.its_ys.now c.args.its_cs.now c.requires.wf c.requires.wf_2 c.requires.its_ys_bound _ _ _ _ c.add_all.ensures
