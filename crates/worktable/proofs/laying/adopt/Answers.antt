-- `worktable::laying::adopt` meets its contract. Assumes nothing.
use Rattle.worktable.proofs.LayWays.{adopted}
use Rattle.worktable.proofs.laying.adopt.Goals as goal

pub returns : goal.returns
returns c =
    adopted c.args.p.now c.args.b.now c.args.q.now c.args.d.now c.requires.p_len.0 c.requires.p_len.1 c.requires.wf.0 c.requires.wf.1 _ _ _ c.copy_in.ensures c.copy_in-2.ensures c.copy_in-3.ensures
