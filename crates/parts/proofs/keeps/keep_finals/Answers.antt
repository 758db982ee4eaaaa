-- `parts::keeps::keep_finals` meets its contract. Assumes nothing.
use Rattle.parts.proofs.KeepWays.{group_fits, kept_all}
use Rattle.parts.proofs.keeps.keep_finals.Goals as goal

pub keep_group-requires-clause-ds_bound : goal.keep_group-requires-clause-ds_bound
keep_group-requires-clause-ds_bound c =
    group_fits _ _ _ _ c.requires.room_wf_2 _ _ c.requires.wf _ _ _ c.loop-k.invariant _ c.in-Some.ensures _ c.group_at-group.ensures

pub returns : goal.returns
returns c = kept_all _ _ _ _ c.requires.room_wf_2 _ _ c.requires.wf _ _ _ c.loop-k.invariant c.in_default.ensures
