-- `parts::finals::count_finals` meets its contract. Assumes nothing.
use Rattle.parts.proofs.FinalWays.{counting_none, counted_all, counted_more}
use Rattle.parts.proofs.finals.count_finals.Goals as goal

pub loop-k-init : goal.loop-k-init
loop-k-init c = counting_none _ _ _ _ c.requires.room_wf_2

pub loop-k-preserved : goal.loop-k-preserved
loop-k-preserved c =
    counted_more _ _ _ _ c.requires.room_wf_2 _ _ c.loop-k.invariant _ c.in-Some.ensures _ c.group_at-group.ensures _ c.count_group-count.ensures.value c.count_group-count.ensures.upper_bound

pub returns-clause-value : goal.returns-clause-value
returns-clause-value c = (counted_all _ _ _ _ c.requires.room_wf_2 _ _ c.loop-k.invariant c.in_default.ensures).0
