-- `waiting::limits::count_used` meets its contract. Assumes nothing.
use Rattle.waiting.proofs.Limiting.{using_more}
use Rattle.waiting.proofs.limits.count_used.Goals as goal

pub loop-k-preserved : goal.loop-k-preserved
loop-k-preserved c = using_more _ _ _ _ _ c.loop-k-test.true c.used_at-used.ensures.value c.used_at-used.ensures.upper_bound c.loop-k.invariant
