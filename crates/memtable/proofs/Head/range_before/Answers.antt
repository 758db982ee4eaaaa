-- `memtable::Head::range_before` meets its contract. Assumes nothing.
use Rattle.memtable.proofs.FetchWays.{range-before}
use Rattle.memtable.proofs.Head.range_before.Goals as goal

pub returns : goal.returns
returns c = range-before _ _ c.requires _ _ c.count_before.ensures.0 c.count_before.ensures.1
