-- `memtable::Head::range_rewritten` meets its contract. Assumes nothing.
use Rattle.memtable.proofs.FetchWays.{range-rewritten}
use Rattle.memtable.proofs.Head.range_rewritten.Goals as goal

pub returns : goal.returns
returns c = λ xs w. range-rewritten _ xs w
