-- `memtable::Head::rewrite_count` meets its contract. Assumes nothing.
use Rattle.memtable.proofs.QueryWays.{rewrite-count}
use Rattle.memtable.proofs.Head.rewrite_count.Goals as goal

pub returns : goal.returns
returns c = rewrite-count _
