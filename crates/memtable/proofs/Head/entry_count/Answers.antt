-- `memtable::Head::entry_count` meets its contract. Assumes nothing.
use Rattle.memtable.proofs.QueryWays.{append-entries, rewrite-entries}
use Rattle.memtable.proofs.Head.entry_count.Goals as goal

pub returns-in-Append : goal.returns-in-Append
returns-in-Append c = rw c.in-Append.is (append-entries _)

pub returns-in-Rewrite : goal.returns-in-Rewrite
returns-in-Rewrite c = rw c.in-Rewrite.is (rewrite-entries _)
