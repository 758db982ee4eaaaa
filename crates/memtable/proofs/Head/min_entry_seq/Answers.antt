-- `memtable::Head::min_entry_seq` meets its contract. Assumes nothing.
use Rattle.memtable.proofs.QueryWays.{front-append-none, front-append, front-rewrite-none, front-rewrite}
use Rattle.memtable.proofs.Head.min_entry_seq.Goals as goal

pub returns-then-self-count : goal.returns-then-self-count
returns-then-self-count c = rw c.in-Append.is (front-append-none _ _ c.requires c.if-self-count.true)

pub returns-then-count-eq0 : goal.returns-then-count-eq0
returns-then-count-eq0 c = rw c.in-Rewrite.is (front-rewrite-none _ _ c.requires c.if-count-eq0.true)

pub returns-else-self-count : goal.returns-else-self-count
returns-else-self-count c = rw c.in-Append.is (front-append _ _ c.requires c.if-self-count.false)

pub returns-else-count-eq0 : goal.returns-else-count-eq0
returns-else-count-eq0 c = rw c.in-Rewrite.is (front-rewrite _ _ c.requires c.if-count-eq0.false)
