-- `memtable::Head::has_at_least_some_entries_before` meets its contract. Assumes nothing.
use Rattle.memtable.proofs.QueryWays.{some_bad, some-short, some_is}
use Rattle.memtable.proofs.Head.has_at_least_some_entries_before.Goals as goal

pub returns-then-count-eq0 : goal.returns-then-count-eq0
returns-then-count-eq0 c = some_bad _ _ c.requires _ _ c.if-count-eq0.true

pub returns-then-self-count : goal.returns-then-self-count
returns-then-self-count c = some-short _ _ c.requires _ _ c.if-count-eq0.false c.if-self-count.true

pub returns : goal.returns
returns c = some_is _ _ c.requires _ _ c.if-count-eq0.false c.if-self-count.false
