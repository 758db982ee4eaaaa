-- `memtable::Head::last_index` meets its contract. Assumes nothing.
use Rattle.memtable.proofs.QueryWays.{last-absent, last_at}
use Rattle.memtable.proofs.Head.last_index.Goals as goal

pub returns-then-len-eq0 : goal.returns-then-len-eq0
returns-then-len-eq0 c = last-absent c.args.self c.if-len-eq0.true

pub returns : goal.returns
returns c = last_at c.args.self c.if-len-eq0.false
