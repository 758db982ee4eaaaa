-- `memtable::Head::first_index` meets its contract. Assumes nothing.
use Rattle.memtable.proofs.QueryWays.{first_absent, first_at}
use Rattle.memtable.proofs.Head.first_index.Goals as goal

pub returns-then-self-eq0 : goal.returns-then-self-eq0
returns-then-self-eq0 c = first_absent c.args.self c.if-self-eq0.true

pub returns : goal.returns
returns c = first_at c.args.self c.if-self-eq0.false
