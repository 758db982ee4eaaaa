-- `memtable::Head::range_to` meets its contract. Assumes nothing.
use Rattle.memtable.proofs.FetchWays.{range_empty, range_none, range-compacted, range_above, range_all, range-sized}
use Rattle.memtable.proofs.Head.range_to.Goals as goal

pub returns-then-end-begin : goal.returns-then-end-begin
returns-then-end-begin c = range_empty _ _ _ _ c.args.max_size c.if-end-begin.true

pub returns-then-entries-eq0 : goal.returns-then-entries-eq0
returns-then-entries-eq0 c = range_none _ _ _ _ c.args.max_size c.if-end-begin.false c.if-entries-eq0.true

pub returns-then-begin-first : goal.returns-then-begin-first
returns-then-begin-first c = range-compacted _ _ _ _ c.args.max_size c.if-end-begin.false c.if-entries-eq0.false c.if-begin-first.true

pub returns-then-first-entries : goal.returns-then-first-entries
returns-then-first-entries c = range_above _ _ _ _ c.args.max_size c.if-end-begin.false c.if-entries-eq0.false c.if-begin-first.false c.if-first-entries.true

pub returns-in-None : goal.returns-in-None
returns-in-None c = range_all _ _ _ _ _ c.if-end-begin.false c.if-entries-eq0.false c.if-begin-first.false c.if-first-entries.false c.in-None.is

pub returns-in-Some : goal.returns-in-Some
returns-in-Some c = range-sized _ _ _ _ _ c.if-end-begin.false c.if-entries-eq0.false c.if-begin-first.false _ _ c.if-first-entries.false c.in-Some.is c.count_to_size.ensures.0 c.count_to_size.ensures.1
