-- `memtable::Head::prepare_append` meets its contract. Assumes nothing.
use Rattle.memtable.proofs.AppendWays.{prepare_empty, prepare_overwrite, prepare_below, prepare-hole, prepare_above, prepare-within}
use Rattle.memtable.proofs.Head.prepare_append.Goals as goal

pub returns-then-len-eq0 : goal.returns-then-len-eq0
returns-then-len-eq0 c = prepare_empty _ _ _ _ c.if-len-eq0.true

pub returns-then-overwrite : goal.returns-then-overwrite
returns-then-overwrite c = prepare_overwrite _ _ _ _ c.if-len-eq0.false c.if-first-start.true c.if-overwrite.true

pub returns-then-first-start : goal.returns-then-first-start
returns-then-first-start c = prepare_below _ _ _ _ c.if-len-eq0.false c.if-first-start.true c.if-overwrite.false

pub returns-then-hole : goal.returns-then-hole
returns-then-hole c = prepare-hole _ _ _ _ c.if-len-eq0.false c.if-first-start.false c.if-start-len.true c.if-hole.true

pub returns-then-start-len : goal.returns-then-start-len
returns-then-start-len c = prepare_above _ _ _ _ c.if-len-eq0.false c.if-first-start.false c.if-start-len.true c.if-hole.false

pub returns : goal.returns
returns c = prepare-within _ _ _ _ c.if-len-eq0.false c.if-first-start.false c.if-start-len.false
