-- `memtable::Head::compact_to` meets its contract. Assumes nothing.
use Rattle.memtable.proofs.CompactWays.{compact-none, compact-some}
use Rattle.memtable.proofs.Head.compact_to.Goals as goal

pub returns-then-index-first : goal.returns-then-index-first
returns-then-index-first c = compact-none _ _ _ c.requires c.if-index-first.true

pub returns : goal.returns
returns c = compact-some _ _ _ c.requires _ _ c.min-count.ensures c.min-gone.ensures _ c.shift.ensures
