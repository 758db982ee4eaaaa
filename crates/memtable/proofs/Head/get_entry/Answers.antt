-- `memtable::Head::get_entry` meets its contract. Assumes nothing.
use Rattle.memtable.proofs.QueryWays.{get_below, get_above, get_at}
use Rattle.memtable.proofs.Head.get_entry.Goals as goal

pub returns-then-index-first : goal.returns-then-index-first
returns-then-index-first c = get_below _ _ c.requires _ c.if-index-first.true

pub returns-then-self-at : goal.returns-then-self-at
returns-then-self-at c = get_above _ _ c.requires _ c.if-index-first.false c.if-self-at.true

pub returns : goal.returns
returns c = get_at _ _ c.requires _ _ c.if-index-first.false c.if-self-at.false c.entry_at.ensures
