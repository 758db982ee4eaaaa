-- `memtable::Head::merge_append_table` meets its contract. Assumes nothing.
use Rattle.memtable.proofs.AppendWays.{laying_by, by-replay}
use Rattle.memtable.proofs.Head.merge_append_table.Goals as goal

pub returns : goal.returns
returns c = laying_by (λ keys counted. by-replay _ _) c.lay.ensures
