-- `memtable::rows::entry_at` meets its contract. Assumes nothing.
use Rattle.memtable.proofs.QueryWays.{entry-is}
use Rattle.memtable.proofs.rows.entry_at.Goals as goal

pub returns : goal.returns
returns c = entry-is _ _ _ _ _ c.requires.any_row c.from-queue.ensures c.compression_at-compression_type.ensures
