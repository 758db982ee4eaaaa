-- `memtable::rewrite::copy_row` meets its contract. Assumes nothing.
use Rattle.memtable.proofs.RewriteWays.{row_copied}
use Rattle.memtable.proofs.rewrite.copy_row.Goals as goal

pub returns : goal.returns
returns c = row_copied c.args.part.now c.args.rows.now c.args.at c.args.from c.requires.0 c.requires.1
