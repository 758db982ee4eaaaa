-- `writes::stored::stored_count` meets its contract. Assumes nothing.
use Rattle.writes.proofs.StoredWays.{count-is}
use Rattle.writes.proofs.stored.stored_count.Goals as goal

pub returns : goal.returns
returns c = count-is c.args.xs.now
