-- `queries::places::key_count_at` meets its contract. Assumes nothing.
use Rattle.queries.proofs.Parts.{count_at}
use Rattle.queries.proofs.places.key_count_at.Goals as goal

pub returns : goal.returns
returns c = count_at c.args.k c.args.xs.now
