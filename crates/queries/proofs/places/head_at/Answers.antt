-- `queries::places::head_at` meets its contract. Assumes nothing.
use Rattle.queries.proofs.Parts.{lent-head}
use Rattle.queries.proofs.places.head_at.Goals as goal

pub returns : goal.returns
returns c = lent-head c.args.k c.args.xs.now _ c.head_in.ensures
