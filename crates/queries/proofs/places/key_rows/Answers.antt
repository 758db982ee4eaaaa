-- `queries::places::key_rows` meets its contract. Assumes nothing.
use Rattle.queries.proofs.Parts.{lent-keys}
use Rattle.queries.proofs.places.key_rows.Goals as goal

pub returns : goal.returns
returns c = lent-keys c.args.k c.args.xs.now
