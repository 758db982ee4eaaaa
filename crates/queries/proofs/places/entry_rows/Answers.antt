-- `queries::places::entry_rows` meets its contract. Assumes nothing.
use Rattle.queries.proofs.Parts.{lent-entries}
use Rattle.queries.proofs.places.entry_rows.Goals as goal

pub returns : goal.returns
returns c = lent-entries c.args.k c.args.xs.now
