-- `queries::places::key_bytes` meets its contract. Assumes nothing.
use Rattle.queries.proofs.Parts.{lent-bytes}
use Rattle.queries.proofs.places.key_bytes.Goals as goal

pub returns : goal.returns
returns c = lent-bytes c.args.k c.args.bs.now
