-- `queries::keys::get_at` meets its contract. Assumes nothing.
use Rattle.groups.specs.Area.{stretch_at, bytes_at}
use Rattle.queries.proofs.Ways.{got-there}
use Rattle.queries.proofs.keys.get_at.Goals as goal

pub new-keys-requires : goal.new-keys-requires
new-keys-requires c = rw (c.key_count_at.ensures, c.key_rows.ensures, c.key_bytes.ensures) c.requires.wf.keys

pub returns : goal.returns
returns c = got-there (stretch_at c.args.k c.args.xs.now) (bytes_at c.args.k c.args.bs.now) c.key_count_at.ensures c.key_rows.ensures c.key_bytes.ensures _ _ (rw c.new-keys.ensures at c.get.ensures)
