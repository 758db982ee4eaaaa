-- `writes::stored::copy_stored` meets its contract. Assumes nothing.
use Rattle.cells.specs.Part.{part}
use Rattle.writes.proofs.StoredWays.{lent-room, lent-count}
use Rattle.writes.proofs.stored.copy_stored.Goals as goal

pub copy_item-requires : goal.copy_item-requires
copy_item-requires c = record { context_room = lent-room _ _ c.requires.formed; j_bound = lent-count c.args.xs.now _ c.requires.j_bound; es_len = c.requires.rows_len }

pub returns : goal.returns
unfolding part
returns c = c.copy_item.ensures
