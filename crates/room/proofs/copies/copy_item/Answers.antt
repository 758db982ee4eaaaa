-- `room::copies::copy_item` meets its contract. Assumes nothing.
use Rattle.room.proofs.Copying.{below-count, copied-few, copied_lent, copied}
use native.Mathlib.Omega.{arith}
use Rattle.room.proofs.copies.copy_item.Goals as goal

pub item_in-item-requires-clause-j_bound : goal.item_in-item-requires-clause-j_bound
item_in-item-requires-clause-j_bound c =
    below-count c.args.ws.now c.args.j c.requires.j_bound

pub copy_entries-requires-clause-rows_within : goal.copy_entries-requires-clause-rows_within
copy_entries-requires-clause-rows_within c =
    (copied_lent c.args.ws.now c.args.vs.now c.requires.context_room c.args.j (below-count c.args.ws.now c.args.j c.requires.j_bound) _ c.item_in-item.ensures).within.rows

pub copy_entries-requires-clause-content_in_bounds : goal.copy_entries-requires-clause-content_in_bounds
copy_entries-requires-clause-content_in_bounds c =
    let few = copied-few c.args.ws.now c.args.vs.now c.requires.context_room c.args.j (below-count c.args.ws.now c.args.j c.requires.j_bound) _ c.item_in-item.ensures in
    let e = c.requires.es_len.0 in omega arith

pub copy_bytes-requires-clause-bytes_within : goal.copy_bytes-requires-clause-bytes_within
copy_bytes-requires-clause-bytes_within c =
    let lent = copied_lent c.args.ws.now c.args.vs.now c.requires.context_room c.args.j (below-count c.args.ws.now c.args.j c.requires.j_bound) _ c.item_in-item.ensures in lent.within.places

pub returns : goal.returns
returns c =
    copied c.args.ws.now c.args.vs.now c.requires.context_room c.args.j (below-count c.args.ws.now c.args.j c.requires.j_bound) _ c.item_in-item.ensures c.args.es.now c.args.bs.now _ _ c.requires.es_len.0 c.requires.es_len.1 c.copy_entries.ensures c.copy_bytes.ensures _ c.placed_item.ensures
