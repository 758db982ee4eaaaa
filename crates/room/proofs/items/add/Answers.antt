-- `room::items::add` meets its contract. Assumes nothing.
use Rattle.room.proofs.Adding.{added-in}
use Rattle.room.proofs.items.add.Goals as goal

pub returns : goal.returns
returns c =
    let n = c.args.cells in
    added-in n c.args.ws.now c.args.vs.now c.requires.ws_len.0 c.requires.ws_len.1 c.args.store c.args.item c.args.its_entries.now c.args.its_bytes.now c.requires.stored c.requires.lent c.requires.store_bound.0 c.requires.store_bound.1 _ _ _ _ c.write_row.ensures c.copy_bytes.ensures c.copy_rows-end.ensures.value c.args.tag c.copy_rows-end.ensures.ws_after
