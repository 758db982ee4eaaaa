-- `stores::append::add_item` meets its contract. Assumes nothing.
use Rattle.stores.specs.StoreLaws.{opened-entries}
use Rattle.log_batch.specs.OpenLaws.{item-opened}
use lib.ListN.{drop}
use Prim.Native.Nat.{◌*◌}
use Rattle.stores.proofs.append.add_item.Goals as goal

pub add-requires-clause-entries_value : goal.add-requires-clause-entries_value
add-requires-clause-entries_value c =
    let parts = c.args.from.now.parts in
    let r = c.item_at-item.ensures in
    let e = opened-entries (drop (c.args.j * 9) parts.items.now) c.item_at-item.result _ _ r.opens in rw e at c.requires.entries_value

pub returns : goal.returns
returns c =
    let parts = c.args.from.now.parts in
    rw (item-opened parts.entries.now parts.bytes.now (drop (c.args.j * 9) parts.items.now) c.item_at-item.result c.item_at-item.ensures.opens) c.add.ensures
