-- `stores::add::add` meets its contract. Assumes nothing.
use Rattle.stores.proofs.AddLaws.{room-is, added_by}
use Rattle.stores.specs.Stores.{area}
use Prim.Native.Nat.{◌+◌}
use Rattle.stores.proofs.add.add.Goals as goal

pub returns : goal.returns
returns c =
    let parts = area c.args.items.now c.args.entries.now c.args.bytes.now in
    added_by c.args.store parts c.args.item c.args.its_entries.now c.args.its_bytes.now c.requires.stored c.requires.lent (room-is _ _ _ _ c.requires.entries_value) _ _
    (λ i. record { items = c.args.store.items + 1; entries = c.copy_rows-end.ensures.value i })
    (λ i. record { items = c.write_row.ensures i; entries = c.copy_rows-end.ensures.entries_after i; bytes = c.copy_bytes.ensures i })
