-- `stores::shift::put_down` meets its contract. Assumes nothing.
use Rattle.stores.proofs.AddLaws.{room-is, row_fits, added_by}
use Rattle.stores.specs.Stores.{area}
use Rattle.stores.specs.Written.{count_of}
use Prim.Native.Nat.{◌+◌}
use Rattle.stores.proofs.shift.put_down.Goals as goal

pub write_row-requires-clause-i_in_bounds : goal.write_row-requires-clause-i_in_bounds
write_row-requires-clause-i_in_bounds c =
    let parts = area c.args.items.now c.args.entries.now c.args.bytes.now in
    row_fits c.args.store parts c.requires.stored (count_of c.args.item.content) (room-is _ _ _ _ c.requires.entries_value)

pub returns : goal.returns
returns c =
    let parts = area c.args.items.now c.args.entries.now c.args.bytes.now in
    added_by c.args.store parts c.args.item c.args.entries.now c.args.bytes.now c.requires.stored c.requires.lent (room-is _ _ _ _ c.requires.entries_value) _ _
    (λ i. record { items = c.args.store.items + 1; entries = c.move_rows-end.ensures.value i })
    (λ i. record { items = c.write_row.ensures i; entries = c.move_rows-end.ensures.entries_after i; bytes = c.move_bytes.ensures i })
