-- `stores::append::add_all` meets its contract: the first j items are added. Assumes nothing.
use Rattle.stores.proofs.AppendLaws.{adding-start, adding-room, adding-next}
use Rattle.stores.specs.Stores.{area, area_in}
use mathlib.Core.Path.{refl}
use Rattle.stores.proofs.append.add_all.Goals as goal

pub loop-j-init : goal.loop-j-init
loop-j-init c =
    let parts = area c.args.items.now c.args.entries.now c.args.bytes.now in
    let from = c.args.from.now in
    adding-start c.args.store parts from.counts.items (area_in from.parts) from.counts refl c.requires.stored c.requires.from_stored c.requires.from_in_bounds

pub add_item-all-requires-clause-entries_value : goal.add_item-all-requires-clause-entries_value
add_item-all-requires-clause-entries_value c =
    let parts = area c.args.items.now c.args.entries.now c.args.bytes.now in
    let from = c.args.from.now in
    adding-room c.args.store parts from.counts.items (area_in from.parts) c.loop-j.j c.loop-j.all (area c.loop-j.items c.loop-j.entries c.loop-j.bytes) c.loop-j.invariant c.loop-j-test.true

pub loop-j-preserved : goal.loop-j-preserved
loop-j-preserved c =
    let parts = area c.args.items.now c.args.entries.now c.args.bytes.now in
    let from = c.args.from.now in
    let test = c.loop-j-test.true in
    adding-next c.args.store parts from.counts.items (area_in from.parts) c.loop-j.j c.loop-j.all (area c.loop-j.items c.loop-j.entries c.loop-j.bytes) c.loop-j.invariant test _ _ c.add_item-all.ensures
