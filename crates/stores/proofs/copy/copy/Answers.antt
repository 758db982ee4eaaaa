-- `stores::copy::copy` meets its contract. Assumes nothing.
use Rattle.stores.proofs.CopyLaws.{copied}
use Rattle.stores.specs.Stores.{area, area_in}
use Rattle.stores.proofs.copy.copy.Goals as goal

pub returns : goal.returns
returns c =
    let from = c.args.from.now in
    let to = area c.args.to_items.now c.args.to_entries.now c.args.to_bytes.now in
    copied from.counts (area_in from.parts) to _ c.requires.stored c.requires.fitting c.copy_in.ensures c.copy_in-2.ensures c.copy_in-3.ensures
