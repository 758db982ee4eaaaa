-- `stores::parts::push_tagged` meets its contract. Assumes nothing.
use Rattle.stores.specs.CountLaws.{added-place, pushed-tagged}
use Rattle.stores.specs.Stores.{area}
use Rattle.log_batch.specs.Lent.{item_of}
use lib.ListN.{length}
use mathlib.Core.Path.{refl}
use Rattle.stores.proofs.parts.push_tagged.Goals as goal

pub returns : goal.returns
returns c =
    let parts = area c.args.items.now c.args.entries.now c.args.bytes.now in
    let its = item_of c.args.item c.args.its_entries.now c.args.its_bytes.now in
    let added = c.in_ok-all.ensures in
    let place = added-place c.args.store parts its _ _ (length c.args.tags.now) added c.requires.in_bounds in
    record {
      added = added;
      tags = refl;
      items = pushed-tagged c.args.store parts its _ _ c.args.tags.now c.args.tag c.requires.stored place added;
    }
