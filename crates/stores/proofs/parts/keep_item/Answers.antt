-- `stores::parts::keep_item` meets its contract: its row opens. Assumes nothing.
use Rattle.log_batch.specs.OpenLaws.{item-opened}
use lib.ListN.{drop}
use Prim.Native.Nat.{◌*◌}
use mathlib.Core.Path.{sym, ◌∙◌}
use Rattle.stores.proofs.parts.keep_item.Goals as goal

pub returns : goal.returns
returns c =
    let opens = sym c.open_item.ensures.value ∙ c.in-Ok.is in
    rw (item-opened c.args.entries.now c.args.bytes.now (drop (c.args.j * 9) c.args.items.now) _ opens) c.put_down.ensures
