-- `stores::read::item_at` meets its contract: a row of a store is not refused. Assumes nothing.
use Rattle.stores.specs.StoreLaws.{stored_row, stored-not-refused, stored-item}
use mathlib.Core.Path.{sym, ◌∙◌}
use Rattle.stores.proofs.read.item_at.Goals as goal

pub open_item-requires : goal.open_item-requires
open_item-requires c = stored_row _ _ c.requires.stored c.args.j c.requires.j_bound

pub returns : goal.returns
returns c = stored-item _ _ c.requires.stored c.args.j c.requires.j_bound _ (sym c.open_item.ensures.value ∙ c.in-Ok.is)

pub unreachable-requires : goal.unreachable-requires
unreachable-requires c =
    absurd (stored-not-refused _ _ c.requires.stored c.args.j c.requires.j_bound _ (sym c.open_item.ensures.value ∙ c.in_default.is))
