-- `staging::finishes::any_item` meets its contract. Assumes nothing.
use Rattle.staging.proofs.FinishingWays.{any_back}
use Rattle.staging.proofs.finishes.any_item.Goals as goal

pub returns-else-has_items : goal.returns-else-has_items
returns-else-has_items c = any_back _ _ _ _ _ c.if-has_items.false c.has_items.ensures c.has_items-else-has_items.ensures
