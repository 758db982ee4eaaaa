-- `parts::items::items_in` meets its contract. Assumes nothing.
use Rattle.parts.specs.ItemLaws.{lent-stored, lent-enough, lent-tagged, few-items}
use Rattle.parts.proofs.items.items_in.Goals as goal

pub returns : goal.returns
returns c =
    let w = c.requires in
    record { stored = record { stored = lent-stored _ _ w; enough = lent-enough _ _ w }; value = lent-tagged _ _ w; upper_bound = few-items _ _ w }
