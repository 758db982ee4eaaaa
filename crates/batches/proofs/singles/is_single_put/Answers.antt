-- `batches::singles::is_single_put` meets its contract. Assumes nothing.
use Rattle.maps.specs.BoolLaws.{clash}
use Rattle.batches.proofs.singles.is_single_put.Goals as goal

pub returns-then-items-ne-ITEM_WIDTH : goal.returns-then-items-ne-ITEM_WIDTH
returns-then-items-ne-ITEM_WIDTH c = λ entries e. absurd (clash e)

pub returns-then-items-ne-PUT : goal.returns-then-items-ne-PUT
returns-then-items-ne-PUT c = λ entries e. absurd (clash e)

pub is_plain_put-requires : goal.is_plain_put-requires
is_plain_put-requires c = (c.if-items-ne-ITEM_WIDTH.false, c.if-items-ne-PUT.false)

pub returns : goal.returns
returns c = c.is_plain_put.ensures
