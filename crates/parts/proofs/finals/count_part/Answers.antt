-- `parts::finals::count_part` meets its contract. Assumes nothing.
use Rattle.parts.proofs.finals.count_part.Goals as goal

pub returns-clause-value : goal.returns-clause-value
returns-clause-value c = rw c.items_in.ensures.value at c.count_tag.ensures.value
