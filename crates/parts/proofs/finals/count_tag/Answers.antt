-- `parts::finals::count_tag` meets its contract. Assumes nothing.
use Rattle.parts.proofs.FinalWays.{count_end}
use Rattle.parts.proofs.finals.count_tag.Goals as goal

pub returns-clause-value : goal.returns-clause-value
returns-clause-value c =
    count_end _ _ _ c.requires.stored.stored c.requires.stored.enough _ _ _ _ c.loop-j-test.false c.loop-j.invariant.1
