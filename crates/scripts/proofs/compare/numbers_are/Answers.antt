-- Numbers that stand at the front of the stored ones from their place on.
use Rattle.scripts.proofs.Agreeing.{prefix_agrees}
use Rattle.scripts.proofs.compare.numbers_are.Goals as goal

pub returns : goal.returns
returns c = let l = c.in-Some.ensures.lookup.0 in prefix_agrees _ _ _ _ _ l.0 l.2 c.starts_with.ensures.value
