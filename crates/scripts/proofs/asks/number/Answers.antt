-- The number that a row asks for.
use Rattle.std.proofs.Common.{arith}
use Rattle.std.proofs.lemmas.Grind.{common_steps}
use Rattle.scripts.proofs.asks.number.Goals as goal

pub returns-in_default : goal.returns-in_default
returns-in_default c = rw (← c.from.ensures) (grind (arith, common_steps))
