-- `writes::finish::head_number` meets its contract. Assumes nothing.
use Rattle.writes.proofs.FinishWays.{head-is}
use Rattle.writes.proofs.finish.head_number.Goals as goal

pub returns : goal.returns
returns c = λ vs. head-is c.args.xs.now vs c.args.k c.args.i c.requires.1 c.requires.2
