-- `memtable::Head::append` meets its contract. Assumes nothing.
use Rattle.memtable.proofs.AppendWays.{laying_by, by_append}
use Rattle.memtable.proofs.Head.append.Goals as goal

pub returns : goal.returns
returns c = laying_by (λ keys counted. by_append c.args.live _ _) c.lay.ensures
