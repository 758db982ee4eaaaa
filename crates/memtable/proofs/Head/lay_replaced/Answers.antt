-- `memtable::Head::lay_replaced` meets its contract. Assumes nothing.
use Rattle.memtable.proofs.RewriteWays.{lay_done}
use Rattle.memtable.proofs.Head.lay_replaced.Goals as goal

pub returns : goal.returns
returns c = lay_done _ _ _ _ c.args.skip _ _ c.copy_in.ensures _ c.replaced_to.ensures
