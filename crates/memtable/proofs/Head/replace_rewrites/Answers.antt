-- `memtable::Head::replace_rewrites` meets its contract. Assumes nothing.
use Rattle.memtable.proofs.RewriteWays.{overlap-ungated}
use Rattle.memtable.proofs.Head.replace_rewrites.Goals as goal

pub returns : goal.returns
returns c = overlap-ungated _ _ _ _ c.requires.wf c.requires.lent _ _ _ c.requires.overlap _ _ _ c.min-count.ensures c.lay_replaced.ensures
