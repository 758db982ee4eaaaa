-- `memtable::Head::replace_before` meets its contract. Assumes nothing.
use Rattle.memtable.proofs.RewriteWays.{overlap-met, overlap_gated}
use Rattle.memtable.proofs.Head.replace_before.Goals as goal

pub returns-then-pos-self : goal.returns-then-pos-self
returns-then-pos-self c = overlap-met _ _ _ _ c.requires.wf c.requires.lent _ _ _ c.requires.overlap _ c.if-pos-self.true

pub returns : goal.returns
returns c = overlap_gated _ _ _ _ c.requires.wf c.requires.lent _ _ _ c.requires.overlap _ _ _ _ c.if-pos-self.false c.copy_before-count.ensures c.replaced_to.ensures
