-- `memtable::Head::rewrite` meets its contract. Assumes nothing.
use native.Mathlib.Omega.{arith}
use Rattle.memtable.proofs.RewriteWays.{rewrite_above, rewrite_below, rewrite-left}
use Rattle.memtable.proofs.Head.rewrite.Goals as goal

pub returns-then-self-pos : goal.returns-then-self-pos
returns-then-self-pos c = let e = c.saturating_sub-pos.ensures in rewrite_above _ _ _ _ _ c.requires.wf (omega arith)

pub returns-then-rows-skip : goal.returns-then-rows-skip
returns-then-rows-skip c = let e = c.saturating_sub-skip.ensures in rewrite_below _ _ _ _ _ c.requires.wf (omega arith)

pub returns-then-self-pos-2 : goal.returns-then-self-pos-2
returns-then-self-pos-2 c = let e = c.saturating_sub-pos.ensures in let d = c.saturating_sub-skip.ensures in rewrite-left _ _ _ _ _ c.requires.wf (omega arith) (omega arith) (omega arith)
