-- `kvs::merge::lay_over` meets its contract: the rest laid over what is there gives the whole. Assumes nothing.
use mathlib.Core.Path.{◌∙◌}
use native.Mathlib.Omega.{arith}
use Rattle.kvs.proofs.Merges.{laying_all, laying_more}
use Rattle.kvs.proofs.merge.lay_over.Goals as goal

pub loop-j-preserved : goal.loop-j-preserved
loop-j-preserved c =
    let within = c.len-m.ensures.value in
    (c.put_pair.auto.rows ∙ c.loop-j.invariant.0, c.put_pair.auto.bytes ∙ c.loop-j.invariant.1, laying_more _ _ _ _ c.loop-j.j (omega arith) c.loop-j.count c.loop-j.rows c.loop-j.bytes c.loop-j.invariant.2 c.requires.bytes_value c.loop-j.invariant.0 c.loop-j.invariant.1 c.put_pair.result _ _ c.put_pair.ensures _ c.unwrap-count.ensures)

pub returns : goal.returns
returns c = laying_all _ _ _ _ c.loop-j.j _ _ _ (omega (arith, c.len-m.ensures.value)) c.loop-j.invariant.2
