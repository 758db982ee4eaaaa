-- `key_lists::copies::copy_chosen` meets its contract: what is written and the rows that are left give the whole. Assumes nothing.
use mathlib.Core.Path.{refl, ◌∙◌}
use Rattle.key_lists.proofs.Answers.{copying-none, copying-more, lens_done, bytes-done}
use Rattle.key_lists.proofs.copies.copy_chosen.Goals as goal

pub loop-s-init : goal.loop-s-init
loop-s-init c = (refl, refl, copying-none _ _ _ _ _ _)

pub loop-s-preserved : goal.loop-s-preserved
loop-s-preserved c = (
  c.copy_if-j.auto.lens ∙ c.loop-s.invariant.0,
  c.copy_if-j.auto.out ∙ c.loop-s.invariant.1,
  copying-more _ _ _ _ _ _ c.loop-s.s c.loop-s.j _ c.loop-s.lens c.loop-s.out c.loop-s.invariant.2 (rw c.len-n.ensures.value at c.loop-s-test.true) (rw c.len-n.ensures.value at c.place_of-i.ensures.value) _ _ _ c.copy_if-j.ensures,
)

pub returns : goal.returns
returns c = record { lens_after = lens_done _ _ _ _ _ _ _ _ _ _ c.loop-s.invariant.2 (rw c.len-n.ensures.value at c.loop-s-test.false); out_after = bytes-done _ _ _ _ _ _ _ _ _ _ c.loop-s.invariant.2 (rw c.len-n.ensures.value at c.loop-s-test.false) }
