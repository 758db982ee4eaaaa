-- `writes::stored::holds_any` meets its contract. Assumes nothing.
use mathlib.Core.Path.{refl, sym, ◌∙◌}
use Rattle.writes.specs.StoredLaws.{any_here, any-past, any_none}
use Rattle.writes.proofs.StoredWays.{below}
use Rattle.writes.proofs.stored.holds_any.Goals as goal

pub stored_count-n-requires : goal.stored_count-n-requires
stored_count-n-requires c = c.requires.0

pub loop-j-init : goal.loop-j-init
loop-j-init c = λ bs w. refl

pub stored_tag-requires : goal.stored_tag-requires
stored_tag-requires c = (c.requires.0, below _ _ _ c.requires.1 (rw c.stored_count-n.ensures at c.loop-j-test.true))

pub returns-then-stored_tag-tag : goal.returns-then-stored_tag-tag
returns-then-stored_tag-tag c =
    λ bs w. any_here _ _ bs w _ (c.loop-j.invariant bs w) (rw c.stored_count-n.ensures at c.loop-j-test.true) ((c.stored_tag.ensures bs (rw c.stored_count-n.ensures at c.loop-j-test.true)).is _ ∙ c.if-stored_tag-tag.true)

pub loop-j-preserved : goal.loop-j-preserved
loop-j-preserved c =
    λ bs w. any-past _ _ bs w _ (c.loop-j.invariant bs w) (rw c.stored_count-n.ensures at c.loop-j-test.true) (λ e. c.if-stored_tag-tag.false (sym ((c.stored_tag.ensures bs (rw c.stored_count-n.ensures at c.loop-j-test.true)).is _) ∙ e))

pub returns : goal.returns
returns c = λ bs w. any_none _ _ bs w _ (c.loop-j.invariant bs w) (rw c.stored_count-n.ensures at c.loop-j-test.false)
