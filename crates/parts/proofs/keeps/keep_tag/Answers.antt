-- `parts::keeps::keep_tag` meets its contract. Assumes nothing.
use Rattle.parts.proofs.KeepWays.{keeping_then, keeping_room, kept_tag}
use Rattle.parts.proofs.keeps.keep_tag.Goals as goal

pub loop-j-preserved : goal.loop-j-preserved
loop-j-preserved c =
    (keeping_then _ _ _ _ _ _ _ _ _ c.loop-j.invariant.0 c.keep_at.ensures, keeping_room _ _ _ _ _ _ c.loop-j.invariant.0.added.wf c.loop-j.invariant.1 c.keep_at.ensures)

pub returns : goal.returns
returns c = kept_tag _ _ _ c.requires.stored.stored c.requires.stored.enough _ _ _ _ _ _ c.loop-j-test.false c.loop-j.invariant.0
