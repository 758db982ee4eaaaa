-- `groups::undoing::restore_front` meets its contract. Assumes nothing.
use Rattle.groups.specs.Undo.{mark_at}
use mathlib.Core.Path.{refl}
use Rattle.groups.proofs.Restorings.{front-laid_back}
use Rattle.groups.proofs.undoing.restore_front.Goals as goal

pub returns : goal.returns
unfolding mark_at
returns c = front-laid_back c.args.k c.args.xs.now c.requires.k_bound.0 c.requires.k_bound.1 c.requires.xs_bound.0 c.requires.xs_bound.1 _ _ _ _ refl refl c.shift.ensures c.shift-2.ensures
