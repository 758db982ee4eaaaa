-- `worktable::moves::unload` meets its contract. Assumes nothing.
use mathlib.Core.Path.{refl}
use Rattle.worktable.proofs.MoveWays.{unloaded}
use Rattle.worktable.proofs.moves.unload.Goals as goal

pub returns : goal.returns
returns c =
    unloaded c.args.k c.args.group c.args.xs.now c.args.bs.now c.requires.k_bound.0 c.requires.k_bound.1 c.requires.k_bound.2 c.requires.fitting _ _ _ _ _ refl refl c.shift.ensures c.shift-2.ensures c.shift-3.ensures
