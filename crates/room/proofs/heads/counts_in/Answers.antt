-- `room::heads::counts_in` meets its contract. Assumes nothing.
use Rattle.room.specs.Layout.{store_of}
use mathlib.Core.Path.{refl}
use Rattle.room.proofs.heads.counts_in.Goals as goal

pub returns : goal.returns
unfolding store_of
returns c = refl
