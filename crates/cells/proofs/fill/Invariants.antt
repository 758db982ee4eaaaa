-- `cells::fill` meets its contract: after i turns i places are written. Assumes nothing.
use mathlib.Core.Path.{◌≡◌}
use lib.ListN.{replicate}
use Rattle.cells.specs.Part.{put}
use Rattle.cells.proofs.fill.Given as goal

abbrev pub invariant-loop-place : goal.invariant-loop-place
invariant-loop-place g l = l.place-items ≡ put l.initial.place-items 0 (replicate l.place-index l.value)
