-- `parts::keeps::keep_finals` meets its contract. Assumes nothing.
use lib.ListN.{length}
use Rattle.room.specs.Layout.{waiting_of}
use Rattle.parts.specs.Walks.{beyond_of}
use Rattle.parts.proofs.KeepWays.{KeepingAll}
use Rattle.parts.proofs.keeps.keep_finals.Given as goal

abbrev pub invariant-loop-k : goal.invariant-loop-k
invariant-loop-k l = KeepingAll l.bound l.ws l.vs l.us l.ds l.initial.ys l.initial.cs l.ys l.cs

abbrev pub decreases-loop-k : goal.decreases-loop-k
decreases-loop-k l = length (beyond_of l.bound (waiting_of l.us l.ds))
