-- `parts::takings::take_parts` meets its contract. Assumes nothing.
use lib.ListN.{length}
use Rattle.room.specs.Layout.{waiting_of}
use Rattle.parts.specs.Walks.{beyond_of}
use Rattle.parts.proofs.TakingWays.{Taking}
use Rattle.parts.proofs.takings.take_parts.Given as goal

abbrev pub invariant-loop-k : goal.invariant-loop-k
invariant-loop-k l = Taking l.bound l.us l.ds l.initial.ws l.initial.vs l.ws l.vs

abbrev pub decreases-loop-k : goal.decreases-loop-k
decreases-loop-k l = length (beyond_of l.bound (waiting_of l.us l.ds))
