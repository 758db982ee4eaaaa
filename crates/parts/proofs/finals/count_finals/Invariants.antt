-- `parts::finals::count_finals` meets its contract. Assumes nothing.
use lib.ListN.{length}
use Rattle.room.specs.Layout.{waiting_of}
use Rattle.parts.specs.Walks.{beyond_of}
use Rattle.parts.proofs.FinalWays.{Counting}
use Rattle.parts.proofs.finals.count_finals.Given as goal

abbrev pub invariant-loop-k : goal.invariant-loop-k
invariant-loop-k l = Counting l.count l.bound l.ws l.vs l.us l.ds

abbrev pub decreases-loop-k : goal.decreases-loop-k
decreases-loop-k l = length (beyond_of l.bound (waiting_of l.us l.ds))
