-- `room::rooms::clear` meets its contract: the cells passed are cleared. Assumes nothing.
use Rattle.room.proofs.Clearing.{Cleared}
use Rattle.room.proofs.rooms.clear.Given as goal

abbrev pub invariant-loop-k : goal.invariant-loop-k
invariant-loop-k l = Cleared l.k l.cells l.ws
