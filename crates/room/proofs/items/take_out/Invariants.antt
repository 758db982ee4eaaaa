-- `room::items::take_out` meets its contract: the items passed that have other tags stand at the front. Assumes nothing.
use Rattle.room.proofs.Taking.{TakingIn}
use Rattle.room.proofs.items.take_out.Given as goal

abbrev pub invariant-loop-j : goal.invariant-loop-j
invariant-loop-j l = TakingIn l.cells l.fn.store.items l.tag l.j l.initial.ws l.initial.vs l.left l.ws l.vs
