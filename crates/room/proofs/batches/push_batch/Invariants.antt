-- `room::batches::push_batch` meets its contract: the items passed are added. Assumes nothing.
use Rattle.room.proofs.Pushing.{PushingIn}
use Rattle.room.proofs.batches.push_batch.Given as goal

abbrev pub invariant-loop-i : goal.invariant-loop-i
invariant-loop-i l = PushingIn l.replay.batch.items.now l.replay.batch.entries.now l.replay.batch.bytes.now l.cells l.i l.tag l.initial.all l.initial.ws l.initial.vs l.all l.ws l.vs
