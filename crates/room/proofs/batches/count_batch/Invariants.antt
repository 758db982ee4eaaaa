-- `room::batches::count_batch` meets its contract: the counts are those of the items passed. Assumes nothing.
use Rattle.room.proofs.Pushing.{Counting}
use Rattle.room.proofs.batches.count_batch.Given as goal

abbrev pub invariant-loop-i : goal.invariant-loop-i
invariant-loop-i l = Counting l.replay.batch.items.now l.replay.batch.entries.now l.replay.batch.bytes.now l.i l.count
