-- `writes::stored::run_own` meets its contract. Assumes nothing.
use Rattle.writes.specs.StoredLaws.{OwnUnder}
use Rattle.writes.proofs.stored.run_own.Given as goal

abbrev pub invariant-loop-i : goal.invariant-loop-i
invariant-loop-i l = OwnUnder l.replay.batch.items.now l.replay.batch.entries.now l.replay.batch.bytes.now l.n l.initial.xs l.initial.bs l.i l.xs l.bs
