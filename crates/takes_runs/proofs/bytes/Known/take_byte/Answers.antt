-- `takes_runs::bytes::Known::take_byte` meets its contract. Assumes nothing.
use Rattle.takes_runs.proofs.ReadingLaws.{byte-taken, newline-taken}
use Rattle.takes_runs.proofs.bytes.Known.take_byte.Goals as goal

pub returns-then-b-eq10-clause-stepped : goal.returns-then-b-eq10-clause-stepped
returns-then-b-eq10-clause-stepped c = newline-taken _ _ _ _ _ c.if-b-eq10.true c.end_line-step.ensures.stepped

pub returns-clause-stepped : goal.returns-clause-stepped
returns-clause-stepped c = byte-taken _ _ _ _ _ c.feed-self.ensures c.requires.fit c.if-b-eq10.false
