-- `takes_runs::blocks::take_block` meets its contract. The loop's invariant: the bytes passed are taken. Assumes nothing.
use Rattle.takes_runs.specs.Steps.{Lends}
use Rattle.takes_runs.specs.Reading.{held_of}
use Rattle.takes_runs.proofs.BlockLaws.{Taking}
use Rattle.takes_runs.proofs.blocks.take_block.Given as goal

abbrev pub invariant-loop-b : goal.invariant-loop-b
invariant-loop-b l = Taking (held_of l.initial.known l.initial.items l.initial.rows l.initial.bytes l.initial.xs l.initial.bs l.initial.ys l.initial.cs) l.block l.initial.out (held_of l.known l.items l.rows l.bytes l.xs l.bs l.ys l.cs) l.printed l.b-index l.out × Lends l.items l.rows l.bytes
