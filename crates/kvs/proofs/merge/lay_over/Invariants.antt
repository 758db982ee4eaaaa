-- `kvs::merge::lay_over` meets its contract: the rest laid over what is there gives the whole. Assumes nothing.
use Rattle.kvs.proofs.Merges.{Laying}
use mathlib.Core.Path.{◌≡◌}
use lib.ListN.{length}
use Rattle.kvs.proofs.merge.lay_over.Given as goal

abbrev pub invariant-loop-j : goal.invariant-loop-j
invariant-loop-j l = (length l.rows ≡ length l.initial.rows) × (length l.bytes ≡ length l.initial.bytes) × Laying l.n l.initial.rows l.initial.bytes l.newer l.j l.count l.rows l.bytes
