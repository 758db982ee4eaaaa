-- There are no more lines than bytes.
use Rattle.std.proofs.Common.{◌+◌, ◌≤◌, length}
use Rattle.hash_vectors.proofs.compare_all.Given as goal

abbrev pub invariant-loop-rest : goal.invariant-loop-rest
invariant-loop-rest g l = (l.lines + length l.rest ≤ length l.text) × (l.differ ≤ l.lines)

abbrev pub decreases-loop-rest : goal.decreases-loop-rest
decreases-loop-rest g l = length l.rest
