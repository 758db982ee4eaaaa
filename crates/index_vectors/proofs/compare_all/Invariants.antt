-- Each call moves on, so there are no more calls than numbers.
use Rattle.std.proofs.Common.{◌+◌, ◌≤◌, length}
use Rattle.script_areas.specs.Areas.{Areas}
use Rattle.index_vectors.proofs.compare_all.Given as goal

abbrev pub invariant-loop-rest : goal.invariant-loop-rest
invariant-loop-rest g l = Areas 8 l.xs l.bs × (l.calls + length l.rest ≤ length l.numbers) × (l.differ ≤ l.calls)

abbrev pub decreases-loop-rest : goal.decreases-loop-rest
decreases-loop-rest g l = length l.rest
