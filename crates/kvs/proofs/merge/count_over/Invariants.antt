-- `kvs::merge::count_over` meets its contract: the keys that are left add what the map lacks of them. Assumes nothing.
use Rattle.kvs.proofs.Merges.{lacks}
use mathlib.Core.Path.{◌≡◌}
use Prim.Native.Nat.{◌+◌, ◌≤◌}
use lib.ListN.{length}
use Rattle.kvs.proofs.merge.count_over.Given as goal

abbrev pub invariant-loop-j : goal.invariant-loop-j
invariant-loop-j l = (l.count ≤ length l.keys + l.j) × (length l.keys + lacks l.keys l.newer 0 ≡ l.count + lacks l.keys l.newer l.j)
