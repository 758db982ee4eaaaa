-- `kvs::files::count_of` meets its contract: the count is that of the rows passed. Assumes nothing.
use Rattle.kvs.proofs.Queues.{rest}
use mathlib.Core.Path.{◌≡◌}
use mathlib.Core.List.{List}
use Prim.Native.Nat.{ℕ, ◌+◌, ◌≤◌}
use lib.ListN.{length}
use Rattle.kvs.proofs.files.count_of.Given as goal

abbrev pub invariant-loop-i : goal.invariant-loop-i
invariant-loop-i l = (l.count ≤ l.i) × ((bs : List ℕ) → length (rest l.n l.rows l.queue bs 0) ≡ l.count + length (rest l.n l.rows l.queue bs l.i))
