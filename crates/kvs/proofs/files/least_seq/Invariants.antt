-- `kvs::files::least_seq` meets its contract: what is found is the least from row i on. Assumes nothing.
use Rattle.kvs.proofs.Queues.{rest}
use mathlib.Core.Path.{◌≡◌}
use mathlib.Core.List.{List}
use Prim.Native.Nat.{ℕ}
use Rattle.rules.specs.TableQueries.{least_seq}
use Rattle.kvs.proofs.files.least_seq.Given as goal

abbrev pub invariant-loop-i : goal.invariant-loop-i
invariant-loop-i l = ((bs : List ℕ) → l.found ≡ least_seq (rest l.n l.rows l.queue bs l.i))
