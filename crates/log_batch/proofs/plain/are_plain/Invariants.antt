-- `log_batch::plain::are_plain` meets its contract: what is left from row i on gives the whole answer. Assumes nothing.
use mathlib.Core.Path.{◌≡◌}
use Prim.Native.Nat.{◌+◌, ◌*◌, ◌-◌}
use lib.ListN.{drop}
use Rattle.log_batch.specs.Plain.{plain_rows}
use Rattle.log_batch.proofs.plain.are_plain.Given as goal

abbrev pub invariant-loop-i : goal.invariant-loop-i
invariant-loop-i l = plain_rows l.queue l.first l.count l.rows ≡ plain_rows l.queue (l.first + l.i) (l.count - l.i) (drop (l.i * 8) l.rows)
