-- `log_batch::entries::is_consecutive` meets its contract: what is left from row i on gives the whole answer. Assumes nothing.
use mathlib.Core.Path.{◌≡◌}
use Prim.Native.Nat.{◌*◌, ◌-◌}
use lib.ListN.{drop}
use Rattle.pipe_log.specs.Rows.{entries_of}
use Rattle.rules.specs.Checks.{consecutive}
use Rattle.log_batch.proofs.entries.is_consecutive.Given as goal

abbrev pub invariant-loop-i : goal.invariant-loop-i
invariant-loop-i l = consecutive (entries_of l.count l.rows) ≡ consecutive (entries_of (l.count - (l.i - 1)) (drop ((l.i - 1) * 8) l.rows))
