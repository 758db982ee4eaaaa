-- `log_batch::entries::any_entry` meets its contract: what is left from row i on gives the whole answer. Assumes nothing.
use mathlib.Core.Path.{◌≡◌}
use Prim.Native.Nat.{◌*◌, ◌-◌}
use lib.ListN.{drop}
use Rattle.maps.specs.Lists.{any}
use Rattle.pipe_log.specs.Rows.{entries_of}
use Rattle.log_batch.specs.Judged.{entry_meets}
use Rattle.log_batch.proofs.entries.any_entry.Given as goal

abbrev pub invariant-loop-i : goal.invariant-loop-i
invariant-loop-i l = any (entry_meets l.test) (entries_of l.count l.rows) ≡ any (entry_meets l.test) (entries_of (l.count - l.i) (drop (l.i * 8) l.rows))
