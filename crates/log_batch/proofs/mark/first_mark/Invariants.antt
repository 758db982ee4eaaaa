-- `log_batch::mark::first_mark` meets its contract: the items from i on give the whole answer. Assumes nothing.
use mathlib.Core.Path.{◌≡◌}
use Prim.Native.Nat.{◌*◌, ◌-◌}
use lib.ListN.{drop}
use Rattle.rules.specs.Checks.{first_mark}
use Rattle.log_batch.specs.Lent.{row_count_of, items_from, items_of}
use Rattle.log_batch.proofs.mark.first_mark.Given as goal

abbrev pub invariant-loop-i : goal.invariant-loop-i
invariant-loop-i l = first_mark 0 (items_of l.batch.items.now l.batch.entries.now l.batch.bytes.now) ≡ first_mark l.i (items_from l.batch.entries.now l.batch.bytes.now (row_count_of l.batch.items.now - l.i) (drop (l.i * 9) l.batch.items.now))
