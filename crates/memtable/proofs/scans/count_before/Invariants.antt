-- `memtable::scans::count_before` meets its contract. Assumes nothing.
use mathlib.Core.Path.{◌≡◌}
use Prim.Native.Nat.{◌+◌, ◌-◌, ◌*◌}
use lib.ListN.{drop}
use Rattle.memtable.specs.Scans.{count_before}
use Rattle.memtable.proofs.scans.count_before.Given as goal

abbrev pub invariant-loop-i : goal.invariant-loop-i
invariant-loop-i l = (count_before l.gate l.count (drop (l.from * 8) l.part) ≡ l.i + count_before l.gate (l.count - l.i) (drop (l.i * 8) (drop (l.from * 8) l.part)))
