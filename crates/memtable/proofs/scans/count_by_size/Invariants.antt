-- `memtable::scans::count_by_size` meets its contract. Assumes nothing.
use mathlib.Core.Path.{◌≡◌}
use Prim.Native.Nat.{◌+◌, ◌-◌, ◌*◌, ◌<◌, ◌^◌}
use lib.ListN.{drop}
use Rattle.memtable.specs.Scans.{size_count}
use Rattle.memtable.proofs.scans.count_by_size.Given as goal

abbrev pub invariant-loop-i : goal.invariant-loop-i
invariant-loop-i l = (l.sum < 2 ^ 64) × (size_count l.size 0 l.count (drop (l.from * 8) l.part) ≡ l.i + size_count l.size l.sum (l.count - l.i) (drop (l.i * 8) (drop (l.from * 8) l.part)))
