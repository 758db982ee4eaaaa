-- `memtable::scans::sum_lens` meets its contract: the sum so far and what is left from row i on give the whole. Assumes nothing.
use mathlib.Core.Path.{◌≡◌}
use Prim.Native.Nat.{◌+◌, ◌-◌, ◌*◌, ◌≤◌, ◌^◌}
use lib.ListN.{drop}
use Rattle.memtable.specs.Scans.{len_sum}
use Rattle.memtable.proofs.scans.sum_lens.Given as goal

abbrev pub invariant-loop-i : goal.invariant-loop-i
invariant-loop-i l = (l.sum ≤ l.i * 2 ^ 25) × (len_sum l.count (drop (l.from * 8) l.part) ≡ l.sum + len_sum (l.count - l.i) (drop (l.i * 8) (drop (l.from * 8) l.part)))
