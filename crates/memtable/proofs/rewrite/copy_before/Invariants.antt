-- `memtable::rewrite::copy_before` meets its contract: after each turn one row more is laid in. Assumes nothing.
use mathlib.Core.Path.{◌≡◌}
use Prim.Native.Nat.{◌+◌, ◌-◌, ◌*◌}
use lib.ListN.{drop}
use Rattle.cells.specs.Part as stretch
use Rattle.cells.proofs.Steps.{Laid}
use Rattle.memtable.specs.Scans.{count_before}
use Rattle.memtable.proofs.rewrite.copy_before.Given as goal

abbrev pub invariant-loop-i : goal.invariant-loop-i
invariant-loop-i l = (count_before l.gate l.most (drop (l.pos * 8) l.initial.part) ≡ l.i + count_before l.gate (l.most - l.i) (drop (l.i * 8) (drop (l.pos * 8) l.initial.part))) × Laid l.initial.part (l.pos * 8) (stretch.part (l.skip * 8) (l.i * 8) l.rows) l.part
