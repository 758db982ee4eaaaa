-- `waiting::limits::count_used` meets its contract. Assumes nothing.
use Rattle.waiting.proofs.Limiting.{Using}
use Rattle.cells.specs.Part.{part}
use Prim.Native.Nat.{◌*◌}
use Rattle.waiting.proofs.limits.count_used.Given as goal

abbrev pub invariant-loop-k : goal.invariant-loop-k
invariant-loop-k l = Using l.cells (part 2 (l.cells * 10) l.ws) l.used l.k
