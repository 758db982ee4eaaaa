-- `writes::stored::holds_any` meets its contract. Assumes nothing.
use Prim.Native.Nat.{ℕ}
use mathlib.Core.List.{List}
use mathlib.Core.Path.{◌≡◌}
use Rattle.contexts.specs.Contexts.{Formed}
use Rattle.writes.specs.Finishes.{stored_from}
use Rattle.writes.proofs.stored.holds_any.Given as goal

abbrev pub invariant-loop-j : goal.invariant-loop-j
invariant-loop-j l = (bs : List ℕ) → Formed l.xs bs → stored_from l.tag l.j l.xs bs ≡ stored_from l.tag 0 l.xs bs
