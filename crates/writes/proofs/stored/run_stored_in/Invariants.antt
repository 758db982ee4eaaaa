-- `writes::stored::run_stored_in` meets its contract. Assumes nothing.
use mathlib.Core.Path.{◌≡◌}
use lib.ListN.{length}
use Rattle.writes.specs.StoredLaws.{StoredUnder}
use Rattle.writes.proofs.stored.run_stored_in.Given as goal

abbrev pub invariant-loop-j : goal.invariant-loop-j
invariant-loop-j l = StoredUnder l.tag l.initial.xs l.initial.bs l.j l.xs l.bs × (length l.rows ≡ 1024) × (length l.text ≡ 64)
