-- `stores::shift::move_rows` meets its contract. Assumes nothing.
use Rattle.stores.specs.Written.{rows_of}
use Rattle.cells.specs.PartLaws.{put-nil}
use mathlib.Core.Path.{sym}
use mathlib.Core.Logic.{inl, inr}
use native.Mathlib.Omega.{arith}
use Rattle.stores.proofs.shift.move_rows.Goals as goal

pub returns-in-Command : goal.returns-in-Command
unfolding rows_of
returns-in-Command c =
    elim c.in-Command.is [
      | inl w ↦ record { entries_after = rw w.1 (sym (put-nil _ _)); value = rw w.1 (omega arith) }
      | inr w ↦ record { entries_after = rw w.1 (sym (put-nil _ _)); value = rw w.1 (omega arith) }
    ]
