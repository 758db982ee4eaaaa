-- `batches::growth::have_room` meets its contract. Assumes nothing.
use mathlib.Core.Path.{sym, ◌∙◌}
use Rattle.batches.proofs.growth.have_room.Goals as goal

pub returns-then-not-room_if : goal.returns-then-not-room_if
returns-then-not-room_if c = rw (← c.counts_in-counts.ensures.0) (rw (sym c.room_if.ensures ∙ c.if-not-room_if.true))

pub returns : goal.returns
returns c = rw (← c.counts_in-counts.ensures.0, ← c.counts_in-counts.ensures.1) (rw (sym c.room_if.ensures ∙ c.if-not-room_if.false) c.room_if-2.ensures)
