-- `galdnyrr::keys::galdnyrr_get` meets its contract. Assumes nothing.
use mathlib.Core.Path.{ap, ◌∙◌}
use Rattle.std.specs.Prelude.{Ok}
use Rattle.galdnyrr.proofs.GetLaws.{got_refused, got_none, got_short, got_copied}
use Rattle.galdnyrr.proofs.keys.galdnyrr_get.Goals as goal

pub returns-in-Ok-None : goal.returns-in-Ok-None
returns-in-Ok-None c = rw (← c.get.ensures, c.in-Ok-None.is ∙ ap Ok c.in-Ok-None.field-0-is) (got_none _ _)

pub returns-then-out-value : goal.returns-then-out-value
returns-then-out-value c = rw (← c.get.ensures, c.in-Ok-Some.is ∙ ap Ok c.in-Ok-Some.field-0-is, c.number.ensures) (got_short _ _ _ c.if-out-value.true)

pub returns-else-out-value : goal.returns-else-out-value
returns-else-out-value c = rw (← c.get.ensures, c.in-Ok-Some.is ∙ ap Ok c.in-Ok-Some.field-0-is) (got_copied _ _ _ c.if-out-value.false _ c.copy_in.ensures)

pub returns-in-Err : goal.returns-in-Err
returns-in-Err c = rw (← c.get.ensures, c.in-Err.is, c.number-in-Err.ensures) (got_refused _ _ _)
