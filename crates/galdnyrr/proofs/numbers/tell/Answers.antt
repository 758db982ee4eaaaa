-- `galdnyrr::numbers::tell` meets its contract. Assumes nothing.
use mathlib.Core.Path.{refl}
use Rattle.contexts.specs.Contexts.{answer_as}
use Rattle.galdnyrr.specs.Told.{number_of, place_of}
use Rattle.galdnyrr.proofs.numbers.tell.Goals as goal

pub returns-in-Ok : goal.returns-in-Ok
unfolding answer_as number_of place_of
returns-in-Ok c = λ x. rw c.in-Ok.is (refl, refl)

pub returns-in-Err : goal.returns-in-Err
unfolding answer_as number_of place_of
returns-in-Err c = λ x. rw c.in-Err.is (c.number.ensures, c.place_of.ensures)
