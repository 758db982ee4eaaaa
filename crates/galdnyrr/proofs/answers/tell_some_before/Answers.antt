-- `galdnyrr::answers::tell_some_before` meets its contract. Assumes nothing.
use mathlib.Core.Bool.{Bool, true, false}
use mathlib.Core.Path.{◌≡◌, refl, ◌∙◌}
use mir.Val.{bool_byte}
use Rattle.galdnyrr.specs.Asked.{flag_of}
use Rattle.galdnyrr.proofs.AskedLaws.{flag-refused, flag-some}
use Rattle.galdnyrr.proofs.answers.tell_some_before.Goals as goal

-- the number of a truth value
bit : (b : Bool) → bool_byte b ≡ flag_of b
unfolding flag_of
bit true = refl
bit false = refl

pub returns-in-Ok : goal.returns-in-Ok
returns-in-Ok c = rw c.in-Ok.is (flag-some _ _ _ (c.from.ensures ∙ bit c.in-Ok.told))

pub returns-in-Err : goal.returns-in-Err
returns-in-Err c = rw (c.in-Err.is, c.number.ensures) (flag-refused _ _)
