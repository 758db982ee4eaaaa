-- `galdnyrr::numbers::place_of` meets its contract. Assumes nothing.
use Rattle.std.proofs.Common.{refl}
use Rattle.maps.specs.Lists.{or_else}
use Rattle.galdnyrr.proofs.numbers.place_of.Goals as goal

pub returns-in-None : goal.returns-in-None
unfolding or_else
returns-in-None c = rw c.in-None.is refl

pub returns-in-Some : goal.returns-in-Some
unfolding or_else
returns-in-Some c = rw c.in-Some.is refl
