-- `galdnyrr::answers::tell_found` meets its contract. Assumes nothing.
use Rattle.galdnyrr.proofs.AskedLaws.{found-refused, found_none, found_some}
use Rattle.galdnyrr.proofs.answers.tell_found.Goals as goal

pub returns-in-None : goal.returns-in-None
returns-in-None c = rw c.in-Ok.is (found_none _ _ c.in-None.is)

pub returns-in-Some : goal.returns-in-Some
returns-in-Some c = rw c.in-Ok.is (found_some _ _ _ c.in-Some.is)

pub returns-in-Err : goal.returns-in-Err
returns-in-Err c = rw (c.in-Err.is, c.number.ensures) (found-refused _ _)
