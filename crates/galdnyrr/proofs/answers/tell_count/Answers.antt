-- `galdnyrr::answers::tell_count` meets its contract. Assumes nothing.
use Rattle.galdnyrr.proofs.AskedLaws.{value-refused, value-some}
use Rattle.galdnyrr.proofs.answers.tell_count.Goals as goal

pub returns-in-Ok : goal.returns-in-Ok
returns-in-Ok c = rw c.in-Ok.is (value-some _ _)

pub returns-in-Err : goal.returns-in-Err
returns-in-Err c = rw (c.in-Err.is, c.number.ensures) (value-refused _ _)
