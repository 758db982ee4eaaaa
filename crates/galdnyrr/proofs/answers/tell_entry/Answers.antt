-- `galdnyrr::answers::tell_entry` meets its contract. Assumes nothing.
use Rattle.galdnyrr.proofs.AskedLaws.{entry-refused, entry-none, entry-short, entry-some}
use Rattle.galdnyrr.proofs.answers.tell_entry.Goals as goal

pub returns-in-None : goal.returns-in-None
returns-in-None c = rw c.in-Ok.is (entry-none _ _ c.in-None.is)

pub returns-then-row-lt-ENTRY_WIDTH : goal.returns-then-row-lt-ENTRY_WIDTH
returns-then-row-lt-ENTRY_WIDTH c = rw (c.in-Ok.is, c.number.ensures) (entry-short _ _ _ c.in-Some.is c.if-row-lt-ENTRY_WIDTH.true)

pub returns-else-row-lt-ENTRY_WIDTH : goal.returns-else-row-lt-ENTRY_WIDTH
returns-else-row-lt-ENTRY_WIDTH c = rw c.in-Ok.is (entry-some _ _ _ c.in-Some.is _ c.if-row-lt-ENTRY_WIDTH.false c.lay.ensures)

pub returns-in-Err : goal.returns-in-Err
returns-in-Err c = rw (c.in-Err.is, c.number-in-Err.ensures) (entry-refused _ _)
