-- `galdnyrr::calls::galdnyrr_append` meets its contract. Assumes nothing.
use Rattle.galdnyrr.proofs.ToldLaws.{append_told}
use Rattle.galdnyrr.proofs.calls.galdnyrr_append.Goals as goal

pub returns : goal.returns
returns c = append_told _ _ _ _ _ _ _ c.tell.ensures _ _ _ _ _ c.file_of.ensures c.append-answer.ensures
