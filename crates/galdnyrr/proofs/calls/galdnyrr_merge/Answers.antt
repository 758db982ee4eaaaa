-- `galdnyrr::calls::galdnyrr_merge` meets its contract. Assumes nothing.
use Rattle.galdnyrr.proofs.ToldLaws.{told}
use Rattle.galdnyrr.proofs.calls.galdnyrr_merge.Goals as goal

pub returns : goal.returns
returns c = told _ _ _ _ _ _ _ c.tell.ensures _ c.merge-answer.ensures
