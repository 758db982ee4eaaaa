-- `galdnyrr::calls::galdnyrr_rewrite` meets its contract. Assumes nothing.
use Rattle.galdnyrr.proofs.ToldLaws.{rewrite_told}
use Rattle.galdnyrr.proofs.calls.galdnyrr_rewrite.Goals as goal

pub returns : goal.returns
returns c = rewrite_told _ _ _ _ _ _ _ c.tell.ensures _ _ _ _ _ c.file_of.ensures _ _ c.gate_of.ensures c.rewrite-answer.ensures
