-- `galdnyrr::calls::galdnyrr_replay` meets its contract. Assumes nothing.
use Rattle.galdnyrr.proofs.ToldLaws.{replay_told}
use Rattle.galdnyrr.proofs.calls.galdnyrr_replay.Goals as goal

pub returns : goal.returns
returns c = replay_told _ _ _ _ _ _ _ c.tell.ensures _ _ _ _ _ c.file_of.ensures c.replay-answer.ensures
