-- `galdnyrr::keys::galdnyrr_min_file_seq` meets its contract. Assumes nothing.
use Rattle.galdnyrr.proofs.AskedLaws.{file_told}
use Rattle.galdnyrr.proofs.keys.galdnyrr_min_file_seq.Goals as goal

pub returns : goal.returns
returns c = file_told _ _ c.from.ensures c.min_file_seq-found.ensures c.tell_found.ensures
