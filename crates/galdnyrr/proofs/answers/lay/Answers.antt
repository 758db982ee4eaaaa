-- `galdnyrr::answers::lay` meets its contract. Assumes nothing.
use Rattle.galdnyrr.proofs.answers.lay.Goals as goal

pub returns : goal.returns
returns c = rw (← c.row_of-cells.ensures) c.copy_in.ensures
