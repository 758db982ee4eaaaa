-- `galdnyrr::calls::galdnyrr_fresh` meets its contract. Assumes nothing.
use Rattle.galdnyrr.proofs.calls.galdnyrr_fresh.Goals as goal

pub returns : goal.returns
returns c = rw (← c.from.ensures) c.fresh.ensures
