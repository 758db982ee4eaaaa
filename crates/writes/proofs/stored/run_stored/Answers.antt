-- `writes::stored::run_stored` meets its contract. Assumes nothing.
use mathlib.Core.Path.{refl}
use Rattle.writes.proofs.stored.run_stored.Goals as goal

pub run_stored_in-requires : goal.run_stored_in-requires
run_stored_in-requires c = record { formed = c.requires.formed; undoable = c.requires.undoable; bs_value = c.requires.bs_value; keeping = c.requires.keeping; rows_len = (refl, refl) }

pub returns : goal.returns
returns c = c.run_stored_in.ensures
