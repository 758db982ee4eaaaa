-- `memtable::table::min_file_seq` meets its contract. Assumes nothing.
use mathlib.Core.Path.{◌∙◌}
use Rattle.memtable.specs.Whole.{min_of-keys}
use Rattle.memtable.proofs.table.min_file_seq.Goals as goal

pub returns : goal.returns
returns c = λ bs counted. c.min_file_seq.ensures ∙ min_of-keys _ _ _ _ _ c.least_seq.result c.least_seq.ensures bs counted
