-- `records::rows::lay_row` meets its contract. Assumes nothing.
use Rattle.records.specs.Rows.{cells_of}
use Rattle.records.proofs.rows.lay_row.Goals as goal

pub returns : goal.returns
unfolding cells_of
returns c = c.copy_in.ensures
