-- `records::rows::fill_rows` meets its contract: the rows passed are laid in. Assumes nothing.
use native.Mathlib.Omega.{arith}
use Rattle.records.proofs.RowWays.{rows_none, row-turn}
use Rattle.records.proofs.rows.fill_rows.Goals as goal

pub loop-i-init : goal.loop-i-init
loop-i-init c = rows_none _ _ _

pub loop-i-preserved : goal.loop-i-preserved
loop-i-preserved c = row-turn c.args.out.now c.requires c.loop-i.invariant (omega arith) c.lay_row.ensures
