-- `records::rows::fetch_rows` meets its contract. Assumes nothing.
use Rattle.records.proofs.RowWays.{rows-refused, rows-done}
use Rattle.records.proofs.rows.fetch_rows.Goals as goal

pub returns-in_err-plan : goal.returns-in_err-plan
returns-in_err-plan c = rw (← c.area.view_is) (rows-refused (rw c.in_err-plan.was at c.plan.ensures) c.from_residual.result c.from_residual.ensures.1)

pub returns : goal.returns
returns c = rw (← c.area.view_is) (rows-done (rw c.in_ok-plan.was at c.plan.ensures) c.fill_rows.ensures)
