-- `records::fetching::fetch_records` meets its contract. Assumes nothing.
use Rattle.records.proofs.PlanWays.{fetched-refused, fetched-done}
use Rattle.records.proofs.fetching.fetch_records.Goals as goal

pub returns-in_err-plan : goal.returns-in_err-plan
returns-in_err-plan c = rw (← c.area.view_is) (fetched-refused (rw c.in_err-plan.was at c.plan.ensures) c.from_residual.result c.from_residual.ensures.1)

pub returns : goal.returns
returns c = rw (c.fill_records.ensures, ← c.area.view_is) (fetched-done (rw c.in_ok-plan.was at c.plan.ensures))
