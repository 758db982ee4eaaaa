-- `records::fill::record_at` meets its contract. Assumes nothing.
use Rattle.records.proofs.FillWays.{row_is}
use Rattle.records.proofs.fill.record_at.Goals as goal

pub returns : goal.returns
returns c = row_is c.args.plan.at c.args.plan.first c.args.i c.args.xs.now _ c.entry_at.ensures
