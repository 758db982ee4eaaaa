-- `queries::entries::has_at_least_some_entries_before` meets its contract. Assumes nothing.
use Rattle.rules.specs.Causes.{by_cause}
use Rattle.rules.specs.TableQueries.{has_at_least_some_entries_before}
use Rattle.queries.specs.PlaceLaws.{passed-on}
use Rattle.queries.proofs.Ways.{by_entries_lem}
use Rattle.queries.proofs.entries.has_at_least_some_entries_before.Goals as goal

pub returns-in_err-k : goal.returns-in_err-k
returns-in_err-k c = rw (← c.area.view_is) (passed-on _ (c.place_of.ensures.stands _ c.area.invariant) c.in_err-k.was c.from_residual.result c.from_residual.ensures.1)

pub returns : goal.returns
returns c = rw (← c.area.view_is) (by_entries_lem ((c.place_of.ensures.stands _ c.area.invariant).at _ c.in_ok-k.was) c.head_at.ensures (has_at_least_some_entries_before c.args.gate c.args.count) c.entry_rows.ensures (by_cause c.has_at_least_some_entries_before.result) c.has_at_least_some_entries_before.ensures)
