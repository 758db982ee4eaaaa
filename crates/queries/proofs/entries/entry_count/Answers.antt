-- `queries::entries::entry_count` meets its contract. Assumes nothing.
use Rattle.queries.specs.PlaceLaws.{passed-on}
use Rattle.queries.proofs.Ways.{count-there}
use Rattle.queries.proofs.entries.entry_count.Goals as goal

pub returns-in_err-k : goal.returns-in_err-k
returns-in_err-k c = rw (← c.area.view_is) (passed-on _ (c.place_of.ensures.stands _ c.area.invariant) c.in_err-k.was c.from_residual.result c.from_residual.ensures.1)

pub returns : goal.returns
returns c = rw (← c.area.view_is) (count-there ((c.place_of.ensures.stands _ c.area.invariant).at _ c.in_ok-k.was) c.head_at.ensures)
