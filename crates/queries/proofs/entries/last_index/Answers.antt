-- `queries::entries::last_index` meets its contract. Assumes nothing.
use Rattle.queries.specs.PlaceLaws.{passed-on}
use Rattle.queries.proofs.Ways.{own_wf, last-there}
use Rattle.queries.proofs.entries.last_index.Goals as goal

pub returns-in_err-k : goal.returns-in_err-k
returns-in_err-k c = rw (← c.area.view_is) (passed-on _ (c.place_of.ensures.stands _ c.area.invariant) c.in_err-k.was c.from_residual.result c.from_residual.ensures.1)

pub last_index-requires : goal.last_index-requires
last_index-requires c = (own_wf ((c.place_of.ensures.stands _ c.area.invariant).at _ c.in_ok-k.was) c.head_at.ensures).index

pub returns : goal.returns
returns c = rw (← c.area.view_is) (last-there ((c.place_of.ensures.stands _ c.area.invariant).at _ c.in_ok-k.was) c.head_at.ensures c.last_index.result c.last_index.ensures)
