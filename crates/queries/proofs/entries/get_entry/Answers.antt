-- `queries::entries::get_entry` meets its contract. Assumes nothing.
use Rattle.rules.specs.Causes.{Ok}
use Rattle.rules.specs.TableQueries.{get_entry}
use Rattle.queries.specs.PlaceLaws.{passed-on}
use Rattle.queries.proofs.Ways.{by_entries_lem}
use Rattle.queries.proofs.entries.get_entry.Goals as goal

pub returns-in_err-k : goal.returns-in_err-k
returns-in_err-k c = rw (← c.area.view_is) (passed-on _ (c.place_of.ensures.stands _ c.area.invariant) c.in_err-k.was c.from_residual.result c.from_residual.ensures.1)

pub returns : goal.returns
returns c = rw (← c.area.view_is) (by_entries_lem ((c.place_of.ensures.stands _ c.area.invariant).at _ c.in_ok-k.was) c.head_at.ensures (λ t. Ok (get_entry c.args.index t)) c.entry_rows.ensures (Ok c.get_entry.result) (λ keys counted. rw (c.get_entry.ensures keys counted)))
