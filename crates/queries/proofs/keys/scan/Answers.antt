-- `queries::keys::scan` meets its contract. Assumes nothing.
use Rattle.rules.specs.TableQueries.{scan}
use Rattle.queries.proofs.RowLists.{scan-short}
use Rattle.queries.proofs.Ways.{keys_wf, keys-there, keys-absent}
use Rattle.queries.proofs.keys.scan.Goals as goal

pub returns-in_err-k : goal.returns-in_err-k
returns-in_err-k c = rw (← c.area.view_is) (keys-absent _ (c.place_of.ensures.stands _ c.area.invariant) c.in_err-k.was c.from_residual.result c.from_residual.ensures.1)

pub new-keys-requires : goal.new-keys-requires
new-keys-requires c = keys_wf ((c.place_of.ensures.stands _ c.area.invariant).at _ c.in_ok-k.was) c.key_count_at-n.ensures c.key_rows-rows.ensures c.key_bytes-bytes.ensures

pub returns : goal.returns
returns c =
    rw (← c.area.view_is) (keys-there ((c.place_of.ensures.stands _ c.area.invariant).at _ c.in_ok-k.was) c.key_count_at-n.ensures c.key_rows-rows.ensures c.key_bytes-bytes.ensures (scan _ _ c.args.backwards c.args.count) _ _ _ _ _ (rw c.new-keys.ensures at c.scan.ensures) (λ t e. scan-short _ _ _ t e _ _ _ _))
