-- `columns::fetch::fetch_entry_indexes_before` meets its contract. Assumes nothing.
use Rattle.rules.specs.Causes.{Ok}
use Rattle.rules.specs.TableQueries.{fetch_entry_indexes_before}
use Rattle.queries.specs.PlaceLaws.{asked-absent}
use Rattle.queries.proofs.Ways.{by_entries_lem}
use Rattle.columns.proofs.SliceWays.{range-there, fetched-refused}
use Rattle.columns.proofs.fetch.fetch_entry_indexes_before.Goals as goal

pub returns-in_err-k : goal.returns-in_err-k
returns-in_err-k c = rw (← c.area.view_is) (fetched-refused (asked-absent _ _ _ _ _ _ (c.place_of.ensures.stands _ c.area.invariant) c.in_err-k.was) c.from_residual.result c.from_residual.ensures.1)

pub returns-in_err-range : goal.returns-in_err-range
returns-in_err-range c =
    let s = (c.place_of.ensures.stands _ c.area.invariant).at _ c.in_ok-k.was in
    rw (← c.area.view_is) (fetched-refused (by_entries_lem s c.head_at-head.ensures (λ t. Ok (fetch_entry_indexes_before c.args.gate t)) c.entry_rows-rows.ensures _ (rw c.in_err-range.was at c.range_before.ensures).rule) c.from_residual-in_err-range.result c.from_residual-in_err-range.ensures.1)

pub returns : goal.returns
returns c =
    let s = (c.place_of.ensures.stands _ c.area.invariant).at _ c.in_ok-k.was in
    rw (← c.area.view_is) (range-there s c.head_at-head.ensures (λ t. Ok (fetch_entry_indexes_before c.args.gate t)) c.entry_rows-rows.ensures _ (rw c.in_ok-range.was at c.range_before.ensures) c.answer_rows.ensures)
