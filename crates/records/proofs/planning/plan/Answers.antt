-- `records::planning::plan` meets its contract. Assumes nothing.
use native.Mathlib.Omega.{arith}
use Rattle.queries.specs.PlaceLaws.{asked-absent}
use Rattle.records.proofs.PlanWays.{range-answers, planned-refused, fits, plan-short, plan-done}
use Rattle.records.proofs.planning.plan.Goals as goal

pub returns-in_err-k : goal.returns-in_err-k
returns-in_err-k c = planned-refused _ _ (asked-absent _ _ _ _ _ _ (c.place_of.ensures.stands _ c.requires) c.in_err-k.was) c.from_residual.result c.from_residual.ensures.1

pub returns-in_err-range : goal.returns-in_err-range
returns-in_err-range c =
    let s = (c.place_of.ensures.stands _ c.requires).at _ c.in_ok-k.was in
    planned-refused _ _ (range-answers c.requires s c.head_at-head.ensures c.entry_rows.ensures (rw c.in_err-range.was at c.range_of.ensures)) c.from_residual-in_err-range.result c.from_residual-in_err-range.ensures.1

pub returns-then-room-range : goal.returns-then-room-range
returns-then-room-range c =
    let s = (c.place_of.ensures.stands _ c.requires).at _ c.in_ok-k.was in
    plan-short c.requires s c.head_at-head.ensures c.entry_rows.ensures (rw c.in_ok-range.was at c.range_of.ensures) _ c.if-room-range.true

pub overflow_mul-result-2 : goal.overflow_mul-result-2
overflow_mul-result-2 c = let s = (c.place_of.ensures.stands _ c.requires).at _ c.in_ok-k.was in omega (arith, s.inside, fits c.requires s c.head_at-head.ensures c.entry_rows.ensures (rw c.in_ok-range.was at c.range_of.ensures))

pub overflow_add-result-2 : goal.overflow_add-result-2
overflow_add-result-2 c = let s = (c.place_of.ensures.stands _ c.requires).at _ c.in_ok-k.was in omega (arith, s.inside, fits c.requires s c.head_at-head.ensures c.entry_rows.ensures (rw c.in_ok-range.was at c.range_of.ensures))

pub overflow_add-result-3 : goal.overflow_add-result-3
overflow_add-result-3 c = let s = (c.place_of.ensures.stands _ c.requires).at _ c.in_ok-k.was in omega (arith, s.inside, fits c.requires s c.head_at-head.ensures c.entry_rows.ensures (rw c.in_ok-range.was at c.range_of.ensures))

pub returns : goal.returns
returns c =
    let s = (c.place_of.ensures.stands _ c.requires).at _ c.in_ok-k.was in
    plan-done c.requires s c.head_at-head.ensures c.entry_rows.ensures (rw c.in_ok-range.was at c.range_of.ensures) _ c.if-room-range.false
