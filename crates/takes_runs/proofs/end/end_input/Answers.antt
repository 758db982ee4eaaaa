-- `takes_runs::end::end_input` meets its contract. Assumes nothing.
use mathlib.Core.List.{◌++◌}
use mathlib.Core.Path.{◌≡◌}
use lib.ListN.{length, take, drop, length-take}
use Rattle.takes_runs.proofs.OutLaws.{lent_length}
use Rattle.takes_runs.proofs.EndLaws.{few-first, room-behind, input-ended}
use native.Mathlib.Omega.{arith}
use Rattle.takes_runs.proofs.end.end_input.Goals as goal

pub slice_bounds-last_line-end-2 : goal.slice_bounds-last_line-end-2
slice_bounds-last_line-end-2 c = omega (arith, length-take 44 c.args.out.now, c.requires.in_bounds.0)

pub last_line-step-requires-clause-in_bounds : goal.last_line-step-requires-clause-in_bounds
last_line-step-requires-clause-in_bounds c = (omega (arith, length-take 44 c.args.out.now, c.requires.in_bounds.0), c.requires.in_bounds.1)

pub slice_bounds-merge_run-end : goal.slice_bounds-merge_run-end
slice_bounds-merge_run-end c =
    let first : length c.last_line-step.new.out ≡ length (take 44 c.args.out.now) = c.last_line-step.auto.out in
    room-behind _ _ _ _ c.last_line-step.ensures c.args.out.now first c.requires.in_bounds.0

pub overflow_add-result : goal.overflow_add-result
overflow_add-result c =
    let first : length c.last_line-step.new.out ≡ length (take 44 c.args.out.now) = c.last_line-step.auto.out in
    omega (arith, few-first _ _ _ _ c.last_line-step.ensures c.args.out.now first c.requires.in_bounds.0, c.merge_run.ensures.few, c.merge_run.auto.out, lent_length c.last_line-step.result.printed 44 (c.last_line-step.new.out ++ drop 44 c.args.out.now) (room-behind _ _ _ _ c.last_line-step.ensures c.args.out.now first c.requires.in_bounds.0))

pub returns : goal.returns
returns c =
    let first : length c.last_line-step.new.out ≡ length (take 44 c.args.out.now) = c.last_line-step.auto.out in
    input-ended _ _ _ _ c.last_line-step.ensures c.args.out.now first c.requires.in_bounds.0 _ _ _ c.merge_run.ensures c.merge_run.auto.out
