-- `takes_runs::end::end_all` meets its contract. Assumes nothing.
use mathlib.Core.Path.{◌≡◌}
use lib.ListN.{length, take, length-take}
use Rattle.takes_runs.proofs.EndLaws.{room-left, printed_all}
use native.Mathlib.Omega.{arith}
use Rattle.takes_runs.proofs.end.end_all.Goals as goal

pub slice_bounds-end_input-end-2 : goal.slice_bounds-end_input-end-2
slice_bounds-end_input-end-2 c = omega (arith, length-take 88 c.args.out.now, c.requires.in_bounds.0)

pub end_input-first-requires-clause-in_bounds : goal.end_input-first-requires-clause-in_bounds
end_input-first-requires-clause-in_bounds c = (omega (arith, length-take 88 c.args.out.now, c.requires.in_bounds.0), c.requires.in_bounds.1)

pub slice_bounds-totals-end : goal.slice_bounds-totals-end
slice_bounds-totals-end c =
    let first : length c.end_input-first.new.out ≡ length (take 88 c.args.out.now) = c.end_input-first.auto.out in
    room-left _ _ _ _ c.end_input-first.ensures c.args.out.now first c.requires.in_bounds.0

pub returns : goal.returns
returns c =
    let first : length c.end_input-first.new.out ≡ length (take 88 c.args.out.now) = c.end_input-first.auto.out in
    printed_all _ _ _ _ c.end_input-first.ensures c.args.out.now first c.requires.in_bounds.0 _ _ c.totals.ensures c.totals.auto.out
