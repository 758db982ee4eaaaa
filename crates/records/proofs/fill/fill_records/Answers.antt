-- `records::fill::fill_records` meets its contract. Assumes nothing.
use mathlib.Core.Path.{sym}
use native.Mathlib.Omega.{arith}
use native.Mathlib.Numerals.{add-one}
use Rattle.std.specs.Prelude.{drop}
use Rattle.records.specs.FillingLaws.{filled_none, filled_more}
use Rattle.records.proofs.fill.fill_records.Goals as goal

pub loop-i-init : goal.loop-i-init
loop-i-init c = sym (filled_none _ _ _)

pub loop-i-preserved : goal.loop-i-preserved
loop-i-preserved c =
    rw (c.loop-i.invariant, c.record_at.ensures, add-one c.loop-i.i)
    (filled_more c.args.out.now c.args.plan.first c.loop-i.i (drop c.args.plan.at c.args.xs.now) (omega arith))
