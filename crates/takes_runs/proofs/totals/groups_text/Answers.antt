-- `takes_runs::totals::groups_text` meets its contract. Assumes nothing.
use Rattle.takes_runs.proofs.OutLaws.{lent_length}
use Rattle.takes_runs.proofs.TotalLaws.{printing-none, printing-room, printing-more, printing_all, printed-few}
use native.Mathlib.Omega.{arith}
use Rattle.takes_runs.proofs.totals.groups_text.Goals as goal

pub loop-group-init : goal.loop-group-init
loop-group-init c = printing-none _ _ c.requires.wf _ _ c.requires.numbers_value c.requires.in_bounds

pub overflow_add-e : goal.overflow_add-e
overflow_add-e c = omega (arith, printed-few _ _ c.requires.wf _ _ c.requires.numbers_value c.requires.in_bounds _ _ _ c.loop-group.invariant)

pub slice_bounds-group_text-end : goal.slice_bounds-group_text-end
slice_bounds-group_text-end c = printing-room _ _ c.requires.wf _ _ c.requires.numbers_value c.requires.in_bounds _ _ _ c.loop-group.invariant c.loop-group-test.true

pub group_text-at-requires : goal.group_text-at-requires
group_text-at-requires c =
    omega (arith, lent_length c.loop-group.at 86 c.loop-group.out (printing-room _ _ c.requires.wf _ _ c.requires.numbers_value c.requires.in_bounds _ _ _ c.loop-group.invariant c.loop-group-test.true))

pub loop-group-preserved : goal.loop-group-preserved
loop-group-preserved c = printing-more _ _ c.requires.wf _ _ c.requires.numbers_value c.requires.in_bounds _ _ _ c.loop-group.invariant c.loop-group-test.true _ _ (omega arith) c.group_text-at.ensures

pub returns : goal.returns
returns c =
    record { says = printing_all _ _ c.requires.wf _ _ c.requires.numbers_value c.requires.in_bounds _ _ _ c.loop-group.invariant c.loop-group-test.false; upper_bound = printed-few _ _ c.requires.wf _ _ c.requires.numbers_value c.requires.in_bounds _ _ _ c.loop-group.invariant }
