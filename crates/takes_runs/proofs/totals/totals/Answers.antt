-- `takes_runs::totals::totals` meets its contract. Assumes nothing.
use mathlib.Core.Path.{refl, ap, ◌∙◌}
use Prim.Native.Nat.{◌+◌, ◌≤◌}
use lib.ListN.{length, take, length-take}
use Rattle.takes_runs.proofs.OutLaws.{lent_length}
use Rattle.takes_runs.proofs.TotalLaws.{filled-few, filled-length, filled_with, says_both}
use native.Mathlib.Omega.{arith}
use Rattle.takes_runs.proofs.totals.totals.Goals as goal

pub slice_bounds-list-end : goal.slice_bounds-list-end
slice_bounds-list-end c = omega (arith, c.unwrap_or-count.ensures, filled-few _ _ c.requires.wf _ _ refl _ c.group_numbers.ensures, filled-length _ _ c.requires.wf _ _ refl _ c.group_numbers.ensures)

pub slice_bounds-groups_text-end : goal.slice_bounds-groups_text-end
slice_bounds-groups_text-end c =
    omega (arith, c.unwrap_or-count.ensures, filled-few _ _ c.requires.wf _ _ refl _ c.group_numbers.ensures, filled-length _ _ c.requires.wf _ _ refl _ c.group_numbers.ensures, length-take c.unwrap_or-count.result c.group_numbers.new.list)

pub groups_text-at-requires : goal.groups_text-at-requires
groups_text-at-requires c =
    record { wf = c.requires.wf; numbers_value = ap (λ n. take n c.group_numbers.new.list) c.unwrap_or-count.ensures ∙ filled_with _ _ c.requires.wf _ _ refl _ c.group_numbers.ensures; in_bounds = omega arith }

pub live_text-requires : goal.live_text-requires
live_text-requires c =
    let room : c.groups_text-at.result + 44 ≤ length c.groups_text-at.new.out = omega (arith, c.groups_text-at.ensures.upper_bound) in
    omega (arith, lent_length c.groups_text-at.result 44 c.groups_text-at.new.out room)

pub overflow_add-result : goal.overflow_add-result
overflow_add-result c =
    let room : c.groups_text-at.result + 44 ≤ length c.groups_text-at.new.out = omega (arith, c.groups_text-at.ensures.upper_bound) in
    omega (arith, c.live_text.ensures.few, c.live_text.auto.out, lent_length c.groups_text-at.result 44 c.groups_text-at.new.out room)

pub returns : goal.returns
returns c =
    let room : c.groups_text-at.result + 44 ≤ length c.groups_text-at.new.out = omega (arith, c.groups_text-at.ensures.upper_bound) in
    says_both _ _ _ _ _ _ c.groups_text-at.ensures.says c.live_text.ensures room (omega arith)
