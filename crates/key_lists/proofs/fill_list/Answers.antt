-- `key_lists::fill_list` meets its contract. Assumes nothing.
use native.Mathlib.Omega.{arith}
use Rattle.key_lists.proofs.Answers.{list-short, list_full}
use Rattle.key_lists.proofs.fill_list.Goals as goal

pub returns-then-lens-limit : goal.returns-then-lens-limit
returns-then-lens-limit c = list-short _ _ _ _ c.min-limit.result (omega (arith, c.count_chosen.ensures)) _ _ (omega arith)

pub returns : goal.returns
returns c =
    list_full _ _ _ _ c.min-limit.result (omega (arith, c.count_chosen.ensures)) _ _ _ _ (omega arith) c.copy_chosen.ensures.lens_after c.copy_chosen.ensures.out_after
