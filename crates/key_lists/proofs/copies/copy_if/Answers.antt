-- `key_lists::copies::copy_if` meets its contract. Assumes nothing.
use mathlib.Core.Path.{sym, ◌∙◌}
use native.Mathlib.Omega.{arith}
use Rattle.key_lists.proofs.Answers.{copy-past, copy_yes, copy-not}
use Rattle.key_lists.proofs.copies.copy_if.Goals as goal
use Rattle.key_lists.proofs.copies.copy_if.Goals.{then-limit-j-via-then-limit-j, then-limit-j-via-else-limit-j+then-not-chosen}

pub returns-then-limit-j : goal.returns-then-limit-j
returns-then-limit-j c =
    elim c.then-limit-j.branch [
      | then-limit-j-via-then-limit-j w ↦ copy-past _ _ _ _ _ _ (omega arith)
      | then-limit-j-via-else-limit-j+then-not-chosen w ↦ copy-not _ _ _ _ _ _ (sym w.chosen.ensures ∙ w.if-not-chosen.true)
    ]

pub returns : goal.returns
returns c = rw (c.copy_row.ensures.lens_after, c.copy_row.ensures.out_after) (copy_yes _ _ _ _ _ _ (sym c.chosen.ensures ∙ c.if-not-chosen.false) (omega arith))
