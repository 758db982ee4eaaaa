-- `batches::singles::is_single_list` meets its contract. Assumes nothing.
use mathlib.Core.Path.{sym, ◌∙◌}
use native.Mathlib.Omega.{arith}
use Rattle.maps.specs.BoolLaws.{clash}
use Rattle.batches.specs.SingleLaws.{list-single}
use Rattle.batches.proofs.singles.is_single_list.Goals as goal

pub returns-then-items-ne-ITEM_WIDTH : goal.returns-then-items-ne-ITEM_WIDTH
returns-then-items-ne-ITEM_WIDTH c = λ call bytes q e. absurd (clash e)

pub returns-then-items-ne-LIST : goal.returns-then-items-ne-LIST
returns-then-items-ne-LIST c = λ call bytes q e. absurd (clash e)

pub returns-then-count-gt-MAX_LIST_ENTRIES : goal.returns-then-count-gt-MAX_LIST_ENTRIES
returns-then-count-gt-MAX_LIST_ENTRIES c = λ call bytes q e. absurd (clash e)

pub returns-then-rows-at : goal.returns-then-rows-at
returns-then-rows-at c = λ call bytes q e. absurd (clash e)

pub returns-then-rows-at-2 : goal.returns-then-rows-at-2
returns-then-rows-at-2 c = λ call bytes q e. absurd (clash e)

pub is_plain_of-requires : goal.is_plain_of-requires
is_plain_of-requires c = omega arith

pub returns : goal.returns
returns c =
    λ call bytes q e. list-single call c.args.items.now c.args.entries.now bytes c.if-items-ne-ITEM_WIDTH.false c.if-items-ne-LIST.false c.if-count-gt-MAX_LIST_ENTRIES.false (omega arith) (rw q (sym c.is_plain_of.ensures ∙ e))
