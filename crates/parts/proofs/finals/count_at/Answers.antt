-- `parts::finals::count_at` meets its contract. Assumes nothing.
use mathlib.Core.Path.{sym, ◌∙◌}
use Rattle.parts.proofs.FinalWays.{count_past, count_not, count_one}
use Rattle.parts.proofs.finals.count_at.Goals as goal

pub returns-then-items-j-clause-value : goal.returns-then-items-j-clause-value
returns-then-items-j-clause-value c = count_past _ _ _ c.requires.stored.stored c.requires.stored.enough _ _ _ c.requires.j_bound.0 c.if-items-j.true

pub returns-then-is_tombstone-clause-value : goal.returns-then-is_tombstone-clause-value
returns-then-is_tombstone-clause-value c =
    count_one _ _ _ c.requires.stored.stored c.requires.stored.enough _ _ _ c.requires.j_bound.0 _ c.item_at-item.ensures c.if-items-j.false (sym (c.is_tombstone.ensures _ _) ∙ c.if-is_tombstone.true)

pub returns-else-is_tombstone-clause-value : goal.returns-else-is_tombstone-clause-value
returns-else-is_tombstone-clause-value c =
    count_not _ _ _ c.requires.stored.stored c.requires.stored.enough _ _ _ c.requires.j_bound.0 _ c.item_at-item.ensures c.if-items-j.false (sym (c.is_tombstone.ensures _ _) ∙ c.if-is_tombstone.false)
