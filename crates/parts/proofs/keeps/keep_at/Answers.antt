-- `parts::keeps::keep_at` meets its contract. Assumes nothing.
use mathlib.Core.Path.{sym, ◌∙◌}
use Rattle.parts.proofs.KeepWays.{no_entries, keep_not, keep_room, keep_one}
use Rattle.parts.proofs.keeps.keep_at.Goals as goal

pub add_tombstone-requires-clause-ys_bound : goal.add_tombstone-requires-clause-ys_bound
add_tombstone-requires-clause-ys_bound c =
    keep_room _ _ _ c.requires.stored.stored c.requires.stored.enough _ _ c.requires.j_bound _ _ c.requires.wf _ c.item_at-item.ensures c.if-items-j.false (sym (c.is_tombstone.ensures _ _) ∙ c.if-is_tombstone.true) c.requires.room

pub add_tombstone-requires-clause-content_value : goal.add_tombstone-requires-clause-content_value
add_tombstone-requires-clause-content_value c =
    let parts = c.args.items.now.store.parts in
    no_entries _ parts.entries.now parts.bytes.now (sym (c.is_tombstone.ensures parts.entries.now parts.bytes.now) ∙ c.if-is_tombstone.true)

pub returns-then-is_tombstone : goal.returns-then-is_tombstone
returns-then-is_tombstone c =
    keep_one _ _ _ c.requires.stored.stored c.requires.stored.enough _ _ c.requires.j_bound _ _ c.requires.wf _ c.item_at-item.ensures c.if-items-j.false (sym (c.is_tombstone.ensures _ _) ∙ c.if-is_tombstone.true) _ _ c.add_tombstone.ensures

pub returns-else-is_tombstone : goal.returns-else-is_tombstone
returns-else-is_tombstone c =
    keep_not _ _ _ c.requires.stored.stored c.requires.stored.enough _ _ c.requires.j_bound _ _ c.requires.wf _ c.item_at-item.ensures c.if-items-j.false (sym (c.is_tombstone.ensures _ _) ∙ c.if-is_tombstone.false)
