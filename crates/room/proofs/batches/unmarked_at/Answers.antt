-- `room::batches::unmarked_at` meets its contract. Assumes nothing.
use Rattle.room.proofs.Pushing.{never-refused, is-mark, is_plain}
use mathlib.Core.Path.{sym, ◌∙◌}
use Rattle.room.proofs.batches.unmarked_at.Goals as goal

pub unreachable-requires : goal.unreachable-requires
unreachable-requires c =
    let batch = c.args.replay.now.batch in
    never-refused batch.items.now batch.entries.now batch.bytes.now c.args.replay.now.passed c.args.i c.requires _ (sym c.open_item.ensures.value ∙ c.in_default.is)

pub returns-in-Some : goal.returns-in-Some
returns-in-Some c =
    let batch = c.args.replay.now.batch in
    is-mark batch.items.now batch.entries.now batch.bytes.now c.args.replay.now.passed c.args.i c.requires _ (sym c.open_item.ensures.value ∙ c.in-Ok.is) _ c.in-Some.ensures

pub returns-in-None : goal.returns-in-None
returns-in-None c =
    let batch = c.args.replay.now.batch in
    is_plain batch.items.now batch.entries.now batch.bytes.now c.args.replay.now.passed c.args.i c.requires _ (sym c.open_item.ensures.value ∙ c.in-Ok.is) c.in-None.ensures
