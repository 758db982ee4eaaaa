-- `log_batch::mark::mark_at` meets its contract. Assumes nothing.
use mathlib.Core.Path.{sym, ◌∙◌}
use Prim.Native.Nat.{◌*◌}
use lib.ListN.{drop}
use Rattle.maps.specs.Lists.{map_option}
use Rattle.rules.specs.Items.{mark_byte}
use Rattle.log_batch.specs.Judged.{mark_of, mark_as, mark_here}
use Rattle.log_batch.specs.Lent.{item_of, opened_of}
use Rattle.log_batch.proofs.ItemLaws.{item-is}
use Rattle.log_batch.proofs.mark.mark_at.Goals as goal

pub returns-in_default : goal.returns-in_default
unfolding mark_as mark_here opened_of mark_byte map_option
returns-in_default c =
    let args = c.args in
    rw (item-is args.batch.now.entries.now args.batch.now.bytes.now (drop (args.i * 9) args.batch.now.items.now) _ (sym c.open_item.ensures.value ∙ c.in_default.is))

pub returns-in_err-byte : goal.returns-in_err-byte
unfolding mark_as mark_here opened_of item_of map_option
returns-in_err-byte c =
    let args = c.args in
    rw (item-is args.batch.now.entries.now args.batch.now.bytes.now (drop (args.i * 9) args.batch.now.items.now) _ (sym c.open_item.ensures.value ∙ c.in-Ok.is), ← c.in_err-byte.ensures args.batch.now.entries.now, c.from_residual.ensures)

pub returns : goal.returns
unfolding mark_as mark_of mark_here opened_of item_of map_option
returns c =
    let args = c.args in
    rw (item-is args.batch.now.entries.now args.batch.now.bytes.now (drop (args.i * 9) args.batch.now.items.now) _ (sym c.open_item.ensures.value ∙ c.in-Ok.is), ← c.in_ok-byte.ensures args.batch.now.entries.now)
