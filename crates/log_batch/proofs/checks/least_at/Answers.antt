-- `log_batch::checks::least_at` meets its contract. Assumes nothing.
use mathlib.Core.Path.{sym, ◌∙◌}
use borrow.Author.Tests.{eq-eqb}
use Prim.Native.Nat.{◌*◌}
use lib.ListN.{drop}
use Rattle.log_batch.specs.Lent.{opened_of}
use Rattle.log_batch.proofs.ItemLaws.{item-is}
use Rattle.log_batch.proofs.LeastLaws.{least_by, least-refused}
use Rattle.log_batch.proofs.checks.least_at.Goals as goal

pub returns-then-i-eq-MAX_ITEMS : goal.returns-then-i-eq-MAX_ITEMS
returns-then-i-eq-MAX_ITEMS c = rw (least_by _ _ _ _, eq-eqb _ _ c.if-i-eq-MAX_ITEMS.true)

pub returns-in_default : goal.returns-in_default
returns-in_default c =
    let args = c.args in
    rw (item-is args.batch.now.entries.now args.batch.now.bytes.now (drop (args.i * 9) args.batch.now.items.now) _ (sym c.open_item.ensures.value ∙ c.in_default.is)) (sym (least-refused _ _ _ _ _ _ c.if-i-eq-MAX_ITEMS.false))

pub returns : goal.returns
unfolding opened_of
returns c =
    let args = c.args in
    rw (item-is args.batch.now.entries.now args.batch.now.bytes.now (drop (args.i * 9) args.batch.now.items.now) _ (sym c.open_item.ensures.value ∙ c.in-Ok.is)) c.least_of.ensures
