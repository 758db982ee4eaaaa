-- `log_batch::mark::first_mark` meets its contract: the items from i on give the whole answer. Assumes nothing.
use mathlib.Core.Path.{sym, ap, ◌∙◌}
use Rattle.rules.specs.Checks.{first_mark}
use Rattle.log_batch.specs.Judged.{mark_as}
use Rattle.log_batch.specs.Lent.{items_of}
use Rattle.log_batch.proofs.ItemLaws.{items-start, mark-end, mark-found, mark-more}
use Rattle.log_batch.proofs.mark.first_mark.Goals as goal

pub loop-i-init : goal.loop-i-init
unfolding items_of
loop-i-init c = ap (first_mark 0) (items-start _ _ _ _)

pub returns-in-Some : goal.returns-in-Some
unfolding mark_as
returns-in-Some c =
    let i = rw c.row_count-i-end.ensures at c.loop-i-test.true in
    sym (c.loop-i.invariant ∙ mark-found _ _ _ c.loop-i.i _ _ i (sym c.in-Some.ensures))

pub loop-i-preserved : goal.loop-i-preserved
unfolding mark_as
loop-i-preserved c =
    let i = rw c.row_count-i-end.ensures at c.loop-i-test.true in
    c.loop-i.invariant ∙ mark-more _ _ _ c.loop-i.i _ i (sym c.in_default.ensures)

pub returns : goal.returns
unfolding mark_as
returns c = sym (c.loop-i.invariant ∙ mark-end _ _ _ c.loop-i.i _ (rw c.row_count-i-end.ensures at c.loop-i-test.false))
