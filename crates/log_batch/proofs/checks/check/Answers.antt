-- `log_batch::checks::check` meets its contract: after i items the best refusal is that of the items before i. Assumes nothing.
use mathlib.Core.Path.{refl, sym}
use borrow.Author.Rules.{rules}
use denote.Enum.Bare.{same_true}
use Rattle.pipe_log.specs.contracts.causes.Cause.{the_type}
use Rattle.log_batch.specs.Judged.{checked_as}
use Rattle.log_batch.proofs.CheckLaws.{scan-start, scan-more, refused-2, refused_at-end, passed_at-end}
use Rattle.log_batch.proofs.checks.check.Goals as goal
use Rattle.log_batch.proofs.checks.check.Goals.{in_default-via-in-None-1, in_default-via-in-Some+else-eq}

pub loop-i-init : goal.loop-i-init
loop-i-init c = scan-start _ _ _ _ _ _ refl

pub returns-in-loop-i : goal.returns-in-loop-i
unfolding checked_as
returns-in-loop-i c =
    let turn = c.loop-i in
    let i = rw c.row_count-i-end.ensures at c.loop-i-test.true in
    let next = scan-more _ _ _ _ _ _ turn.i i _ _ _ turn.invariant c.least_at.ensures c.lesser-best.ensures in
    refused-2 _ _ _ _ _ _ _ c.mark_for-mark.ensures _ (same_true the_type (search rules) _ _ (sym c.if-eq.ensures)) (rw c.in-Some.is at next)

pub loop-i-preserved : goal.loop-i-preserved
loop-i-preserved c =
    let turn = c.loop-i in
    let i = rw c.row_count-i-end.ensures at c.loop-i-test.true in
    let next = scan-more _ _ _ _ _ _ turn.i i _ _ _ turn.invariant c.least_at.ensures c.lesser-best.ensures in
    elim c.in_default.branch [
      | in_default-via-in-None-1 w ↦ rw w.best-is next
      | in_default-via-in-Some+else-eq w ↦ rw (w.best-is, ← w.in-Some.is) next
    ]

pub returns-in-Some-best : goal.returns-in-Some-best
unfolding checked_as
returns-in-Some-best c =
    refused_at-end _ _ _ _ _ _ c.loop-i.i c.mark_for-mark.ensures (rw c.row_count-i-end.ensures at c.loop-i-test.false) _ (rw c.in-Some-best.is at c.loop-i.invariant)

pub returns-in-None : goal.returns-in-None
unfolding checked_as
returns-in-None c =
    passed_at-end _ _ _ _ _ _ c.loop-i.i c.mark_for-mark.ensures (rw c.row_count-i-end.ensures at c.loop-i-test.false) (rw c.in-None.is at c.loop-i.invariant)
