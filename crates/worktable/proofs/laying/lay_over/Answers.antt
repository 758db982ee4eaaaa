-- `worktable::laying::lay_over` meets its contract. Assumes nothing.
use borrow.Author.Tests.{eq-eqb, ne_eqb}
use Rattle.stretch.specs.Stretch.{is_used}
use Rattle.worktable.specs.WorkLaws.{work-some, work_none}
use Rattle.worktable.specs.LayLaws.{ends-append, ends-rewrite, ends_there, ends-adopted}
use Rattle.worktable.proofs.laying.lay_over.Goals as goal

pub returns-then-p-eq1 : goal.returns-then-p-eq1
unfolding is_used
returns-then-p-eq1 c =
    let u = work-some c.args.p.now c.args.b.now (eq-eqb _ _ c.if-p-eq1.true) in
    rw u (ends_there _ _ _ _ _ _ (rw u at c.lay_made.ensures))

pub returns-in-Append : goal.returns-in-Append
returns-in-Append c = rw c.in-Append.is (ends-append _ _ _ _ _ c.lay_made-in-Append.ensures)

pub returns-in-Rewrite : goal.returns-in-Rewrite
returns-in-Rewrite c = rw c.in-Rewrite.is (ends-rewrite _ _ _ _ _ c.lay_made-in-Rewrite.ensures)

pub returns-in-Join : goal.returns-in-Join
unfolding is_used
returns-in-Join c = rw (c.in-Join.is, work_none c.args.p.now c.args.b.now (ne_eqb _ _ c.if-p-eq1.false)) (ends-adopted _ _ _ c.adopt.ensures)
