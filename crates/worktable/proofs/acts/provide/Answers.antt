-- `worktable::acts::provide` meets its contract. Assumes nothing.
use borrow.Author.Tests.{eq-eqb, ne_eqb}
use Rattle.stretch.specs.Stretch.{is_used}
use Rattle.worktable.specs.WorkLaws.{stands-own, stands-made}
use Rattle.worktable.proofs.acts.provide.Goals as goal

pub returns-then-p-eq1 : goal.returns-then-p-eq1
unfolding is_used
returns-then-p-eq1 c = λ b w. stands-own _ b w (eq-eqb _ _ c.if-p-eq1.true)

pub returns : goal.returns
unfolding is_used
returns c = λ b w. rw c.make.ensures (stands-made _ b w (ne_eqb _ _ c.if-p-eq1.false))
