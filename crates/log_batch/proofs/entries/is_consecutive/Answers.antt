-- `log_batch::entries::is_consecutive` meets its contract: the rows from row i - 1 on give the whole answer. Assumes nothing.
use mathlib.Core.Path.{◌≡◌, sym, ◌∙◌}
use Prim.Native.Nat.{◌+◌, ◌-◌}
use native.Mathlib.Omega.{arith}
use Rattle.log_batch.proofs.RowLaws.{consecutive-end, consecutive-next}
use Rattle.log_batch.proofs.entries.is_consecutive.Goals as goal

pub returns-then-not-follows : goal.returns-then-not-follows
returns-then-not-follows c =
    sym (c.loop-i.invariant ∙ consecutive-next _ _ c.loop-i.i _ c.loop-i.auto.i c.loop-i-test.true (sym c.if-not-follows.true ∙ c.follows.ensures))

pub loop-i-preserved : goal.loop-i-preserved
loop-i-preserved c =
    let s : c.loop-i.i + 1 - 1 ≡ c.loop-i.i = omega arith in
    rw s (c.loop-i.invariant ∙ consecutive-next _ _ c.loop-i.i _ c.loop-i.auto.i c.loop-i-test.true (sym c.if-not-follows.false ∙ c.follows.ensures))

pub returns : goal.returns
returns c = sym (c.loop-i.invariant ∙ consecutive-end _ (c.loop-i.i - 1) _ (omega arith))
