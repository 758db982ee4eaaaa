-- `groups::search::find` meets its contract: the stretches passed are not of the group. Assumes nothing.
use native.Mathlib.Nat.{le_antisymm, mod-lt}
use native.Mathlib.Omega.{arith}
use Rattle.groups.proofs.Finding.{passed-other, passed-free, found_here, passed-full, passed-some}
use Rattle.groups.proofs.search.find.Goals as goal
use Rattle.groups.proofs.search.find.Goals.{then-xs-at-ne1, else-xs-at-ne1+else-xs-at}

pub returns-then-xs-at : goal.returns-then-xs-at
returns-then-xs-at c = found_here _ _ _ (mod-lt _ (omega arith)) c.if-xs-at-ne1.false c.if-xs-at.true

pub loop-i-preserved : goal.loop-i-preserved
loop-i-preserved c =
    elim c.if-xs-at-ne1.branch [
      | then-xs-at-ne1 w ↦ rw (w.free-is, w.or-free.ensures) (passed-free _ _ _ _ _ (omega (arith, c.loop-i-test.true)) c.loop-i.invariant w.if-xs-at-ne1.true)
      | else-xs-at-ne1+else-xs-at w ↦ rw w.free-is (passed-other _ _ _ _ _ (omega (arith, c.loop-i-test.true)) c.loop-i.invariant w.if-xs-at-ne1.false w.if-xs-at.false)
    ]

pub returns-in-None : goal.returns-in-None
returns-in-None c = passed-full _ _ _ _ (rw (le_antisymm c.loop-i.auto.i-end c.loop-i-test.false) at c.loop-i.invariant) c.in-None.is

pub returns-in-Some : goal.returns-in-Some
returns-in-Some c = passed-some _ _ _ _ (rw (le_antisymm c.loop-i.auto.i-end c.loop-i-test.false) at c.loop-i.invariant) _ c.in-Some.is
