-- `staging::stages::stage_all` meets its contract: the numbers of the places passed are staged. Assumes nothing.
use native.Mathlib.Nat.{le_antisymm}
use Rattle.staging.specs.ModeLaws.{beside-given}
use Rattle.staging.proofs.TurnWays.{all_none, all_more}
use Rattle.staging.proofs.stages.stage_all.Goals as goal

pub loop-i-init : goal.loop-i-init
loop-i-init c = all_none c.args.mode c.args.xs.now c.args.bs.now c.args.ys.now c.args.cs.now c.requires.given c.requires.ready

pub turn-flags-requires : goal.turn-flags-requires
turn-flags-requires c = record { given = beside-given _ _ _ _ _ _ _ c.loop-i.invariant.beside c.requires.given; ready = c.loop-i.invariant.ready; i_bound = c.loop-i-test.true }

pub loop-i-preserved : goal.loop-i-preserved
loop-i-preserved c = all_more _ _ _ _ _ c.requires.given _ _ _ _ _ _ _ c.loop-i.invariant c.turn-flags.ensures

pub returns : goal.returns
returns c = rw (le_antisymm c.loop-i.auto.i-end c.loop-i-test.false) at c.loop-i.invariant
