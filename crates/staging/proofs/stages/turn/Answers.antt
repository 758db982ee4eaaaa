-- `staging::stages::turn` meets its contract. Assumes nothing.
use native.Mathlib.Omega.{arith}
use Rattle.contexts.specs.AreaLaws.{formed_of, area-length}
use Rattle.staging.proofs.TurnWays.{turn-none, turn_one}
use Rattle.staging.proofs.stages.turn.Goals as goal

pub number_at-requires : goal.number_at-requires
number_at-requires c =
    let n = area-length _ _ (formed_of _ _ c.requires.given.wf) in let m = area-length _ _ (formed_of _ _ c.requires.given.newer-wf) in record { i_bound = c.requires.i_bound; in_bounds = (omega (arith, n), omega (arith, m)) }

pub returns-in-None : goal.returns-in-None
returns-in-None c = turn-none _ _ _ _ _ _ c.number_at.ensures c.in-None.is c.requires.ready

pub returns-in-Some : goal.returns-in-Some
returns-in-Some c = turn_one _ _ _ _ _ _ c.number_at.ensures _ _ _ _ c.in-Some.is c.stage_one.ensures
