-- `staging::stages::stage_one` meets its contract. Assumes nothing.
use native.Mathlib.Omega.{arith}
use Rattle.groups.specs.Laws.{found_at_lem}
use Rattle.contexts.specs.AreaLaws.{formed_of, area-length}
use Rattle.staging.proofs.Settling.{staged_already}
use Rattle.staging.proofs.StageWays.{settle-given, worked_staging}
use Rattle.staging.proofs.stages.stage_one.Goals as goal

pub find_staged-requires : goal.find_staged-requires
find_staged-requires c = let n = area-length _ _ (formed_of _ _ c.requires.given.wf) in omega (arith, n)

pub settle-requires : goal.settle-requires
settle-requires c =
    let all = settle-given _ _ _ _ _ _ c.requires.given.wf c.requires.ready c.work-outcome.ensures.working c.find_staged.ensures in
    record { ready = all.0; found = all.1.0; not_staged = c.in_default.not-At; xs_len = all.1.1; wf = c.work-outcome.ensures.ends.wf }

pub returns-in-At : goal.returns-in-At
returns-in-At c = staged_already _ _ _ _ _ c.requires.ready _ (found_at_lem _ _ _ _ c.find_staged.ensures c.in-At.is)

pub returns-in_default : goal.returns-in_default
returns-in_default c =
    worked_staging c.args.mode c.args.group c.args.flags c.settle.result c.args.xs.now c.args.bs.now c.args.ys.now c.args.cs.now c.work-outcome.new.xs c.work-outcome.new.bs c.work-outcome.result c.settle.new.xs c.settle.new.bs c.work-outcome.ensures c.settle.ensures
