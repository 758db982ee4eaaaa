-- `staging::work::bury_newer` meets its contract. Assumes nothing.
use Rattle.staging.proofs.WorkWays.{lent-tombed, lent-only}
use native.Mathlib.Omega.{arith}
use Rattle.contexts.specs.AreaLaws.{formed_of, area-length, area-bytes}
use Rattle.staging.proofs.work.bury_newer.Goals as goal

pub slice_bounds-rows-end : goal.slice_bounds-rows-end
slice_bounds-rows-end c = let n = area-length _ _ (formed_of _ _ c.requires.wf_2) in omega (arith, n)

pub slice_bounds-bytes-end : goal.slice_bounds-bytes-end
slice_bounds-bytes-end c = let n = area-bytes _ _ (formed_of _ _ c.requires.wf_2) in omega (arith, n)

pub bounds-ys : goal.bounds-ys
bounds-ys c = let n = area-length _ _ (formed_of _ _ c.requires.wf_2) in omega (arith, n)

pub bury-requires : goal.bury-requires
bury-requires c =
    let all = lent-only c.args.ys.now c.args.cs.now c.requires.wf_2 in record { wf = c.requires.wf; within = c.requires.within; stored = all.0; tombstones = all.1 }

pub returns : goal.returns
returns c = lent-tombed c.args.ys.now c.args.cs.now c.args.group c.args.p.now c.args.b.now c.bury.new.p c.bury.new.b c.bury.ensures
