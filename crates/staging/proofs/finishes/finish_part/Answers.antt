-- `staging::finishes::finish_part` meets its contract. Assumes nothing.
use native.Mathlib.Omega.{arith}
use Rattle.contexts.specs.AreaLaws.{formed_of, area-length}
use Rattle.staging.proofs.FinishingWays.{room-length, ending-given, finished-none, finished-some}
use Rattle.staging.proofs.finishes.finish_part.Goals as goal

pub slice_bounds-find_finishing-end : goal.slice_bounds-find_finishing-end
slice_bounds-find_finishing-end c = let n = area-length _ _ (formed_of _ _ c.requires.wf) in omega (arith, n)

pub slice_bounds-find_finishing-end-2 : goal.slice_bounds-find_finishing-end-2
slice_bounds-find_finishing-end-2 c = let n = area-length _ _ (formed_of _ _ c.requires.newer-wf) in omega (arith, n)

pub find_finishing-requires : goal.find_finishing-requires
find_finishing-requires c =
    let n = area-length _ _ (formed_of _ _ c.requires.wf) in
    let m = area-length _ _ (formed_of _ _ c.requires.newer-wf) in
    (room-length c.args.xs.now n, room-length c.args.ys.now m)

pub finish_with-requires : goal.finish_with-requires
finish_with-requires c = ending-given c.args.group c.args.xs.now c.args.bs.now c.args.ys.now c.args.cs.now c.requires c.find_finishing.result c.find_finishing.ensures c.in-Some.ending c.in-Some.is

pub returns-in-None : goal.returns-in-None
returns-in-None c = finished-none c.args.group c.args.xs.now c.args.bs.now c.args.ys.now c.args.cs.now c.requires c.find_finishing.result c.find_finishing.ensures c.in-None.is

pub returns-in-Some : goal.returns-in-Some
returns-in-Some c =
    finished-some c.args.group c.args.xs.now c.args.bs.now c.args.ys.now c.args.cs.now c.requires c.find_finishing.result c.find_finishing.ensures c.in-Some.ending c.in-Some.is c.finish_with.result c.finish_with.new.xs c.finish_with.new.bs c.finish_with.ensures
