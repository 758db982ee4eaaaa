-- `merging::waits::count_finished` meets its contract. Assumes nothing.
use native.Mathlib.Omega.{arith}
use Rattle.contexts.specs.AreaLaws.{formed_of, area-length, area-bytes}
use Rattle.merging.proofs.WaitWays.{lent-room, lent-count}
use Rattle.merging.proofs.waits.count_finished.Goals as goal

pub slice_bounds-count_finals-end : goal.slice_bounds-count_finals-end
slice_bounds-count_finals-end c = omega (arith, area-length _ _ (formed_of _ _ c.requires.wf))

pub slice_bounds-count_finals-end-2 : goal.slice_bounds-count_finals-end-2
slice_bounds-count_finals-end-2 c = omega (arith, area-bytes _ _ (formed_of _ _ c.requires.wf))

pub slice_bounds-count_finals-end-3 : goal.slice_bounds-count_finals-end-3
slice_bounds-count_finals-end-3 c = omega (arith, area-length _ _ (formed_of _ _ c.requires.wf_2))

pub slice_bounds-count_finals-end-4 : goal.slice_bounds-count_finals-end-4
slice_bounds-count_finals-end-4 c = omega (arith, area-bytes _ _ (formed_of _ _ c.requires.wf_2))

pub count_finals-requires : goal.count_finals-requires
count_finals-requires c = record { room_wf = lent-room c.args.xs.now c.args.bs.now c.requires.wf.waiting.room; room_wf_2 = lent-room c.args.ys.now c.args.cs.now c.requires.wf_2.waiting.room }

pub returns : goal.returns
returns c = record { value = lent-count c.args.xs.now c.args.bs.now c.args.ys.now c.args.cs.now _ c.count_finals.ensures.value; upper_bound = c.count_finals.ensures.upper_bound }
