-- `merging::waits::accept_waiting` meets its contract. Assumes nothing.
use native.Mathlib.Omega.{arith}
use Rattle.cells.specs.PartLaws.{part-is}
use Rattle.contexts.specs.AreaLaws.{formed_of, area-length, area-bytes}
use Rattle.merging.proofs.WaitWays.{accepted-waiting}
use Rattle.merging.proofs.waits.accept_waiting.Goals as goal

pub copy_room-requires : goal.copy_room-requires
copy_room-requires c =
    let older = formed_of _ _ c.requires.wf in
    (area-length _ _ older, area-bytes _ _ older, c.requires.ws_len.0, c.requires.ws_len.1)

pub slice_bounds-take_parts-end : goal.slice_bounds-take_parts-end
slice_bounds-take_parts-end c = omega (arith, area-length _ _ (formed_of _ _ c.requires.wf_2))

pub slice_bounds-take_parts-end-2 : goal.slice_bounds-take_parts-end-2
slice_bounds-take_parts-end-2 c = omega (arith, area-bytes _ _ (formed_of _ _ c.requires.wf_2))

pub take_parts-requires : goal.take_parts-requires
take_parts-requires c =
    rw (c.copy_room.ensures.0, c.copy_room.ensures.1, part-is 10019 3490 c.args.ys.now, part-is 20480 8192 c.args.cs.now) (record { context_room = c.requires.wf.waiting; context_room_2 = c.requires.wf_2.waiting })

pub returns : goal.returns
returns c = accepted-waiting c.args.xs.now c.args.bs.now c.args.ys.now c.args.cs.now _ _ _ _ c.take_parts.result c.copy_room.ensures.0 c.copy_room.ensures.1 c.take_parts.ensures
