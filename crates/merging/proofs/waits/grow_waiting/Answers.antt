-- `merging::waits::grow_waiting` meets its contract. Assumes nothing.
use Rattle.merging.proofs.WaitWays.{waits_mergeable, keep-asks, room-lengths, waiting-grown}
use Rattle.merging.proofs.waits.grow_waiting.Goals as goal

pub grow_merged-requires : goal.grow_merged-requires
grow_merged-requires c = waits_mergeable _ _ _ _ _ _ c.requires

pub keep_finished-requires : goal.keep_finished-requires
keep_finished-requires c = let all = keep-asks _ _ _ _ _ _ c.requires _ _ c.grow_merged.ensures in record { xs_len = all.0; wf = all.1.0; room_wf = all.1.1.0; room_wf_2 = all.1.1.1.0; bs_bound = all.1.1.1.1 }

pub put_room-requires : goal.put_room-requires
put_room-requires c = room-lengths _ _ _ _ _ _ c.requires _ _ c.grow_merged.ensures _ _ c.keep_finished.ensures

pub returns : goal.returns
returns c = rw (c.put_room.ensures.0, c.put_room.ensures.1) (waiting-grown _ _ _ _ _ _ c.requires _ _ c.grow_merged.ensures _ _ c.keep_finished.ensures)
