-- `merging::waits::keep_finished` meets its contract. Assumes nothing.
use borrow.Author.Rules.{part_to_end}
use Rattle.cells.specs.PartLaws.{part-is}
use Rattle.merging.proofs.WaitWays.{finished-kept}
use Rattle.merging.proofs.waits.keep_finished.Goals as goal

pub keep_finals-requires : goal.keep_finals-requires
keep_finals-requires c =
    rw (part_to_end c.args.xs.now 9376, part_to_end c.args.bs.now 16384, c.copy_room.ensures.0, c.copy_room.ensures.1, part-is 10019 3490 c.args.ys.now, part-is 20480 8192 c.args.cs.now) (record { wf = c.requires.wf; room_wf = c.requires.room_wf; room_wf_2 = c.requires.room_wf_2; vs_bound = c.requires.bs_bound })

pub returns : goal.returns
returns c =
    finished-kept _ c.args.xs.now c.args.bs.now _ _ c.requires.wf (rw (part_to_end c.args.xs.now 9376, part_to_end c.args.bs.now 16384, c.copy_room.ensures.0, c.copy_room.ensures.1, part-is 10019 3490 c.args.ys.now, part-is 20480 8192 c.args.cs.now) at c.keep_finals.ensures)
