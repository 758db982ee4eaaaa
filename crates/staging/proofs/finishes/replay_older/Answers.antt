-- `staging::finishes::replay_older` meets its contract. Assumes nothing.
use borrow.Author.Rules.{part_to_end}
use Rattle.staging.proofs.FinishingWays.{lent-replayed}
use Rattle.staging.proofs.finishes.replay_older.Goals as goal

pub replay_part-requires : goal.replay_part-requires
replay_part-requires c =
    rw (part_to_end c.args.xs.now 13509, part_to_end c.args.bs.now 28672, c.copy_room.ensures.0, c.copy_room.ensures.1) (record { wf = c.requires.wf; room_wf = c.requires.room_wf; replayable = c.requires.replayable })

pub returns : goal.returns
returns c =
    lent-replayed c.args.tag c.args.xs.now c.args.bs.now c.copy_room.new.ws c.copy_room.new.vs c.replay_part.new.p c.replay_part.new.b c.requires.xs_len.0 c.requires.xs_len.1 c.copy_room.ensures.0 c.copy_room.ensures.1 c.replay_part.ensures
