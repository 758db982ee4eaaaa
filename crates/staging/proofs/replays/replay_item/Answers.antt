-- `staging::replays::replay_item` meets its contract. Assumes nothing.
use Rattle.staging.proofs.ReplayWays.{replayed-taken}
use Rattle.staging.proofs.replays.replay_item.Goals as goal

pub act-requires : goal.act-requires
act-requires c =
    record { wf = c.requires.wf; taken = rw (c.deed_of-deed.ensures, c.rows_in-rows.ensures, c.key_in-key.ensures, c.value_in-value.ensures) (replayed-taken c.args.item _ _ _ c.requires.lent.0 c.requires.lent.1 c.requires.replayable) }
