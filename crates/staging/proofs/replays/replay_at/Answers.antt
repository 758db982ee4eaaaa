-- `staging::replays::replay_at` meets its contract. Assumes nothing.
use Rattle.staging.proofs.ReplayWays.{other-replayed, at_replayable, at_bare, at-replayed}
use Rattle.staging.proofs.replays.replay_at.Goals as goal

pub returns-then-items-j : goal.returns-then-items-j
returns-then-items-j c = other-replayed _ _ _ c.requires.stored.stored c.requires.stored.enough _ _ c.requires.j_bound _ _ c.requires.replayable c.if-items-j.true c.requires.wf

pub replay_item-requires : goal.replay_item-requires
replay_item-requires c =
    let s = c.requires.stored in record { wf = c.requires.wf; lent = (c.item_at-item.ensures.lent, at_bare _ _ _ s.stored s.enough _ _ c.requires.j_bound _ _ c.requires.replayable _ c.item_at-item.ensures c.if-items-j.false); replayable = at_replayable _ _ _ s.stored s.enough _ _ c.requires.j_bound _ _ c.requires.replayable _ c.item_at-item.ensures c.if-items-j.false }

pub returns : goal.returns
returns c = let s = c.requires.stored in at-replayed _ _ _ s.stored s.enough _ _ c.requires.j_bound _ _ c.requires.replayable _ c.item_at-item.ensures c.if-items-j.false _ _ c.replay_item.ensures
