-- `staging::replays::replay_part` meets its contract. Assumes nothing.
use Rattle.staging.proofs.replays.replay_part.Goals as goal

pub replay_tag-requires-clause-replayable : goal.replay_tag-requires-clause-replayable
replay_tag-requires-clause-replayable c = rw c.items_in.ensures.value c.requires.replayable

pub returns : goal.returns
returns c = rw c.items_in.ensures.value at c.replay_tag.ensures
