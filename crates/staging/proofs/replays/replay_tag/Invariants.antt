-- `staging::replays::replay_tag` meets its contract. Assumes nothing.
use lib.ListN.{drop}
use Rattle.stores.specs.Tags.{tagged_in, items_with}
use Rattle.worktable.specs.Work.{work_in}
use Rattle.staging.specs.Replays.{Replaying}
use Rattle.staging.proofs.replays.replay_tag.Given as goal

abbrev pub invariant-loop-j : goal.invariant-loop-j
invariant-loop-j l = Replaying (items_with l.tag (tagged_in l.items)) (work_in l.initial.p l.initial.b) (items_with l.tag (drop l.j (tagged_in l.items))) l.p l.b
