-- `stores::parts::take_out` meets its contract: the items passed that have other tags stand at the front. Assumes nothing.
use Rattle.stores.proofs.TakingLaws.{Taking}
use Rattle.stores.specs.Stores.{area}
use Rattle.stores.proofs.parts.take_out.Given as goal

abbrev pub invariant-loop-j : goal.invariant-loop-j
invariant-loop-j l = Taking (area l.initial.items l.initial.entries l.initial.bytes) l.initial.tags l.tag l.fn.store.items l.j l.left (area l.items l.entries l.bytes) l.tags
