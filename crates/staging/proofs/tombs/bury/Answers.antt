-- `staging::tombs::bury` meets its contract: the tombstones passed are carried out. Assumes nothing.
use Rattle.stores.specs.StoreLaws.{length-stored}
use Rattle.staging.proofs.TombWays.{buried_none, buried-room, buried-more, tombstone_at}
use Rattle.staging.proofs.tombs.bury.Goals as goal

pub loop-j-init : goal.loop-j-init
loop-j-init c = buried_none _ c.args.store.now.counts _ _ _ c.requires.wf c.requires.within

pub bury_item-requires : goal.bury_item-requires
bury_item-requires c =
    record { wf = c.loop-j.invariant.becomes.wf; within = buried-room _ c.args.store.now.counts _ _ _ _ _ _ c.loop-j.invariant; lent = c.item_at-item.ensures.lent; bytes_value = tombstone_at _ _ _ _ c.item_at-item.ensures (rw (length-stored _ _ c.requires.stored) c.loop-j-test.true) c.requires.tombstones }

pub loop-j-preserved : goal.loop-j-preserved
loop-j-preserved c = buried-more _ c.args.store.now.counts _ _ _ _ _ _ c.loop-j.invariant _ _ _ c.item_at-item.ensures c.bury_item.ensures
