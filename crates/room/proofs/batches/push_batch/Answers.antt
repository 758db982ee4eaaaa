-- `room::batches::push_batch` meets its contract: the items passed are added. Assumes nothing.
use Rattle.room.proofs.Pushing.{pushing-none, pushing-room, pushing-more, pushing-all}
use Rattle.log_batch.specs.Lent.{row_count_of}
use Prim.Native.Nat.{◌<◌}
use Rattle.room.proofs.batches.push_batch.Goals as goal

pub loop-i-init : goal.loop-i-init
loop-i-init c =
    let batch = c.args.replay.now.batch in
    pushing-none batch.items.now batch.entries.now batch.bytes.now c.args.cells c.args.tag c.args.store c.args.ws.now c.args.vs.now c.requires.ws_len.0 c.requires.ws_len.1 c.requires.stored

pub push_item-all-requires-clause-bound : goal.push_item-all-requires-clause-bound
push_item-all-requires-clause-bound c =
    let batch = c.args.replay.now.batch in
    let below : c.loop-i.i < row_count_of batch.items.now = rw c.row_count-i-end.ensures at c.loop-i-test.true in
    pushing-room batch.items.now batch.entries.now batch.bytes.now c.args.cells c.args.tag c.args.store c.args.ws.now c.args.vs.now c.requires.ws_len.0 c.requires.ws_len.1 c.requires.stored c.loop-i.i c.loop-i.all c.loop-i.ws c.loop-i.vs c.loop-i.invariant below c.requires.bound.0 c.requires.bound.1

pub loop-i-preserved : goal.loop-i-preserved
loop-i-preserved c =
    let batch = c.args.replay.now.batch in
    let below : c.loop-i.i < row_count_of batch.items.now = rw c.row_count-i-end.ensures at c.loop-i-test.true in
    pushing-more batch.items.now batch.entries.now batch.bytes.now c.args.cells c.args.tag c.args.store c.args.ws.now c.args.vs.now c.requires.ws_len.0 c.requires.ws_len.1 c.requires.stored c.loop-i.i c.loop-i.all c.loop-i.ws c.loop-i.vs c.loop-i.invariant below _ _ _ c.push_item-all.auto.ws c.push_item-all.auto.vs c.push_item-all.ensures

pub returns : goal.returns
returns c =
    let batch = c.args.replay.now.batch in
    pushing-all batch.items.now batch.entries.now batch.bytes.now c.args.cells c.args.tag c.args.store c.args.ws.now c.args.vs.now c.requires.ws_len.0 c.requires.ws_len.1 c.requires.stored c.loop-i.i _ _ _ (rw c.row_count-i-end.ensures at c.loop-i-test.false) c.loop-i.invariant
