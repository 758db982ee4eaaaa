-- `room::batches::count_batch` meets its contract: the counts are those of the items passed. Assumes nothing.
use Rattle.room.proofs.Pushing.{few-rows, counting-none, counting_more, counting_all}
use native.Mathlib.Omega.{arith}
use Rattle.room.proofs.batches.count_batch.Goals as goal

pub loop-i-init : goal.loop-i-init
loop-i-init c =
    let batch = c.args.replay.now.batch in
    counting-none batch.items.now batch.entries.now batch.bytes.now

pub loop-i-preserved : goal.loop-i-preserved
loop-i-preserved c =
    let batch = c.args.replay.now.batch in
    counting_more batch.items.now batch.entries.now batch.bytes.now c.loop-i.i c.loop-i.count _ c.loop-i.invariant c.count_item-count.ensures.result_value c.count_item-count.ensures.entries_value c.count_item-count.ensures.result_bound

pub returns : goal.returns
returns c =
    let batch = c.args.replay.now.batch in
    let a = c.loop-i-test.false in
    let b = c.loop-i.auto.i-end in
    let n = c.row_count-i-end.ensures in
    let all = counting_all batch.items.now batch.entries.now batch.bytes.now c.loop-i.i _ (omega arith) (omega arith) c.loop-i.invariant (few-rows batch.items.now batch.entries.now batch.bytes.now c.args.replay.now.passed) in record { value = all.0; result_bound = (all.1, all.2) }
