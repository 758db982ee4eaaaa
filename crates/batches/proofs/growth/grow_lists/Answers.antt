-- `batches::growth::grow_lists` meets its contract. Assumes nothing.
use Rattle.log_batch.specs.Lent.{item_of}
use Rattle.batches.proofs.GrowthLaws.{tombstone-alone, cleaned-room, uncleaned, cleaned-grown}
use Rattle.batches.proofs.growth.grow_lists.Goals as goal

pub add_tombstone_if-requires : goal.add_tombstone_if-requires
add_tombstone_if-requires c = record { wf = c.requires.wf; room_for = tombstone-alone _ _ c.args.item c.args.ys.now c.requires.room_for; lent = c.requires.lent }

pub returns-then-not-cleaned : goal.returns-then-not-cleaned
returns-then-not-cleaned c =
    let item = item_of c.args.item c.args.entries.now c.args.bytes.now in
    uncleaned item c.args.ys.now c.args.cs.now _ _ c.args.tombstone c.add_tombstone_if.ensures c.args.cleaned c.if-not-cleaned.true

pub add_cleaned-requires : goal.add_cleaned-requires
add_cleaned-requires c =
    let item = item_of c.args.item c.args.entries.now c.args.bytes.now in
    record { ys_len = c.add_tombstone_if.ensures.wf.numbers-are; ys_bound = cleaned-room item c.args.ys.now c.args.cs.now _ _ c.args.tombstone c.add_tombstone_if.ensures c.args.cleaned c.args.item c.if-not-cleaned.false c.requires.wf c.requires.room_for }

pub returns : goal.returns
unfolding item_of
returns c =
    let item = item_of c.args.item c.args.entries.now c.args.bytes.now in
    cleaned-grown item c.args.ys.now c.args.cs.now _ _ c.args.tombstone c.add_tombstone_if.ensures c.args.cleaned c.if-not-cleaned.false _ (c.add_cleaned.ensures _ c.add_tombstone_if.ensures.wf)
