-- `batches::growth::grow` meets its contract. Assumes nothing.
use Rattle.log_batch.specs.Lent.{item_of}
use Rattle.batches.proofs.GrowthLaws.{numbers-before, bytes-before, lent_wf, lent-room, area-grown}
use Rattle.batches.proofs.growth.grow.Goals as goal

pub slice_bounds-grow_lists-count : goal.slice_bounds-grow_lists-count
slice_bounds-grow_lists-count c = numbers-before c.args.xs.now c.args.bs.now c.requires.wf

pub slice_bounds-grow_lists-start : goal.slice_bounds-grow_lists-start
slice_bounds-grow_lists-start c = numbers-before c.args.xs.now c.args.bs.now c.requires.wf

pub slice_bounds-grow_lists-count-2 : goal.slice_bounds-grow_lists-count-2
slice_bounds-grow_lists-count-2 c = bytes-before c.args.xs.now c.args.bs.now c.requires.wf

pub slice_bounds-grow_lists-start-2 : goal.slice_bounds-grow_lists-start-2
slice_bounds-grow_lists-start-2 c = bytes-before c.args.xs.now c.args.bs.now c.requires.wf

pub grow_lists-requires : goal.grow_lists-requires
grow_lists-requires c = record { wf = lent_wf 9376 16384 c.args.xs.now c.args.bs.now c.requires.wf; room_for = lent-room 9376 16384 c.args.xs.now c.args.bs.now _ _ _ c.requires.room_for; lent = c.requires.lent }

pub returns : goal.returns
returns c = area-grown c.args.tombstone c.args.cleaned (item_of c.args.item c.args.entries.now c.args.bytes.now) c.args.xs.now c.args.bs.now _ _ c.requires.wf c.grow_lists.ensures
