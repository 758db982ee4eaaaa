-- `batches::growth::add_tombstone_if` meets its contract. Assumes nothing.
use mathlib.Core.Path.{sym, ◌∙◌}
use lib.ListN.{get_or}
use borrow.Author.Tests.{ltb-true}
use Rattle.log_batch.specs.Lent.{item_of}
use Rattle.batches.proofs.GrowthLaws.{room-one, none-grown, tombstone-grown}
use Rattle.batches.proofs.growth.add_tombstone_if.Goals as goal

pub returns-then-not-added : goal.returns-then-not-added
returns-then-not-added c =
    let item = item_of c.args.item c.args.entries.now c.args.bytes.now in
    none-grown item c.args.ys.now c.args.cs.now c.args.added c.if-not-added.true c.requires.wf

pub add_tombstone-requires : goal.add_tombstone-requires
add_tombstone-requires c =
    let room = c.requires.room_for in
    let n = get_or c.args.ys.now 1 0 in
    record { wf = c.requires.wf; ys_bound = ltb-true n 64 (sym (room-one c.args.added n 64 c.if-not-added.false) ∙ room.tombstone-room); lent = c.requires.lent; content_value = room.no-entries c.if-not-added.false }

pub returns : goal.returns
returns c =
    let item = item_of c.args.item c.args.entries.now c.args.bytes.now in
    tombstone-grown item c.args.ys.now c.args.cs.now _ _ c.args.added c.if-not-added.false c.add_tombstone.ensures
