-- `batches::items::carry_out` meets its contract. Assumes nothing.
use borrow.Author.Rules.{part_to_end}
use Rattle.batches.specs.CarryLaws.{carried_no-room, lists-wf, room_for, carried-refused, carried-done}
use Rattle.std.proofs.lemmas.Result.{err_from_is_err_and}
use Rattle.batches.proofs.items.carry_out.Goals as goal

pub have_room-requires : goal.have_room-requires
have_room-requires c = rw (part_to_end c.args.xs.now 9376) c.requires.formed.rest.numbers-are

pub returns-then-not-have_room : goal.returns-then-not-have_room
returns-then-not-have_room c =
    carried_no-room c.args.call c.args.item c.args.entries.now c.args.bytes.now c.requires.item_ready c.args.last c.args.xs.now c.args.bs.now c.requires.formed c.requires.undoable c.adds_tombstone-tombstone.result c.adds_cleaned-cleaned.result c.have_room.result (c.adds_tombstone-tombstone.ensures c.args.entries.now c.args.bytes.now) (c.adds_cleaned-cleaned.ensures c.args.entries.now c.args.bytes.now) c.have_room.ensures c.if-not-have_room.true

pub grow-requires : goal.grow-requires
grow-requires c =
    record { wf = lists-wf c.args.call c.args.item c.args.entries.now c.args.bytes.now c.requires.item_ready c.args.last c.args.xs.now c.args.bs.now c.requires.formed c.requires.undoable c.adds_tombstone-tombstone.result c.adds_cleaned-cleaned.result c.have_room.result (c.adds_tombstone-tombstone.ensures c.args.entries.now c.args.bytes.now) (c.adds_cleaned-cleaned.ensures c.args.entries.now c.args.bytes.now) c.have_room.ensures c.if-not-have_room.false _ _ _ c.act_item.ensures; room_for = room_for c.args.call c.args.item c.args.entries.now c.args.bytes.now c.requires.item_ready c.args.last c.args.xs.now c.args.bs.now c.requires.formed c.requires.undoable c.adds_tombstone-tombstone.result c.adds_cleaned-cleaned.result c.have_room.result (c.adds_tombstone-tombstone.ensures c.args.entries.now c.args.bytes.now) (c.adds_cleaned-cleaned.ensures c.args.entries.now c.args.bytes.now) c.have_room.ensures c.if-not-have_room.false _ _ _ c.act_item.ensures; lent = c.requires.item_ready.lent_is }

pub returns : goal.returns
returns c =
    carried-done c.args.call c.args.item c.args.entries.now c.args.bytes.now c.requires.item_ready c.args.last c.args.xs.now c.args.bs.now c.requires.formed c.requires.undoable c.adds_tombstone-tombstone.result c.adds_cleaned-cleaned.result c.have_room.result (c.adds_tombstone-tombstone.ensures c.args.entries.now c.args.bytes.now) (c.adds_cleaned-cleaned.ensures c.args.entries.now c.args.bytes.now) c.have_room.ensures c.if-not-have_room.false _ _ _ c.act_item.ensures c.in_ok-act_item.was _ _ c.grow.ensures

pub returns-in_err-act_item : goal.returns-in_err-act_item
returns-in_err-act_item c =
    let e = err_from_is_err_and c.from_residual.result c.from_residual.ensures.1 in
    rw (e.1, e.2) (carried-refused c.args.call c.args.item c.args.entries.now c.args.bytes.now c.requires.item_ready c.args.last c.args.xs.now c.args.bs.now c.requires.formed c.requires.undoable c.adds_tombstone-tombstone.result c.adds_cleaned-cleaned.result c.have_room.result (c.adds_tombstone-tombstone.ensures c.args.entries.now c.args.bytes.now) (c.adds_cleaned-cleaned.ensures c.args.entries.now c.args.bytes.now) c.have_room.ensures c.if-not-have_room.false _ _ _ c.act_item.ensures _ c.in_err-act_item.was)
