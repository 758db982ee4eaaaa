-- `room::items::keep_other` meets its contract. Assumes nothing.
use Rattle.room.proofs.Taking.{keeping_same, told-area, keeping-other}
use mathlib.Core.Path.{refl}
use Rattle.room.proofs.items.keep_other.Goals as goal

pub returns-then-its-tag : goal.returns-then-its-tag
returns-then-its-tag c = keeping_same c.args.cells c.args.ws.now c.args.vs.now c.requires.ws_len.0 c.requires.ws_len.1 c.args.tag c.args.left c.args.j c.requires.left_le_j.1 c.if-its-tag.true

pub keep_item-requires-clause-stored : goal.keep_item-requires-clause-stored
keep_item-requires-clause-stored c =
    let same = told-area c.args.cells c.args.ws.now c.args.vs.now c.requires.ws_len.0 c.requires.ws_len.1 c.args.left c.args.j _ c.requires.left_le_j.1 c.requires.left_le_j.0 refl in rw same c.requires.stored

pub keep_item-requires-clause-movable : goal.keep_item-requires-clause-movable
keep_item-requires-clause-movable c =
    let same = told-area c.args.cells c.args.ws.now c.args.vs.now c.requires.ws_len.0 c.requires.ws_len.1 c.args.left c.args.j _ c.requires.left_le_j.1 c.requires.left_le_j.0 refl in rw same c.requires.movable

pub returns : goal.returns
returns c =
    keeping-other c.args.cells c.args.ws.now c.args.vs.now c.requires.ws_len.0 c.requires.ws_len.1 c.args.left c.args.j _ c.requires.left_le_j.1 c.requires.left_le_j.0 refl c.args.tag _ _ _ c.if-its-tag.false c.keep_item.ensures
