-- `room::items::keep_item` meets its contract: its row opens. Assumes nothing.
use Rattle.room.proofs.Taking.{row_below, movables}
use Rattle.room.specs.Layout.{room_of}
use Rattle.log_batch.specs.OpenLaws.{item-opened}
use lib.ListN.{drop}
use Prim.Native.Nat.{◌*◌}
use mathlib.Core.Path.{◌≡◌, sym, ◌∙◌}
use Rattle.room.proofs.items.keep_item.Goals as goal

pub open_in-requires-clause-j_bound : goal.open_in-requires-clause-j_bound
open_in-requires-clause-j_bound c =
    row_below c.args.cells c.args.ws.now c.args.vs.now c.requires.ws_len.0 c.requires.ws_len.1 c.args.j c.requires.movable.row

pub put_down-requires-clause-lent : goal.put_down-requires-clause-lent
put_down-requires-clause-lent c =
    let movable = c.requires.movable in
    let same : movable.item ≡ c.in-Ok.item = cc (sym movable.opens ∙ sym c.open_in.ensures.opens ∙ c.in-Ok.is) in
    let m = movables c.args.cells c.args.ws.now c.args.vs.now c.requires.ws_len.0 c.requires.ws_len.1 c.args.left c.args.j _ movable same in m.lent

pub put_down-requires-clause-left_bound : goal.put_down-requires-clause-left_bound
put_down-requires-clause-left_bound c =
    let movable = c.requires.movable in
    let same : movable.item ≡ c.in-Ok.item = cc (sym movable.opens ∙ sym c.open_in.ensures.opens ∙ c.in-Ok.is) in
    let m = movables c.args.cells c.args.ws.now c.args.vs.now c.requires.ws_len.0 c.requires.ws_len.1 c.args.left c.args.j _ movable same in m.fits

pub returns : goal.returns
returns c =
    let r = room_of c.args.cells c.args.ws.now c.args.vs.now in
    let opens = sym c.open_in.ensures.opens ∙ c.in-Ok.is in
    rw (item-opened r.entries r.bytes (drop (c.args.j * 9) r.items) _ opens) c.put_down.ensures
