-- `room::items::put_down` meets its contract. Assumes nothing.
use Rattle.room.proofs.Adding.{moved_in}
use Rattle.room.specs.LayoutLaws.{length-entries, length-bytes}
use Rattle.room.specs.PlaceLaws.{bytes-are}
use Rattle.room.specs.Layout.{room_of}
use mathlib.Core.Path.{refl, ◌∙◌}
use Rattle.room.proofs.items.put_down.Goals as goal

pub returns : goal.returns
returns c =
    let n = c.args.cells in
    let ws = c.args.ws.now in
    let vs = c.args.vs.now in
    let e = c.requires.ws_len.0 in
    let f = c.requires.ws_len.1 in
    let it = c.args.item in
    let r = room_of n ws vs in
    let l = length-entries n ws vs e f in
    let m = length-bytes n ws vs e f in
    moved_in n ws vs e f c.args.left it r.entries r.bytes c.requires.stored (rw (l, m) c.requires.lent) c.requires.left_bound.0 c.requires.left_bound.1 _ _ _ _ c.write_row.ensures (c.move_bytes.ensures ∙ rw (bytes-are n ws vs f)) c.move_rows-end.ensures.value refl c.move_rows-end.ensures.ws_after
