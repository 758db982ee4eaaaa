-- `room::places::move_rows` meets its contract. Assumes nothing.
use Rattle.room.proofs.Loans.{lent-moved}
use Rattle.stores.specs.Written.{rows_of}
use Rattle.stores.proofs.WrittenLaws.{length-rows_of}
use Rattle.cells.specs.Part.{part}
use Rattle.cells.specs.PartLaws.{length_part}
use Prim.Native.Nat.{◌+◌, ◌*◌}
use native.Mathlib.Omega.{arith}
use Rattle.room.proofs.places.move_rows.Goals as goal

pub returns-clause-ws_after : goal.returns-clause-ws_after
returns-clause-ws_after c =
    let n = c.args.cells in
    let e = c.requires.ws_len in
    let h = c.requires.content_bound in
    let m = length_part (2 + n * 90) (n * 128) c.args.ws.now (omega arith) in
    let k = length-rows_of c.args.content (part (2 + n * 90) (n * 128) c.args.ws.now) (rw m c.requires.rows_within) in lent-moved (2 + n * 90) (n * 128) c.args.ws.now (omega arith) (rows_of c.args.content) _ (c.args.row * 8) c.move_rows.ensures.entries_after (omega arith)
