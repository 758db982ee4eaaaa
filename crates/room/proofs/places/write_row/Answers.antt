-- `room::places::write_row` meets its contract. Assumes nothing.
use Rattle.room.proofs.Loans.{lent-put}
use Rattle.stores.proofs.WrittenLaws.{length-row}
use Prim.Native.Nat.{◌+◌, ◌*◌}
use native.Mathlib.Omega.{arith}
use Rattle.room.proofs.places.write_row.Goals as goal

pub returns : goal.returns
returns c =
    let n = c.args.cells in
    let k = length-row c.args.item c.args.row (c.args.i * 64) in
    let e = c.requires.ws_len in
    let h = c.requires.i_bound in
    lent-put (2 + n * 18) (n * 72) c.args.ws.now (omega arith) _ (c.args.i * 9) _ c.write_row.ensures (omega arith)
