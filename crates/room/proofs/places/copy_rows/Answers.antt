-- `room::places::copy_rows` meets its contract. Assumes nothing.
use Rattle.room.proofs.Loans.{lent-put}
use Rattle.stores.proofs.WrittenLaws.{length-rows_of}
use Prim.Native.Nat.{◌+◌, ◌*◌}
use native.Mathlib.Omega.{arith}
use Rattle.room.proofs.places.copy_rows.Goals as goal

pub returns-clause-ws_after : goal.returns-clause-ws_after
returns-clause-ws_after c =
    let n = c.args.cells in
    let k = length-rows_of c.args.content c.args.its_entries.now c.requires.rows_within in
    let e = c.requires.ws_len in
    let h = c.requires.content_bound in lent-put (2 + n * 90) (n * 128) c.args.ws.now (omega arith) _ (c.args.row * 8) _ c.copy_rows.ensures.entries_after (omega arith)
