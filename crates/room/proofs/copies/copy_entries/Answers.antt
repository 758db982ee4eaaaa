-- `room::copies::copy_entries` meets its contract. Assumes nothing.
use Rattle.room.proofs.Loans.{lent_is}
use Prim.Native.Nat.{◌+◌, ◌*◌}
use native.Mathlib.Omega.{arith}
use Rattle.room.proofs.copies.copy_entries.Goals as goal

pub returns : goal.returns
returns c =
    let n = c.args.cells in
    let e = c.requires.ws_len in
    rw (← lent_is (2 + n * 90) (n * 128) c.args.ws.now (omega arith)) c.copy_rows.ensures.entries_after
