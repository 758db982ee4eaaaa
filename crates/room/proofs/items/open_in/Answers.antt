-- `room::items::open_in` meets its contract. Assumes nothing.
use Rattle.room.proofs.Loans.{lent_length}
use Rattle.room.proofs.Opening.{opened_in}
use Rattle.log_batch.specs.Lent.{row_count_of}
use Prim.Native.Nat.{◌+◌, ◌*◌}
use native.Mathlib.Omega.{arith}
use Rattle.room.proofs.items.open_in.Goals as goal

pub open_item-requires : goal.open_item-requires
unfolding row_count_of
open_item-requires c =
    let n = c.args.cells in
    let e = c.requires.ws_len.0 in
    let h = c.requires.j_bound in
    let m = lent_length (2 + n * 18) (n * 72) c.args.ws.now (omega arith) in
    rw m (omega arith)

pub returns : goal.returns
returns c = opened_in c.args.cells c.args.ws.now c.args.vs.now c.requires.ws_len.0 c.requires.ws_len.1 c.args.j _ c.open_item.ensures.value c.open_item.ensures.opened_within
