-- `waiting::limits::count_in` meets its contract. Assumes nothing.
use Rattle.room.proofs.Loans.{lent_is, lent_length}
use Prim.Native.Nat.{◌+◌, ◌*◌}
use native.Mathlib.Omega.{arith}
use Rattle.waiting.proofs.limits.count_in.Goals as goal

pub count_tag-requires-clause-value : goal.count_tag-requires-clause-value
count_tag-requires-clause-value c =
    let n = c.args.cells in
    let e = c.requires.ws_len.0 in
    let h = c.requires.ws_len.1 in
    let i = lent_length (2 + n * 18) (n * 72) c.args.ws.now (omega arith) in
    let t = lent_length (2 + n * 10) (n * 8) c.args.ws.now (omega arith) in rw (lent_is (2 + n * 18) (n * 72) c.args.ws.now (omega arith)) c.requires.ws_value

pub returns : goal.returns
returns c =
    let n = c.args.cells in
    let e = c.requires.ws_len.0 in
    rw (← lent_is (2 + n * 18) (n * 72) c.args.ws.now (omega arith), ← lent_is (2 + n * 10) (n * 8) c.args.ws.now (omega arith)) c.count_tag.ensures
