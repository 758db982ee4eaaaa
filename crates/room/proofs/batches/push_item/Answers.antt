-- `room::batches::push_item` meets its contract. Assumes nothing.
use Rattle.room.proofs.Pushing.{plain-counts, pushed-mark, pushed-plain}
use native.Mathlib.Omega.{arith}
use Rattle.room.proofs.batches.push_item.Goals as goal

pub returns-in_default : goal.returns-in_default
returns-in_default c =
    let batch = c.args.replay.now.batch in
    pushed-mark batch.items.now batch.entries.now batch.bytes.now c.args.i _ _ _ c.requires.stored (rw c.in_default.is at c.unmarked_at.ensures)

pub add-requires-clause-store_bound : goal.add-requires-clause-store_bound
add-requires-clause-store_bound c =
    let batch = c.args.replay.now.batch in
    let plain = rw c.in-Some.is at c.unmarked_at.ensures in
    let z = plain-counts batch.items.now batch.entries.now batch.bytes.now c.args.i _ plain in
    let z0 = z.0 in
    let z1 = z.1 in
    let a = c.requires.bound.0 in
    let b = c.requires.bound.1 in (omega arith, omega arith)

pub returns : goal.returns
returns c =
    let batch = c.args.replay.now.batch in
    let plain = rw c.in-Some.is at c.unmarked_at.ensures in
    pushed-plain batch.items.now batch.entries.now batch.bytes.now c.args.i c.args.cells c.args.ws.now c.args.vs.now _ _ c.args.store c.args.tag _ _ c.requires.ws_len.0 c.requires.ws_len.1 c.add.auto.ws c.add.auto.vs plain c.add.ensures
