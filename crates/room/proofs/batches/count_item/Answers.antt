-- `room::batches::count_item` meets its contract. Assumes nothing.
use Rattle.room.proofs.Pushing.{few-rows, mark-counts, plain-counts}
use native.Mathlib.Omega.{arith}
use Rattle.room.proofs.batches.count_item.Goals as goal

pub returns-in_default-clause-result_value : goal.returns-in_default-clause-result_value
returns-in_default-clause-result_value c =
    let batch = c.args.replay.now.batch in
    let z = mark-counts batch.items.now batch.entries.now batch.bytes.now c.args.i (rw c.in_default.is at c.unmarked_at.ensures) in
    let z0 = z.0 in
    let z1 = z.1 in
    let a = c.requires.count_le_i.0 in
    let b = c.requires.count_le_i.1 in omega arith

pub returns-in_default-clause-entries_value : goal.returns-in_default-clause-entries_value
returns-in_default-clause-entries_value c =
    let batch = c.args.replay.now.batch in
    let z = mark-counts batch.items.now batch.entries.now batch.bytes.now c.args.i (rw c.in_default.is at c.unmarked_at.ensures) in
    let z0 = z.0 in
    let z1 = z.1 in
    let a = c.requires.count_le_i.0 in
    let b = c.requires.count_le_i.1 in omega arith

pub overflow_add-result : goal.overflow_add-result
overflow_add-result c =
    let batch = c.args.replay.now.batch in
    let plain = rw c.in-Some.is at c.unmarked_at.ensures in
    let few = plain.few in
    let a = c.requires.count_le_i.0 in
    let h = c.requires.i_bound in
    let rows = few-rows batch.items.now batch.entries.now batch.bytes.now c.args.replay.now.passed in
    omega arith

pub overflow_add-result-2 : goal.overflow_add-result-2
overflow_add-result-2 c =
    let batch = c.args.replay.now.batch in
    let plain = rw c.in-Some.is at c.unmarked_at.ensures in
    let few = plain.few in
    let e = c.count_of.ensures in
    let b = c.requires.count_le_i.1 in
    let h = c.requires.i_bound in
    let rows = few-rows batch.items.now batch.entries.now batch.bytes.now c.args.replay.now.passed in
    omega arith

pub returns-clause-result_value : goal.returns-clause-result_value
returns-clause-result_value c =
    let batch = c.args.replay.now.batch in
    let plain = rw c.in-Some.is at c.unmarked_at.ensures in
    let z = plain-counts batch.items.now batch.entries.now batch.bytes.now c.args.i _ plain in
    let z0 = z.0 in
    let z1 = z.1 in
    let few = plain.few in
    let e = c.count_of.ensures in
    let a = c.requires.count_le_i.0 in
    let b = c.requires.count_le_i.1 in omega arith

pub returns-clause-entries_value : goal.returns-clause-entries_value
returns-clause-entries_value c =
    let batch = c.args.replay.now.batch in
    let plain = rw c.in-Some.is at c.unmarked_at.ensures in
    let z = plain-counts batch.items.now batch.entries.now batch.bytes.now c.args.i _ plain in
    let z0 = z.0 in
    let z1 = z.1 in
    let few = plain.few in
    let e = c.count_of.ensures in
    let a = c.requires.count_le_i.0 in
    let b = c.requires.count_le_i.1 in omega arith
