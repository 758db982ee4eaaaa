-- `columns::copies::copy_rows` meets its contract. Assumes nothing.
use mathlib.Core.Path.{◌≡◌}
use Prim.Native.Nat.{◌-◌, ◌*◌, ◌%◌}
use native.Mathlib.Omega.{arith}
use Rattle.memtable.specs.Fetches.{entries_at}
use Rattle.memtable.specs.RowLaws.{held-row, any-drop}
use Rattle.columns.proofs.ColumnWays.{index-none, cell-none, index-more, cell-more, four-more, rows_short, rows-done}
use Rattle.columns.proofs.copies.copy_rows.Goals as goal

pub returns-then-index-count : goal.returns-then-index-count
unfolding entries_at
returns-then-index-count c = rows_short _ _ _ _ c.if-index-count.true

pub loop-i-init : goal.loop-i-init
loop-i-init c = index-none _ _

pub loop-i-preserved : goal.loop-i-preserved
loop-i-preserved c = index-more _ _ c.loop-i.i (omega arith) _ c.loop-i.invariant

pub loop-k-init : goal.loop-k-init
loop-k-init c = record { queue = cell-none _ _ _; seq = cell-none _ _ _; offset = cell-none _ _ _; len = cell-none _ _ _; compression = cell-none _ _ _; entry_offset = cell-none _ _ _; entry_len = cell-none _ _ _ }

pub loop-k-preserved : goal.loop-k-preserved
loop-k-preserved c =
    let v = c.loop-k.invariant in
    let xs = c.args.part.now in
    let i = c.loop-k.k * 4 in
    record {
      queue = four-more _ xs c.args.from 1 i _ v.queue c.copy_four.ensures (omega arith) (omega arith);
      seq = four-more _ xs c.args.from 2 i _ v.seq c.copy_four-in-loop-k.ensures (omega arith) (omega arith);
      offset = four-more _ xs c.args.from 3 i _ v.offset c.copy_four-in-loop-k-2.ensures (omega arith) (omega arith);
      len = four-more _ xs c.args.from 4 i _ v.len c.copy_four-in-loop-k-3.ensures (omega arith) (omega arith);
      compression = four-more _ xs c.args.from 5 i _ v.compression c.copy_four-in-loop-k-4.ensures (omega arith) (omega arith);
      entry_offset = four-more _ xs c.args.from 6 i _ v.entry_offset c.copy_four-in-loop-k-5.ensures (omega arith) (omega arith);
      entry_len = four-more _ xs c.args.from 7 i _ v.entry_len c.copy_four-in-loop-k-6.ensures (omega arith) (omega arith);
    }

pub loop-i-2-init : goal.loop-i-2-init
loop-i-2-init c =
    let v = c.loop-k.invariant in
    let e : c.loop-k.k * 4 ≡ c.args.count - c.args.count % 4 = omega arith in
    record { queue = rw e at v.queue; seq = rw e at v.seq; offset = rw e at v.offset; len = rw e at v.len; compression = rw e at v.compression; entry_offset = rw e at v.entry_offset; entry_len = rw e at v.entry_len }

pub loop-i-2-preserved : goal.loop-i-2-preserved
loop-i-2-preserved c =
    let v = c.loop-i-2.invariant in
    record {
      queue = cell-more _ _ c.loop-i-2.i (omega arith) c.args.part.now c.args.from 1 v.queue;
      seq = cell-more _ _ c.loop-i-2.i (omega arith) c.args.part.now c.args.from 2 v.seq;
      offset = cell-more _ _ c.loop-i-2.i (omega arith) c.args.part.now c.args.from 3 v.offset;
      len = cell-more _ _ c.loop-i-2.i (omega arith) c.args.part.now c.args.from 4 v.len;
      compression = cell-more _ _ c.loop-i-2.i (omega arith) c.args.part.now c.args.from 5 v.compression;
      entry_offset = cell-more _ _ c.loop-i-2.i (omega arith) c.args.part.now c.args.from 6 v.entry_offset;
      entry_len = cell-more _ _ c.loop-i-2.i (omega arith) c.args.part.now c.args.from 7 v.entry_len;
    }

pub returns : goal.returns
unfolding entries_at
returns c =
    let e : c.loop-i.i ≡ c.args.count = omega arith in
    let f : c.loop-i-2.i ≡ c.args.count = omega arith in
    let v = c.loop-i-2.invariant in
    rows-done _ _ _ _ c.if-index-count.false (λ i b. any-drop _ c.args.from i (held-row _ _ c.requires.wf _ (omega arith))) _ (rw e at c.loop-i.invariant) (rw f at v.queue) (rw f at v.seq) (rw f at v.offset) (rw f at v.len) (rw f at v.compression) (rw f at v.entry_offset) (rw f at v.entry_len)
