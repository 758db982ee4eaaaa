-- `columns::copies::copy_rows` meets its contract: each slice has the fields of the rows passed. Assumes nothing.
use mathlib.Core.Path.{◌≡◌}
use Prim.Native.Nat.{◌*◌}
use lib.ListN.{drop}
use Rattle.cells.specs.Part.{put}
use Rattle.memtable.specs.Columns.{column, up_from}
use Rattle.columns.proofs.copies.copy_rows.Given as goal

abbrev pub invariant-loop-i : goal.invariant-loop-i
invariant-loop-i l = l.index ≡ put l.fn.index 0 (up_from l.first l.i)

abbrev pub invariant-loop-k : goal.invariant-loop-k
invariant-loop-k l =
    record {
      queue : l.queue ≡ put l.fn.queue 0 (column 1 (l.k * 4) (drop (l.from * 8) l.part));
      seq : l.seq ≡ put l.fn.seq 0 (column 2 (l.k * 4) (drop (l.from * 8) l.part));
      offset : l.offset ≡ put l.fn.offset 0 (column 3 (l.k * 4) (drop (l.from * 8) l.part));
      len : l.len ≡ put l.fn.len 0 (column 4 (l.k * 4) (drop (l.from * 8) l.part));
      compression : l.compression ≡ put l.fn.compression 0 (column 5 (l.k * 4) (drop (l.from * 8) l.part));
      entry_offset : l.entry_offset ≡ put l.fn.entry_offset 0 (column 6 (l.k * 4) (drop (l.from * 8) l.part));
      entry_len : l.entry_len ≡ put l.fn.entry_len 0 (column 7 (l.k * 4) (drop (l.from * 8) l.part));
    }

abbrev pub invariant-loop-i-2 : goal.invariant-loop-i-2
invariant-loop-i-2 l =
    record {
      queue : l.queue ≡ put l.fn.queue 0 (column 1 l.i (drop (l.from * 8) l.part));
      seq : l.seq ≡ put l.fn.seq 0 (column 2 l.i (drop (l.from * 8) l.part));
      offset : l.offset ≡ put l.fn.offset 0 (column 3 l.i (drop (l.from * 8) l.part));
      len : l.len ≡ put l.fn.len 0 (column 4 l.i (drop (l.from * 8) l.part));
      compression : l.compression ≡ put l.fn.compression 0 (column 5 l.i (drop (l.from * 8) l.part));
      entry_offset : l.entry_offset ≡ put l.fn.entry_offset 0 (column 6 l.i (drop (l.from * 8) l.part));
      entry_len : l.entry_len ≡ put l.fn.entry_len 0 (column 7 l.i (drop (l.from * 8) l.part));
    }
