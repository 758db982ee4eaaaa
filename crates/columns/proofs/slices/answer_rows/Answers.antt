-- `columns::slices::answer_rows` meets its contract. Assumes nothing.
use Rattle.memtable.specs.Columns.{columns}
use Rattle.columns.proofs.SliceWays.{held-answered}
use Rattle.columns.proofs.slices.answer_rows.Goals as goal

pub returns : goal.returns
returns c =
    held-answered (columns c.args.index.now c.args.queue.now c.args.seq.now c.args.offset.now c.args.len.now c.args.compression.now c.args.entry_offset.now c.args.entry_len.now) _ c.least_of-room.ensures _ _ c.requires.wf _ _ c.requires.range_bound _ _ c.copy_rows.ensures
