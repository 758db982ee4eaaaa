-- `galdnyrr::answers::row_of` meets its contract. Assumes nothing.
use Rattle.rules.specs.Items.{file_of, block_file}
use Rattle.memtable.specs.Columns.{block_offset, block_len}
use Rattle.records.specs.Rows.{row_of}
use Rattle.galdnyrr.proofs.answers.row_of.Goals as goal

pub returns-in-None : goal.returns-in-None
unfolding row_of file_of block_file block_offset block_len
returns-in-None c = rw (c.in-None.is, ← c.from-compression.ensures, ← c.from-entry_offset.ensures, ← c.from-entry_len.ensures)

pub returns-in-Some : goal.returns-in-Some
unfolding row_of file_of block_file block_offset block_len
returns-in-Some c = rw (c.in-Some.is, ← c.from-compression.ensures, ← c.from-entry_offset.ensures, ← c.from-entry_len.ensures, ← c.from.ensures)
