-- A batch as it is lent, read as 01's batch.
use Rattle.std.specs.Prelude.{List, ℕ, ◌*◌, drop}
use Rattle.pipe_log.specs.declared.FileId.{FileId}
use Rattle.rules.specs.Items as rules
use Rattle.log_batch.specs.declared.batch.LogBatch.{LogBatch}
use Rattle.log_batch.specs.Lent.{row_count_of, item_at, items_of, batch_of}

-- the number of its items
abbrev pub count_in : LogBatch → ℕ
count_in b = row_count_of b.items.now

-- item i
abbrev pub item_in : ℕ → LogBatch → rules.LogItem
item_in i b = item_at b.entries.now b.bytes.now (drop (i * 9) b.items.now)

-- all of them
abbrev pub items_in : LogBatch → List rules.LogItem
items_in b = items_of b.items.now b.entries.now b.bytes.now

-- with the batch's file
abbrev pub batch_in : FileId → LogBatch → rules.Batch
batch_in f b = batch_of f b.items.now b.entries.now b.bytes.now
