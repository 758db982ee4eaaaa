-- Entry records as rows of numbers: index, queue, sequence number, block offset, block length, compression type, entry offset,
-- entry length. Batches are lent so, and tables hold them so.
use Rattle.std.specs.Prelude.{Some, None, Bool, cond, ◌&&◌, List, [], ◌∷◌, ℕ, zero, suc, ◌^◌, eqb, ltb, get_or, drop}
use Rattle.pipe_log.specs.declared.LogQueue.{LogQueue, TheVariants.Append, TheVariants.Rewrite}
use Rattle.pipe_log.specs.declared.FileBlockHandle.{FileBlockHandle}
use Rattle.pipe_log.specs.declared.CompressionType.{CompressionType}
use Rattle.pipe_log.specs.declared.CompressionType.TheVariants as compression
use Rattle.pipe_log.specs.declared.EntryIndex.{EntryIndex}

-- numbers in a row
abbrev pub entry_width : ℕ
entry_width = 8

-- the case that a number stands for (`queueNumber` and `compressionNumber` the other way)
unfoldable pub queue_at : ℕ → LogQueue
queue_at n = cond (eqb n 0) Append Rewrite

unfoldable pub compression_at : ℕ → CompressionType
compression_at n = cond (eqb n 0) compression.None compression.Lz4

-- whether a row's queue, compression type and entry offset are those of a record
unfoldable pub is_record : List ℕ → Bool
is_record xs = ltb (get_or xs 1 0) 2 && ltb (get_or xs 5 0) 2 && ltb (get_or xs 6 0) (2 ^ 32)

unfoldable pub block_at : List ℕ → FileBlockHandle
block_at xs = record { id = record { queue = queue_at (get_or xs 1 0); seq = get_or xs 2 0 }; offset = get_or xs 3 0; len = get_or xs 4 0 }

-- the record that the first row stands for; a row that is none is an entry without a file
unfoldable pub entry_of : List ℕ → EntryIndex
entry_of xs =
    record {
      index = get_or xs 0 0;
      entries = cond (is_record xs) (Some (block_at xs)) None;
      compression_type = compression_at (get_or xs 5 0);
      entry_offset = get_or xs 6 0;
      entry_len = get_or xs 7 0;
    }

-- the records of the first n rows
unfoldable pub entries_of : ℕ → List ℕ → List EntryIndex
entries_of zero xs = []
entries_of (suc n) xs = entry_of xs ∷ entries_of n (drop entry_width xs)

-- a record at another index
unfoldable pub with_index : ℕ → EntryIndex → EntryIndex
with_index i e =
    record { index = i; entries = e.entries; compression_type = e.compression_type; entry_offset = e.entry_offset; entry_len = e.entry_len }

-- the records of the first n rows of a table: their indexes follow from the first, whatever the rows say
unfoldable pub window : ℕ → ℕ → List ℕ → List EntryIndex
window i zero xs = []
window i (suc n) xs = with_index i (entry_of xs) ∷ window (suc i) n (drop entry_width xs)
