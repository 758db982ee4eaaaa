-- Records as rows of eight numbers, one behind the other in one lent list (`pipe_log/specs/Rows.antt` has the order of a row).
use Rattle.std.specs.Prelude.{List, [], ◌∷◌, ◌++◌, ◌≡◌, ℕ, ◌+◌, ◌/◌, length, get_or}
use Rattle.cells.specs.Part.{put}
use Rattle.pipe_log.specs.Numbers.{queue_number, compression_number}
use Rattle.pipe_log.specs.Rows.{entry_width, entries_of}
use Rattle.rules.specs.Causes.{by_cause, ByCause, Result, Ok, Err, and_then}
use Rattle.rules.specs.Items.{EntryIndex, file_of}
use Rattle.rules.specs.Queries.{answered}
use Rattle.memtable.specs.Columns.{block_offset, block_len}

-- the row of a record
unfoldable pub row_of : EntryIndex → List ℕ
row_of e =
    e.index
    ∷ queue_number (file_of e).queue
    ∷ (file_of e).seq
    ∷ block_offset e.entries
    ∷ block_len e.entries
    ∷ compression_number e.compression_type
    ∷ e.entry_offset
    ∷ e.entry_len
    ∷ []

unfoldable pub rows_of : List EntryIndex → List ℕ
rows_of [] = []
rows_of (e ∷ es) = row_of e ++ rows_of es

-- the lent list of records: one for each whole row
unfoldable pub lent_rows : List ℕ → List EntryIndex
lent_rows out = entries_of (length out / entry_width) out

-- the lent list at exit: the rows of the answer from its first place, everything else as it was
unfoldable pub rows_after : List ℕ → Result (List EntryIndex) → List ℕ
rows_after out (Ok es) = put out 0 (rows_of es)
rows_after out (Err r) = out

-- an answer of the rules, given in lent rows: r is returned, with the number of records, and exits is the list at exit
pub record RowsFetched (answer : Result (List EntryIndex)) (out : List ℕ) (r : ByCause ℕ) (exits : List ℕ) : Type 0 where
  pub number : by_cause r ≡ and_then (answered (lent_rows out) answer) (λ es. Ok (length es))
  pub rows : exits ≡ rows_after out (answered (lent_rows out) answer)

-- the numbers of the row from place p on, with an index of its own
unfoldable pub cells_of : ℕ → ℕ → List ℕ → List ℕ
cells_of i p xs =
    i
    ∷ get_or xs (p + 1) 0
    ∷ get_or xs (p + 2) 0
    ∷ get_or xs (p + 3) 0
    ∷ get_or xs (p + 4) 0
    ∷ get_or xs (p + 5) 0
    ∷ get_or xs (p + 6) 0
    ∷ get_or xs (p + 7) 0
    ∷ []
