-- Eight lent slices, one for each field of a row of entries, read as a lent list of records.
use Rattle.std.specs.Prelude.{List, [], ◌∷◌, ◌≡◌, ℕ, zero, suc, min, ◌≤◌, length, get_or, drop}
use Rattle.pipe_log.specs.Rows.{entry_of}
use Rattle.rules.specs.Items.{EntryIndex}
use Rattle.memtable.specs.Columns.{Columns, columns}

-- the least of eight numbers
unfoldable pub least_of : ℕ → ℕ → ℕ → ℕ → ℕ → ℕ → ℕ → ℕ → ℕ
least_of a b c d e f g h = min (min (min a b) (min c d)) (min (min e f) (min g h))

-- r is the least of eight numbers
pub record Least (a b c d e f g h r : ℕ) : Type 0 where
  pub is : r ≡ least_of a b c d e f g h
  pub below-a : r ≤ a
  pub below-b : r ≤ b
  pub below-c : r ≤ c
  pub below-d : r ≤ d
  pub below-e : r ≤ e
  pub below-f : r ≤ f
  pub below-g : r ≤ g
  pub below-h : r ≤ h

-- the length of the list: that of the shortest slice
abbrev pub shortest : Columns → ℕ
shortest out =
    least_of
    (length out.index)
    (length out.queue)
    (length out.seq)
    (length out.offset)
    (length out.len)
    (length out.compression)
    (length out.entry_offset)
    (length out.entry_len)

-- the row of numbers at the first place of the slices
unfoldable pub first_row : Columns → List ℕ
first_row out =
    get_or out.index 0 0
    ∷ get_or out.queue 0 0
    ∷ get_or out.seq 0 0
    ∷ get_or out.offset 0 0
    ∷ get_or out.len 0 0
    ∷ get_or out.compression 0 0
    ∷ get_or out.entry_offset 0 0
    ∷ get_or out.entry_len 0 0
    ∷ []

-- the slices behind their first place
unfoldable pub behind_first : Columns → Columns
behind_first out =
    columns
    (drop 1 out.index)
    (drop 1 out.queue)
    (drop 1 out.seq)
    (drop 1 out.offset)
    (drop 1 out.len)
    (drop 1 out.compression)
    (drop 1 out.entry_offset)
    (drop 1 out.entry_len)

-- the records at the first n places
unfoldable pub records_up_to : ℕ → Columns → List EntryIndex
records_up_to zero out = []
records_up_to (suc n) out = entry_of (first_row out) ∷ records_up_to n (behind_first out)

-- the lent list of records
unfoldable pub records_in : Columns → List EntryIndex
records_in out = records_up_to (shortest out) out
