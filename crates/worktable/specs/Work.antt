-- The table of one group that a merge or a join works on, in a long stretch: a header of 10 numbers, 384 rows of entries and 160 rows of
-- keys; beside it 160 rows of bytes. It may be absent.
use Rattle.std.specs.Prelude.{cond, true, List, ◌≡◌, ℕ, length}
use Rattle.std.specs.Prelude.{Option, None, Some}
use Rattle.rules.specs.Table.{Table}
use Rattle.stretch.specs.Stretch.{is_used, table_at, WfAt}

-- where the rows of keys begin, and the numbers and the bytes of the stretch
abbrev pub long_keys_at : ℕ
long_keys_at = 3082

abbrev pub long_numbers : ℕ
long_numbers = 3722

abbrev pub long_bytes : ℕ
long_bytes = 10240

-- the most entries and keys that it has room for
abbrev pub long_entries : ℕ
long_entries = 384

abbrev pub long_keys : ℕ
long_keys = 160

-- the table, or none
unfoldable pub work_in : List ℕ → List ℕ → Option Table
work_in p b = cond (is_used p) (Some (table_at long_keys_at p b)) None

-- what holds of it between calls
pub record Wf (p b : List ℕ) : Type 0 where
  pub numbers-are : length p ≡ long_numbers
  pub bytes-are : length b ≡ long_bytes
  pub used : is_used p ≡ true → WfAt long_keys_at p b

-- a table is there
pub record Stands (t : Table) (p b : List ℕ) : Type 0 where
  pub numbers-are : length p ≡ long_numbers
  pub bytes-are : length b ≡ long_bytes
  pub used : is_used p ≡ true
  pub table : table_at long_keys_at p b ≡ t
  pub wf : WfAt long_keys_at p b
