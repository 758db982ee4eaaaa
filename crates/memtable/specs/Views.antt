-- A group's head and part, read as the rules' table.
use Rattle.std.specs.Prelude.{Bool, List, ◌≡◌, ℕ, ◌+◌, ◌*◌, ◌≤◌, ◌<◌, ◌^◌, length, get_or, drop}
use Rattle.maps.specs.Maps.{Map}
use Rattle.pipe_log.specs.Rows.{entry_width, entry_of, with_index, window}
use Rattle.rules.specs.Items.{EntryIndex}
use Rattle.rules.specs.Limits.{max_entry_len}
use Rattle.rules.specs.Table.{Held, Table}
use Rattle.memtable.specs.declared.Head.{Head}

-- the table that a head and its part stand for, with the keys and the mark of counting that the group has beside them
unfoldable pub table_of : Head → List ℕ → Map (List ℕ) Held → Bool → Table
table_of h xs keys counted =
    record { entries = window h.first_index h.len xs; keys = keys; span = h.atomic_group; counted = counted }

-- the record of row i of a window that starts at f
unfoldable pub row_at : ℕ → List ℕ → ℕ → EntryIndex
row_at f xs i = with_index (f + i) (entry_of (drop (i * entry_width) xs))

-- row i is a record of the queue with number q, and its entry length is in range
pub record Row (q : ℕ) (xs : List ℕ) (i : ℕ) : Type 0 where
  pub queue : get_or xs (i * 8 + 1) 0 ≡ q
  pub compression : get_or xs (i * 8 + 5) 0 < 2
  pub offset : get_or xs (i * 8 + 6) 0 < 2 ^ 32
  pub len : get_or xs (i * 8 + 7) 0 ≤ max_entry_len

-- row i is a record of either queue
pub record AnyRow (xs : List ℕ) (i : ℕ) : Type 0 where
  pub queue : get_or xs (i * 8 + 1) 0 < 2
  pub compression : get_or xs (i * 8 + 5) 0 < 2
  pub offset : get_or xs (i * 8 + 6) 0 < 2 ^ 32
  pub len : get_or xs (i * 8 + 7) 0 ≤ max_entry_len

-- the rows from a to below b are records of queue q
abbrev pub Rows : ℕ → ℕ → ℕ → List ℕ → Type 0
Rows q a b xs = (i : ℕ) → a ≤ i → i < b → Row q xs i

-- the rows from a to below b are records
abbrev pub AnyRows : ℕ → ℕ → List ℕ → Type 0
AnyRows a b xs = (i : ℕ) → a ≤ i → i < b → AnyRow xs i

-- what holds of a head and its part between calls
pub record Wf (h : Head) (xs : List ℕ) : Type 0 where
  pub room : h.len * 8 ≤ length xs
  pub front : h.rewrite_count ≤ h.len
  pub index : h.first_index + h.len ≤ 2 ^ 63
  pub rewritten : Rows 1 0 h.rewrite_count xs
  pub appended : Rows 0 h.rewrite_count h.len xs
