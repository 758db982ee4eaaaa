-- A stretch read as the rules' table of a group, or as a free place.
-- The header's numbers: used, group, first index, entries, Rewrite entries, whether there is a span, its start and end, keys, counted.
use Rattle.pipe_log.specs.declared.Span.{Span}
use Rattle.std.specs.Prelude.{Option, Bool, cond, List, [], ◌∷◌, ◌≡◌, ℕ, ◌-◌, ◌≤◌, eqb, length, get_or}
use Rattle.std.specs.Prelude.{None, Some}
use Rattle.cells.specs.Part.{part}
use Rattle.maps.specs.Cells.{Cell}
use Rattle.rules.specs.Table.{Table}
use Rattle.kvs.specs.Rows.{keys_in}
use Rattle.kvs.specs.Rows as kvs
use Rattle.memtable.specs.declared.Head.{Head}
use Rattle.memtable.specs.Views.{table_of}
use Rattle.memtable.specs.Views as memtable
use Rattle.stretch.specs.Layout.{entries_at, entry_numbers, keys_at, key_numbers, stretch_width, bytes_width}

-- ---- the header

unfoldable pub is_used : List ℕ → Bool
is_used p = eqb (get_or p 0 0) 1

unfoldable pub group_in : List ℕ → ℕ
group_in p = get_or p 1 0

unfoldable pub span_in : List ℕ → Option Span
span_in p = cond (eqb (get_or p 5 0) 0) None (Some (record { start = (get_or p 6 0); end = (get_or p 7 0) }))

unfoldable pub head_part : List ℕ → Head
head_part p = record { first_index = get_or p 2 0; len = get_or p 3 0; rewrite_count = get_or p 4 0; atomic_group = span_in p }

unfoldable pub key_count : List ℕ → ℕ
key_count p = get_or p 8 0

unfoldable pub is_counted : List ℕ → Bool
is_counted p = eqb (get_or p 9 0) 1

-- the numbers of a span: whether there is one, its start and its end
unfoldable pub span_numbers : Option Span → List ℕ
span_numbers None = 0 ∷ 0 ∷ 0 ∷ []
span_numbers (Some s') = 1 ∷ s'.start ∷ s'.end ∷ []

-- the numbers of a head, which stand behind the group's number
unfoldable pub head_numbers : Head → List ℕ
head_numbers h = h.first_index ∷ h.len ∷ h.rewrite_count ∷ span_numbers h.atomic_group

-- the header of a group that was just made: it holds nothing and is counted
unfoldable pub made_header : ℕ → List ℕ
made_header g = 1 ∷ g ∷ 0 ∷ 0 ∷ 0 ∷ 0 ∷ 0 ∷ 0 ∷ 0 ∷ 1 ∷ []

-- ---- a stretch of any width, whose rows of keys begin at place w

unfoldable pub entry_rows_at : ℕ → List ℕ → List ℕ
entry_rows_at w p = part entries_at (w - entries_at) p

unfoldable pub key_rows_at : ℕ → List ℕ → List ℕ
key_rows_at w p = part w (length p - w) p

-- the table that it stands for, with its bytes
unfoldable pub table_at : ℕ → List ℕ → List ℕ → Table
table_at w p b = table_of (head_part p) (entry_rows_at w p) (keys_in (key_count p) (key_rows_at w p) b) (is_counted p)

-- what holds of its numbers between calls
pub record NumbersAt (w : ℕ) (p : List ℕ) : Type 0 where
  pub from : entries_at ≤ w
  pub to : w ≤ length p
  pub entries : memtable.Wf (head_part p) (entry_rows_at w p)

-- what holds of it with its bytes
pub record WfAt (w : ℕ) (p b : List ℕ) : Type 0 where
  pub numbers : NumbersAt w p
  pub keys : kvs.Wf (key_count p) (key_rows_at w p) b

-- ---- a group's stretch, of 586 numbers and 1,024 bytes

unfoldable pub entry_rows : List ℕ → List ℕ
entry_rows p = part entries_at entry_numbers p

unfoldable pub key_rows : List ℕ → List ℕ
key_rows p = part keys_at key_numbers p

-- what it stands for
unfoldable pub table_in : List ℕ → List ℕ → Table
table_in p b = table_of (head_part p) (entry_rows p) (keys_in (key_count p) (key_rows p) b) (is_counted p)

unfoldable pub cell_of : List ℕ → List ℕ → Cell Table
cell_of p b = cond (is_used p) (Some (record { key = group_in p; val = table_in p b })) None

-- what holds of the numbers of a used stretch between calls
pub record NumbersWf (p : List ℕ) : Type 0 where
  pub numbers-are : length p ≡ stretch_width
  pub entries : memtable.Wf (head_part p) (entry_rows p)

-- what holds of a used stretch with its bytes
pub record Wf (p b : List ℕ) : Type 0 where
  pub numbers : NumbersWf p
  pub bytes-are : length b ≡ bytes_width
  pub keys : kvs.Wf (key_count p) (key_rows p) b
