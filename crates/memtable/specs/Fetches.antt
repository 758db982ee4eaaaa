-- The entries that a fetch answers.
use Rattle.memtable.specs.declared.RowRange.{RowRange}
use Rattle.std.specs.Prelude.{Bool, List, ◌≡◌, ℕ, ◌+◌, ◌*◌, ◌≤◌, drop}
use Rattle.maps.specs.Maps.{Map}
use Rattle.pipe_log.specs.Rows.{window}
use Rattle.rules.specs.Causes.{ByCause, Err, Result, Ok, refuse}
use Rattle.rules.specs.Items.{EntryIndex}
use Rattle.rules.specs.Table.{Held, Table}
use Rattle.rules.specs.TableQueries.{fetch_rewritten_entry_indexes}
use Rattle.memtable.specs.declared.Head.{Head}
use Rattle.memtable.specs.Views.{table_of, Wf}

-- n entries of a head from place a on
unfoldable pub entries_at : ℕ → ℕ → Head → List ℕ → List EntryIndex
entries_at a n h xs = window (h.first_index + a) n (drop (a * 8) xs)

abbrev pub range_of : ByCause RowRange → Head → List ℕ → Result (List EntryIndex)
range_of (Ok rows) h xs = Ok (entries_at rows.from rows.count h xs)
range_of (Err e) h xs = refuse e

abbrev pub range_end : ByCause RowRange → ℕ
range_end (Ok rows) = rows.from + rows.count
range_end (Err e) = 0

-- what a range of a head's entries says is the answer to a query of its table
pub record RangeAnswer (h : Head) (xs : List ℕ) (query : Table → Result (List EntryIndex)) (r : ByCause RowRange) : Type 0 where
  pub rule : (keys : Map (List ℕ) Held) (counted : Bool) → range_of r h xs ≡ query (table_of h xs keys counted)
  pub within : range_end r ≤ h.len

-- the Rewrite entries, whatever part is held
abbrev pub RewrittenAnswer : Head → ByCause RowRange → Type 0
RewrittenAnswer h r = (xs : List ℕ) → Wf h xs → RangeAnswer h xs (λ t. Ok (fetch_rewritten_entry_indexes t)) r
