-- `prepare_append`: how many entries stay before rows that start at s.
use Rattle.std.specs.Prelude.{Bool, List, ◌++◌, ◌≡◌, ℕ, suc, ◌-◌, ◌≤◌}
use Rattle.maps.specs.Maps.{Map}
use Rattle.pipe_log.specs.Rows.{window}
use Rattle.rules.specs.Causes.{ByCause, Err, Result, Ok, refuse}
use Rattle.rules.specs.Table.{Held, Table, with_entries}
use Rattle.memtable.specs.declared.Head.{Head}
use Rattle.memtable.specs.Views.{table_of}
use Rattle.memtable.specs.Appends.{laid_by}

-- k entries of xs, and n rows that start at s behind them
unfoldable pub behind : ℕ → ℕ → List ℕ → ℕ → List ℕ → Table → Table
behind k s xs n rows t = with_entries (window (s - k) k xs ++ window s n rows) t

abbrev pub kept : ByCause ℕ → ℕ
kept (Ok k) = k
kept (Err e) = 0

abbrev pub prepared_of : ByCause ℕ → ℕ → List ℕ → ℕ → List ℕ → Table → Result Table
prepared_of (Ok k) s xs n rows t = Ok (behind k s xs n rows t)
prepared_of (Err e) s xs n rows t = refuse e

pub record Preparing (overwrite hole : Bool) (h : Head) (s : ℕ) (p : ByCause ℕ) : Type 0 where
  pub rule : (xs : List ℕ) (m : ℕ) (rows : List ℕ) (keys : Map (List ℕ) Held) (counted : Bool)
      → laid_by overwrite hole (window s (suc m) rows) (table_of h xs keys counted) ≡ prepared_of p s xs (suc m) rows (table_of h xs keys counted)
  pub within : kept p ≤ h.len
  pub before : kept p ≤ s
