-- Fetches into eight lent slices: what is answered, and what stands in the slices at exit.
use Rattle.std.specs.Prelude.{List, ◌≡◌, ℕ, length}
use Rattle.rules.specs.Causes.{by_cause, ByCause, Result, Ok, and_then}
use Rattle.rules.specs.Items.{EntryIndex}
use Rattle.rules.specs.Queries.{answered, lent_after}
use Rattle.memtable.specs.Columns.{Columns, columns_after}
use Rattle.columns.specs.Slices.{records_in}

-- an answer of the rules, given in eight lent slices: r is returned, and exits are the slices at exit
pub record EntriesFetched (answer : Result (List EntryIndex)) (out : Columns) (r : ByCause ℕ) (exits : Columns) : Type 0 where
  pub number : by_cause r ≡ and_then (answered (records_in out) answer) (λ es. Ok (length es))
  pub slices : exits ≡ columns_after out (answered (records_in out) answer)
  -- the records of the list at exit are those that the rules leave there
  pub records-are : records_in exits ≡ lent_after (records_in out) (answered (records_in out) answer)
