-- What a fetch asks of a group's table, and what it answers in a lent list of records.
use Rattle.std.specs.Prelude.{List, ◌≡◌, ℕ, length}
use Rattle.rules.specs.Causes.{by_cause, ByCause, Result, Ok, and_then}
use Rattle.rules.specs.Items.{EntryIndex}
use Rattle.rules.specs.Table.{Table}
use Rattle.rules.specs.TableQueries.{fetch_entries_to, fetch_entry_indexes_before, fetch_rewritten_entry_indexes}
use Rattle.rules.specs.Queries.{answered, lent_after}
use Rattle.records.specs.declared.Fetch.{Fetch, TheVariants.EntriesTo, TheVariants.EntryIndexesBefore, TheVariants.RewrittenEntryIndexes}

abbrev pub query_of : Fetch → Table → Result (List EntryIndex)
query_of (EntriesTo begin end size) t = fetch_entries_to begin end size t
query_of (EntryIndexesBefore gate) t = Ok (fetch_entry_indexes_before gate t)
query_of RewrittenEntryIndexes t = Ok (fetch_rewritten_entry_indexes t)

-- an answer of the rules, given in a lent list: r is returned, with the number of records, and exits is the list at exit
pub record Fetching (answer : Result (List EntryIndex)) (lent : List EntryIndex) (r : ByCause ℕ) (exits : List EntryIndex) : Type 0 where
  pub number : by_cause r ≡ and_then (answered lent answer) (λ es. Ok (length es))
  pub list : exits ≡ lent_after lent (answered lent answer)
