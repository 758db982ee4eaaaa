-- The numbers of a row read as arguments.
use Rattle.std.specs.Prelude.{Option, None, Some, cond, ℕ, List, eqb, length, get_or}
use Rattle.rules.specs.Causes.{Result, Ok}
use Rattle.rules.specs.Table.{first_index_of, last_index}
use Rattle.rules.specs.TableQueries.{rewrite_count, min_file_seq}
use Rattle.rules.specs.Queries.{in_group}
use Rattle.rules.specs.Context.{Context}
use Rattle.pipe_log.specs.Rows.{queue_at}
use Rattle.records.specs.declared.Fetch as fetch
use Rattle.scripts.specs.declared.row.Row.{Row}

-- a number that is there where the number before it is not 0
abbrev pub option_as : ℕ → ℕ → Option ℕ
option_as given number = cond (eqb given 0) None (Some number)

-- the numbers of a call's first line by their names
abbrev pub row_as : List ℕ → Row
row_as call =
    record {
      what = get_or call 1 0;
      area = get_or call 2 0;
      other = get_or call 3 0;
      group = get_or call 4 0;
      a = get_or call 5 0;
      b = get_or call 6 0;
      c = get_or call 7 0;
      d = get_or call 8 0;
      e = get_or call 9 0;
      room = get_or call 10 0;
      items = get_or call 11 0;
      entries = get_or call 12 0;
      bytes = get_or call 13 0;
    }

-- 10 first_index, 11 last_index, otherwise min_file_seq
abbrev pub number_asked : Row → Context → Result (Option ℕ)
number_asked row m =
    cond (eqb row.what 10) (in_group row.group (λ t. Ok (first_index_of t.entries)) m)
    (cond (eqb row.what 11) (in_group row.group (λ t. Ok (last_index t.entries)) m) (in_group row.group (λ t. Ok (min_file_seq (queue_at row.a) t)) m))

-- 20 entry_count, 21 rewrite_count, otherwise key_count
abbrev pub count_asked : Row → Context → Result ℕ
count_asked row m =
    cond (eqb row.what 20) (in_group row.group (λ t. Ok (length t.entries)) m)
    (cond (eqb row.what 21) (in_group row.group (λ t. Ok (rewrite_count t)) m) (in_group row.group (λ t. Ok (length t.keys)) m))

-- 50 fetch_entries_to, 51 fetch_entry_indexes_before, otherwise fetch_rewritten_entry_indexes
abbrev pub fetch_as : Row → fetch.Fetch
fetch_as row =
    cond (eqb row.what 50) (fetch.TheVariants.EntriesTo row.a row.b (option_as row.c row.d))
    (cond (eqb row.what 51) (fetch.TheVariants.EntryIndexesBefore row.a) fetch.TheVariants.RewrittenEntryIndexes)
