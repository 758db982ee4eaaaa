-- What a head and its part answer, each answer read as the rules' one.
use Rattle.std.specs.Prelude.{Bool, List, ◌≡◌, ℕ, length}
use Rattle.std.specs.Prelude.{Option}
use Rattle.maps.specs.Lists.{first, least, map_option, select}
use Rattle.maps.specs.Maps.{Map}
use Rattle.pipe_log.specs.Rows.{window}
use Rattle.rules.specs.Causes.{by_cause, ByCause}
use Rattle.rules.specs.Items.{LogQueue, EntryIndex, same_queue, file_of}
use Rattle.rules.specs.Table.{Held, first_index_of, last_index}
use Rattle.rules.specs.TableQueries.{get_entry, run_of, rewrite_count, by_span, has_at_least_some_entries_before}
use Rattle.memtable.specs.declared.Head.{Head}
use Rattle.memtable.specs.Views.{table_of, Wf}

abbrev pub EntryAnswer : Head → List ℕ → ℕ → Option EntryIndex → Type 0
EntryAnswer h xs i r = (keys : Map (List ℕ) Held) (counted : Bool) → r ≡ get_entry i (table_of h xs keys counted)

abbrev pub SomeBeforeAnswer : Head → List ℕ → ℕ → ℕ → ByCause Bool → Type 0
SomeBeforeAnswer h xs gate count r =
    (keys : Map (List ℕ) Held) (counted : Bool) → by_cause r ≡ has_at_least_some_entries_before gate count (table_of h xs keys counted)

-- the first and the last index, whatever the part holds
abbrev pub FirstAnswer : Head → Option ℕ → Type 0
FirstAnswer h r = (xs : List ℕ) → r ≡ first_index_of (window h.first_index h.len xs)

abbrev pub LastAnswer : Head → Option ℕ → Type 0
LastAnswer h r = (xs : List ℕ) → r ≡ last_index (window h.first_index h.len xs)

-- the sequence number of the front entry of a queue's run
unfoldable pub front_seq : LogQueue → List EntryIndex → Option ℕ
front_seq q es = map_option (λ (e : EntryIndex). (file_of e).seq) (first (run_of q es))

-- `min_file_seq`, with the least sequence number of the queue's keys beside the entries
unfoldable pub min_seq : LogQueue → Head → List ℕ → Option ℕ → Option ℕ
min_seq q h xs keys = map_option (by_span q h.atomic_group) (least (front_seq q (window h.first_index h.len xs)) keys)

-- the number of a queue's entries
unfoldable pub entry_count : LogQueue → List EntryIndex → ℕ
entry_count q es = length (select (λ (e : EntryIndex). same_queue (file_of e).queue q) es)

-- the number of Rewrite entries, whatever part is held
abbrev pub RewriteCountAnswer : Head → ℕ → Type 0
RewriteCountAnswer h r = (xs : List ℕ) → Wf h xs → (keys : Map (List ℕ) Held) (counted : Bool) → r ≡ rewrite_count (table_of h xs keys counted)
