-- Rules of one group: what a table answers.
use Rattle.std.specs.Prelude.{Bool, true, false, cond, not, ◌&&◌, ◌||◌, List, [], ◌∷◌, reverse, map, ℕ, ◌+◌, ◌-◌, min, ltb, leb, eqb, length, take}
use Rattle.std.specs.Prelude.{Option, None, Some}
use Rattle.std.specs.Prelude.{slice_get}
use Rattle.rules.specs.Causes.{Result, Ok, refuse, BadRange, EntryCompacted, EntryNotFound}
use Rattle.maps.specs.Lists.{select, front, rest, first, map_option, or_else, least}
use Rattle.maps.specs.Maps.{Pair, Map, lookup, bytes, bytes_below}
use Rattle.rules.specs.Items.{LogQueue, Append, Rewrite, EntryIndex, same_queue, file_of, is_rewrite}
use Rattle.rules.specs.Table.{Held, Span, Table, first_index_of, is_above_last}

-- ---- entries

-- `get_entry`: the record at an index, if it is held
unfoldable pub get_entry : ℕ → Table → Option EntryIndex
get_entry i t = first (select (λ e. eqb e.index i) t.entries)

-- records until one with which the sum of lengths is above the size, unless the lengths before it sum to 0
unfoldable pub up_to_size : ℕ → ℕ → List EntryIndex → List EntryIndex
up_to_size size sum [] = []
up_to_size size sum (e ∷ es) =
    cond (ltb size (sum + e.entry_len) && ltb 0 sum) [] (e ∷ up_to_size size (sum + e.entry_len) es)

unfoldable pub sized : Option ℕ → List EntryIndex → List EntryIndex
sized None es = es
sized (Some size) es = up_to_size size 0 es

-- the records with indexes in [begin, end)
unfoldable pub within : ℕ → ℕ → List EntryIndex → List EntryIndex
within begin end es = select (λ e. leb begin e.index && ltb e.index end) es

-- `fetch_entries_to` [begin, end), with or without a size
unfoldable pub fetch_entries_to : ℕ → ℕ → Option ℕ → Table → Result (List EntryIndex)
fetch_entries_to begin end size t =
    cond (leb end begin)
    (Ok [])
    (or_else (refuse EntryNotFound)
    (λ f. cond (ltb begin f)
    (refuse EntryCompacted)
    (cond (is_above_last end t.entries) (refuse EntryNotFound) (Ok (sized size (within begin end t.entries)))))
    (first_index_of t.entries))

-- the run of a queue's entries: Rewrite ones stand at the front
unfoldable pub run_of : LogQueue → List EntryIndex → List EntryIndex
run_of Append es = rest is_rewrite es
run_of Rewrite es = front is_rewrite es

unfoldable pub rewrite_count : Table → ℕ
rewrite_count t = length (run_of Rewrite t.entries)

-- `fetch_entry_indexes_before`: Append entries from the front while the file is at most the gate
unfoldable pub fetch_entry_indexes_before : ℕ → Table → List EntryIndex
fetch_entry_indexes_before gate t = front (λ e. leb (file_of e).seq gate) (run_of Append t.entries)

-- `fetch_rewritten_entry_indexes`: all Rewrite entries
unfoldable pub fetch_rewritten_entry_indexes : Table → List EntryIndex
fetch_rewritten_entry_indexes t = select is_rewrite t.entries

-- `has_at_least_some_entries_before`: the entry at count − 1 exists with a sequence number at most the gate's
unfoldable pub has_at_least_some_entries_before : ℕ → ℕ → Table → Result Bool
has_at_least_some_entries_before gate count t =
    cond (eqb count 0) (refuse BadRange) (Ok (or_else false (λ e. leb (file_of e).seq gate) (slice_get t.entries (count - 1))))

-- ---- keys

-- a row of a list of keys: the key and its value
pub record KeyValue : Type 0 where
  pub key : List ℕ
  pub value : List ℕ

unfoldable pub row_of : Pair (List ℕ) Held → KeyValue
row_of p = record { key = p.key; value = p.val.value }

unfoldable pub get_key : List ℕ → Table → Option (List ℕ)
get_key k t = map_option (λ (h : Held). h.value) (lookup bytes k t.keys)

-- a scan takes start and leaves end out; a bound that is absent is open
unfoldable pub in_bounds : Option (List ℕ) → Option (List ℕ) → List ℕ → Bool
in_bounds start end k = or_else true (λ s. not (bytes_below k s)) start && or_else true (bytes_below k) end

unfoldable pub start_above_end : Option (List ℕ) → Option (List ℕ) → Bool
start_above_end start end = or_else false (λ s. or_else false (λ e. bytes_below e s) end) start

unfoldable pub in_direction : {A : Type 0} → Bool → List A → List A
in_direction false rows = rows
in_direction true rows = reverse rows

unfoldable pub scan : Option (List ℕ) → Option (List ℕ) → Bool → ℕ → Table → Result (List KeyValue)
scan start end backwards count t =
    cond (start_above_end start end || eqb count 0)
    (refuse BadRange)
    (Ok (take count (in_direction backwards (map row_of (select (λ p. in_bounds start end p.key) t.keys)))))

unfoldable pub keys_of : LogQueue → Table → Map (List ℕ) Held
keys_of q t = select (λ p. same_queue p.val.file.queue q) t.keys

-- `fetch_kvs_before`: Append keys with a file up to the gate; `fetch_rewritten_kvs`: all Rewrite keys
unfoldable pub fetch_kvs_before : ℕ → Table → List KeyValue
fetch_kvs_before gate t = map row_of (select (λ p. leb p.val.file.seq gate) (keys_of Append t))

unfoldable pub fetch_rewritten_kvs : Table → List KeyValue
fetch_rewritten_kvs t = map row_of (keys_of Rewrite t)

-- ---- files and counts

unfoldable pub least_seq : Map (List ℕ) Held → Option ℕ
least_seq [] = None
least_seq (p ∷ ps) = least (Some p.val.file.seq) (least_seq ps)

-- the front entry of the queue's run and the queue's keys, the least
unfoldable pub least_file : LogQueue → Table → Option ℕ
least_file q t = least (map_option (λ e. (file_of e).seq) (first (run_of q t.entries))) (least_seq (keys_of q t))

-- for Rewrite with a span: if that is at most the span's end, the lesser of it and the span's start
unfoldable pub by_span : LogQueue → Option Span → ℕ → ℕ
by_span Append s n = n
by_span Rewrite None n = n
by_span Rewrite (Some s) n = cond (leb n s.end) (min n s.start) n

unfoldable pub min_file_seq : LogQueue → Table → Option ℕ
min_file_seq q t = map_option (by_span q t.span) (least_file q t)

-- a table's live entries and keys of a queue
unfoldable pub live_of : LogQueue → Table → ℕ
live_of q t = length (select (λ e. same_queue (file_of e).queue q) t.entries) + length (keys_of q t)
