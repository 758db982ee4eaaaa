-- Rules of contexts: the calls that write. Each gives the state that it ends with, or the refusal; `left` is the state after either.
use Rattle.std.specs.Prelude.{Bool, false, cond, ◌&&◌, [], ◌++◌, ℕ}
use Rattle.std.specs.Prelude.{Option, None, Some}
use Rattle.rules.specs.Causes.{Cause, Result, Err, refuse, and_then, WrongKind, FilesGoBack, AboveLast}
use Rattle.maps.specs.Lists.{any, or_else}
use Rattle.maps.specs.Maps.{Map, lookup, merge_with, numbers}
use Rattle.rules.specs.Items.{LogQueue, Append, Rewrite, same_queue, Batch, placed_from, Call, replay_append, replay_rewrite, live_append, live_rewrite}
use Rattle.rules.specs.Checks.{checks, first_mark}
use Rattle.rules.specs.Table.{Table, made, uncounted, with_entries, with_keys, with_span, first_index_of, is_above_last, over, over_gap, over_keys, span_goes_back}
use Rattle.rules.specs.Context.{index, is_context, is_index, Context, with_groups, with_tombstones, limited, run, replay_tombstones}
use Rattle.rules.specs.Waiting.{replay_marked, accept_all}

-- a call of a batch goes on if the checks 2 to 7 refuse nothing
unfoldable pub checked : Call → Batch → Result Context → Result Context
checked call b next = or_else next (λ r. Err r) (checks call b.items)

-- items in order, each judged by the limits
unfoldable pub run_batch : Call → Batch → Context → Result Context
run_batch call b c = run limited call (placed_from 0 b.items) c

-- ---- replay

unfoldable pub replay_batch : LogQueue → Batch → Context → Result Context
replay_batch Append b c = checked replay_append b (run_batch replay_append b c)
replay_batch Rewrite b c =
    checked replay_rewrite b
    (or_else (run_batch replay_rewrite b c)
    (λ m. replay_marked m b.file.seq (placed_from 0 b.items) c)
    (first_mark 0 b.items))

-- a batch replayed into a context of its file's queue
unfoldable pub replay : Batch → Context → Result Context
replay b c = cond (is_context b.file.queue c.kind) (replay_batch b.file.queue b c) (refuse WrongKind)

-- ---- merge

-- whether a newer table can not be laid over the older one
unfoldable pub clashes : LogQueue → Option Table → Table → Bool
clashes Append older newer = or_else false (λ s. is_above_last s (made older).entries) (first_index_of newer.entries)
clashes Rewrite older newer = or_else false (span_goes_back (made older).span) newer.span

-- what a clash of two tables is: an append above last + 1, or files of spans that go back
unfoldable pub clash : LogQueue → Cause
clash Append = AboveLast
clash Rewrite = FilesGoBack

-- a newer entries list is one replayed list of that queue
unfoldable pub over_of : LogQueue → Table → Table → Table
over_of Append older newer = with_entries (over older.entries newer.entries) older
over_of Rewrite older newer = with_entries (over_gap older.entries newer.entries) older

-- a newer table laid over an older one
unfoldable pub merge_table : LogQueue → Option Table → Table → Table
merge_table q older newer =
    with_span (or_else (made older).span Some newer.span)
    (with_keys (over_keys (made older).keys newer.keys) (over_of q (made older) newer))

unfoldable pub merge_tables : LogQueue → Context → Context → Result Context
merge_tables q newer c =
    cond (any (λ p. clashes q (lookup numbers p.key c.groups) p.val) newer.groups)
    (refuse (clash q))
    (limited None (with_groups (merge_with numbers (merge_table q) c.groups newer.groups) c))

unfoldable pub replay_call : LogQueue → Call
replay_call Append = replay_append
replay_call Rewrite = replay_rewrite

-- newer tombstones are appended, newer waiting parts accepted, newer tombstones replayed; newer tables follow
unfoldable pub merge_contexts : LogQueue → Context → Context → Result Context
merge_contexts q newer c =
    and_then (accept_all newer.waiting (with_tombstones (c.tombstones ++ newer.tombstones) c))
    (λ d. and_then (replay_tombstones (replay_call q) newer.tombstones d) (merge_tables q newer))

-- both are contexts of queue q
unfoldable pub both : LogQueue → Context → Context → Bool
both q newer c = is_context q newer.kind && is_context q c.kind

-- the newer context merged into the older one, c
unfoldable pub merge : Context → Context → Result Context
merge newer c =
    cond (both Append newer c)
    (merge_contexts Append newer c)
    (cond (both Rewrite newer c) (merge_contexts Rewrite newer c) (refuse WrongKind))

-- ---- join

-- an Append table laid over its Rewrite table, a gap dropping all, or adopted if there is none
unfoldable pub join_table : Option Table → Table → Table
join_table None newer = uncounted newer
join_table (Some older) newer =
    with_keys (over_keys older.keys newer.keys) (with_entries (over_gap older.entries newer.entries) older)

-- the index: waiting parts and tombstones go
unfoldable pub index_of : Map ℕ Table → Context → Context
index_of g c = record { kind = index; groups = g; tombstones = []; cleaned = c.cleaned; waiting = [] }

unfoldable pub join_contexts : Context → Context → Result Context
join_contexts newer c =
    and_then (replay_tombstones live_append newer.tombstones c)
    (λ d. limited None (index_of (merge_with numbers join_table d.groups newer.groups) d))

-- an Append context joined to the Rewrite context c, which becomes the index
unfoldable pub join : Context → Context → Result Context
join newer c = cond (is_context Append newer.kind && is_context Rewrite c.kind) (join_contexts newer c) (refuse WrongKind)

-- ---- live writes

-- a call of the index that writes queue q takes a batch file of that queue
unfoldable pub write : LogQueue → Call → Batch → Context → Result Context
write q call b c =
    cond (is_index c.kind && same_queue b.file.queue q) (checked call b (run_batch call b c)) (refuse WrongKind)

unfoldable pub append : Batch → Context → Result Context
append b c = write Append live_append b c

-- a live rewrite, gated or not; a key's new number is the batch's
unfoldable pub rewrite : Option ℕ → Batch → Context → Result Context
rewrite gate b c = write Rewrite (live_rewrite gate b.file.seq) b c
