-- What the code's calls, marks and answers are in the rules' terms, and the tests of one item in the order of their numbers.
use Rattle.log_batch.specs.declared.item.Bytes.{Bytes}
use Rattle.std.specs.Prelude.{Bool, false, cond, not, ◌&&◌, ◌||◌, List, ℕ, eqb, leb, ltb, Option, None, Some}
use Rattle.maps.specs.Lists.{any, map_option}
use Rattle.pipe_log.specs.declared.EntryIndex.{EntryIndex}
use Rattle.rules.specs.Limits.{max_items, max_list_entries, max_bytes, max_index, max_entry_len}
use Rattle.rules.specs.Items as rules
use Rattle.rules.specs.Causes.{Result, Ok, Err, Cause, number_of, TooLong, Incomplete, OutOfRange, WrongQueue, NotRewritable, BadMark, Refusal}
use Rattle.rules.specs.Checks.{Mark, first_mark, consecutive, long, is_incomplete, is_out_of_range, is_other_queue, is_not_rewritable, meets3, meets7, unless_reserved, lacks_mark_value, is_rewrite_replay}
use Rattle.log_batch.specs.declared.item.OpType as op
use Rattle.log_batch.specs.declared.item.KeyValue.{KeyValue}
use Rattle.log_batch.specs.declared.item.LogItemContent as content
use Rattle.log_batch.specs.declared.entries.EntryTest as test
use Rattle.log_batch.specs.declared.mark.AtomicGroupStatus as status
use Rattle.log_batch.specs.declared.mark.Mark as mark
use Rattle.log_batch.specs.declared.causes.Call as call

-- ---- calls and marks

unfoldable pub call_of : call.Call → rules.Call
call_of call.TheVariants.ReplayAppend = rules.replay_append
call_of call.TheVariants.ReplayRewrite = rules.replay_rewrite
call_of call.TheVariants.LiveAppend = rules.live_append
call_of (call.TheVariants.LiveRewrite g s) = rules.live_rewrite g s

unfoldable pub status_as : status.AtomicGroupStatus → rules.Status
status_as status.TheVariants.Begin = rules.begin
status_as status.TheVariants.Middle = rules.middle
status_as status.TheVariants.End = rules.end

-- the number of a status, as a mark's byte and the head of a part have it
unfoldable pub status_number : rules.Status → ℕ
status_number rules.begin = 0
status_number rules.middle = 1
status_number rules.end = 2

unfoldable pub mark_of : mark.Mark → Mark
mark_of m = record { at = m.at; group = m.raft_group_id; byte = m.byte }

unfoldable pub mark_as : Option mark.Mark → Option Mark
mark_as None = None
mark_as (Some m) = Some (mark_of m)

-- the mark that item i is, if it is one
unfoldable pub mark_here : ℕ → rules.LogItem → Option Mark
mark_here i it = map_option (λ (b : ℕ). record { at = i; group = it.group; byte = b }) (rules.mark_byte it.content)

-- ---- a list of entries

unfoldable pub entry_meets : test.EntryTest → EntryIndex → Bool
entry_meets test.TheVariants.WithoutFile e = not (rules.has_file e.entries)
entry_meets test.TheVariants.OutOfRange e = ltb max_index e.index || ltb max_entry_len e.entry_len
entry_meets (test.TheVariants.OtherQueue q) e = rules.has_file e.entries && not (rules.same_queue (rules.file_of e).queue q)

unfoldable pub entries_incomplete : List EntryIndex → Bool
entries_incomplete es = any (entry_meets test.TheVariants.WithoutFile) es || not (consecutive es)

-- ---- an item

-- `long` of an item whose places are within the slices
unfoldable pub long_value : op.OpType → Option Bytes → Bool
long_value op.TheVariants.Del v = false
long_value op.TheVariants.Put None = false
long_value op.TheVariants.Put (Some b) = ltb max_bytes b.len

unfoldable pub long_key : KeyValue → Bool
long_key k = ltb max_bytes k.key_len || long_value k.op_type k.value

unfoldable pub long_places : content.LogItemContent → Bool
long_places (content.TheVariants.EntryIndexes e) = ltb max_list_entries e.count
long_places (content.TheVariants.Command c) = false
long_places (content.TheVariants.Kv k) = long_key k

unfoldable pub del_or_compact : rules.Content → Bool
del_or_compact c = rules.is_tombstone c && not (rules.is_clean c)

-- the first of the causes Incomplete to NotRewritable that an item of no reserved key meets
unfoldable pub least_content : rules.Call → rules.Content → Option Cause
least_content call c =
    cond (is_incomplete call c) (Some Incomplete)
    (cond (is_out_of_range c) (Some OutOfRange)
    (cond (is_other_queue call c) (Some WrongQueue) (cond (is_not_rewritable call c) (Some NotRewritable) None)))

-- whether a reserved item is incomplete
unfoldable pub incomplete_mark : rules.Call → rules.LogItem → Bool
incomplete_mark call it = is_rewrite_replay call && lacks_mark_value it.content

unfoldable pub least_mark : rules.Call → Option Mark → ℕ → rules.LogItem → Option Cause
least_mark call m i it = cond (meets7 call m i it) (Some BadMark) None

-- the rules' tests by the numbers of their causes
unfoldable pub judge : rules.Call → Option Mark → ℕ → ℕ → rules.LogItem → Bool
judge call m n i it =
    cond (eqb n 2) (eqb i max_items || long it.content)
    (cond (eqb n 3) (meets3 call it.content)
    (cond (eqb n 4) (unless_reserved is_out_of_range i it)
    (cond (eqb n 5) (unless_reserved (is_other_queue call) i it)
    (cond (eqb n 6) (unless_reserved (is_not_rewritable call) i it) (meets7 call m i it)))))

-- the first of the causes TooLong to BadMark that an item meets
unfoldable pub least_of : rules.Call → Option Mark → ℕ → rules.LogItem → Option Cause
least_of call m i it =
    cond (judge call m 2 i it) (Some TooLong)
    (cond (judge call m 3 i it) (Some Incomplete)
    (cond (judge call m 4 i it) (Some OutOfRange)
    (cond (judge call m 5 i it) (Some WrongQueue)
    (cond (judge call m 6 i it) (Some NotRewritable) (cond (judge call m 7 i it) (Some BadMark) None)))))

-- the mark that the call looks at: only Rewrite replay looks at marks
unfoldable pub mark_for : rules.Call → List rules.LogItem → Option Mark
mark_for call items = cond (is_rewrite_replay call) (first_mark 0 items) None

-- the refusal with the lesser number, and of the same number the one at the earlier place
unfoldable pub lesser_of : Option Refusal → Option Cause → ℕ → Option Refusal
lesser_of best None place = best
lesser_of None (Some c) place = Some (record { cause = c; place = Some place })
lesser_of (Some r) (Some c) place =
    cond (leb (number_of r.cause) (number_of c)) (Some r) (Some (record { cause = c; place = Some place }))

-- what `check` answers, as the rules' refusal
unfoldable pub checked_as : Result (Unit {0}) → Option Refusal
checked_as (Ok _) = None
checked_as (Err r) = Some r
