-- Causes 2 to 7: judged on the batch alone, before anything that depends on the state.
use Rattle.std.specs.Prelude.{Bool, true, false, cond, not, ◌&&◌, ◌||◌, List, [], ◌∷◌, ℕ, suc, ltb, eqb, length}
use Rattle.std.specs.Prelude.{Option, None, Some}
use Rattle.rules.specs.Limits.{max_items, max_list_entries, max_bytes, max_index, max_entry_len, max_status}
use Rattle.rules.specs.Causes.{Cause, number_of, Refusal, TooLong, Incomplete, OutOfRange, WrongQueue, NotRewritable, BadMark}
use Rattle.maps.specs.Lists.{any, or_else, find_from}
use Rattle.rules.specs.Items.{LogQueue, FileId, EntryIndex, same_queue, has_file, file_of, clean, compact, Change, put, del, Content, entries, command, kv, LogItem, is_reserved, is_clean, is_tombstone, mark_byte, is_mark, Call, replay_append, replay_rewrite, live_append, live_rewrite, writes, is_live_rewrite}

-- 2: a list over 32 entries, a key or value over 32 bytes
unfoldable pub long_change : Change → Bool
long_change del = false
long_change (put v f) = or_else false (λ (b : List ℕ). ltb max_bytes (length b)) v

unfoldable pub long : Content → Bool
long (entries es) = ltb max_list_entries (length es)
long (command c) = false
long (kv k c) = ltb max_bytes (length k) || long_change c

-- 3: a Put without value or file (live rewrite reads neither), an entry without a file, indexes not consecutive
unfoldable pub consecutive : List EntryIndex → Bool
consecutive [] = true
consecutive (e ∷ []) = true
consecutive (e ∷ (f ∷ es)) = eqb f.index (suc e.index) && consecutive (f ∷ es)

unfoldable pub lacks_value : Change → Bool
lacks_value del = false
lacks_value (put v f) = or_else true (λ (b : List ℕ). false) v

unfoldable pub lacks_file : Change → Bool
lacks_file del = false
lacks_file (put v f) = or_else true (λ (i : FileId). false) f

unfoldable pub is_incomplete : Call → Content → Bool
is_incomplete call (entries es) = any (λ (e : EntryIndex). not (has_file e.entries)) es || not (consecutive es)
is_incomplete call (command c) = false
is_incomplete call (kv k c) = not (is_live_rewrite call) && (lacks_value c || lacks_file c)

-- 4: an index or compaction target above 2^63−1, an entry length above 2^25
unfoldable pub is_out_of_range : Content → Bool
is_out_of_range (entries es) = any (λ (e : EntryIndex). ltb max_index e.index || ltb max_entry_len e.entry_len) es
is_out_of_range (command clean) = false
is_out_of_range (command (compact i)) = ltb max_index i
is_out_of_range (kv k c) = false

-- 5: an entry or Put file that the call reads, not of the queue q that it writes
unfoldable pub other_file : LogQueue → Change → Bool
other_file q del = false
other_file q (put v f) = or_else false (λ (i : FileId). not (same_queue i.queue q)) f

unfoldable pub is_other_queue : Call → Content → Bool
is_other_queue call (entries es) = any (λ (e : EntryIndex). has_file e.entries && not (same_queue (file_of e).queue (writes call))) es
is_other_queue call (command c) = false
is_other_queue call (kv k c) = not (is_live_rewrite call) && other_file (writes call) c

-- 6: Del or Compact in a live rewrite
unfoldable pub is_not_rewritable : Call → Content → Bool
is_not_rewritable call c = is_live_rewrite call && is_tombstone c && not (is_clean c)

-- marks and 7 are of Rewrite replay alone
unfoldable pub is_rewrite_replay : Call → Bool
is_rewrite_replay replay_append = false
is_rewrite_replay replay_rewrite = true
is_rewrite_replay live_append = false
is_rewrite_replay (live_rewrite g s) = false

-- reserved keys meet none of 3 to 6, but a reserved Put without value is 3 in Rewrite replay
unfoldable pub lacks_mark_value : Content → Bool
lacks_mark_value (entries es) = false
lacks_mark_value (command c) = false
lacks_mark_value (kv k c) = lacks_value c

unfoldable pub meets3 : Call → Content → Bool
meets3 call c = cond (is_reserved c) (is_rewrite_replay call && lacks_mark_value c) (is_incomplete call c)

-- the first mark of a list of items, counted from i: its place, its group and its byte
pub record Mark : Type 0 where
  pub at : ℕ
  pub group : ℕ
  pub byte : ℕ

unfoldable pub first_mark : ℕ → List LogItem → Option Mark
first_mark i [] = None
first_mark i (x ∷ xs) =
    or_else (first_mark (suc i) xs) (λ (b : ℕ). Some (record { at = i; group = x.group; byte = b })) (mark_byte x.content)

-- 7: a second mark, a status above 2, an item of another group in a marked batch
unfoldable pub breaks_mark : Mark → ℕ → LogItem → Bool
breaks_mark m i it =
    not (eqb it.group m.group) || (is_mark it && not (eqb i m.at)) || or_else false (ltb max_status) (mark_byte it.content)

unfoldable pub meets7 : Call → Option Mark → ℕ → LogItem → Bool
meets7 call m i it = is_rewrite_replay call && or_else false (λ (k : Mark). breaks_mark k i it) m

-- a refusal by a cause at the first position where it is met, and else what comes next
unfoldable pub or_next : Cause → Option ℕ → Option Refusal → Option Refusal
or_next n None next = next
or_next n (Some i) next = Some (record { cause = n; place = Some i })

-- 4, 5 and 6 are met by items that are not reserved
unfoldable pub unless_reserved : (Content → Bool) → ℕ → LogItem → Bool
unless_reserved p i it = not (is_reserved it.content) && p it.content

-- the least of 2 to 7 met by any item, at the first item that meets it; a batch over 32 is met at item 32
unfoldable pub checks : Call → List LogItem → Option Refusal
checks call items =
    or_next TooLong (find_from (λ i it. eqb i max_items || long it.content) 0 items)
    (or_next Incomplete (find_from (λ i it. meets3 call it.content) 0 items)
    (or_next OutOfRange (find_from (unless_reserved is_out_of_range) 0 items)
    (or_next WrongQueue (find_from (unless_reserved (is_other_queue call)) 0 items)
    (or_next NotRewritable (find_from (unless_reserved (is_not_rewritable call)) 0 items)
    (or_next BadMark (find_from (meets7 call (first_mark 0 items)) 0 items) None)))))
