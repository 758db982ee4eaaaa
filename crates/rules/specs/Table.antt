-- Rules of one group: how a table changes.
use Rattle.std.specs.Prelude.{Bool, true, false, cond, not, ◌&&◌, List, [], ◌∷◌, ◌++◌, ℕ, suc, ltb, leb, length}
use Rattle.std.specs.Prelude.{Option, None, Some}
-- the files of a finished atomic group
pub use Rattle.pipe_log.specs.declared.Span.{Span}
use Rattle.rules.specs.Causes.{Result, Ok, refuse, and_then, FilesGoBack, BelowFirst, AboveLast, AppendLeft, AlreadyRewritten, KeyGoesBack}
use Rattle.maps.specs.Lists.{select, first, last, map_option, or_else}
use Rattle.maps.specs.Maps.{Map, lookup, insert, remove, merge_with, bytes}
use Rattle.rules.specs.Items.{LogQueue, Append, Rewrite, FileId, EntryIndex, is_rewrite, file_of, Command, clean, compact, Change, put, del, Content, entries, command, kv, Call, replay_append, replay_rewrite, live_append, live_rewrite, is_live_rewrite}

-- what a key holds: its value and its file
pub record Held : Type 0 where
  pub value : List ℕ
  pub file : FileId

-- one group's table. `entries` are the records oldest first, by consecutive indexes; `counted` is false of a group that a join adopted.
pub record Table : Type 0 where
  pub entries : List EntryIndex
  pub keys : Map (List ℕ) Held
  pub span : Option Span
  pub counted : Bool

unfoldable pub empty_table : Table
empty_table = record { entries = []; keys = []; span = None; counted = true }

-- an item makes its group
unfoldable pub made : Option Table → Table
made t = or_else empty_table (λ (x : Table). x) t

unfoldable pub with_entries : List EntryIndex → Table → Table
with_entries es t = record { entries = es; keys = t.keys; span = t.span; counted = t.counted }

unfoldable pub with_keys : Map (List ℕ) Held → Table → Table
with_keys m t = record { entries = t.entries; keys = m; span = t.span; counted = t.counted }

unfoldable pub with_span : Option Span → Table → Table
with_span s t = record { entries = t.entries; keys = t.keys; span = s; counted = t.counted }

-- a table that the live counts leave out
unfoldable pub uncounted : Table → Table
uncounted t = record { entries = t.entries; keys = t.keys; span = t.span; counted = false }

-- ---- entries

unfoldable pub first_index_of : List EntryIndex → Option ℕ
first_index_of es = map_option (λ (e : EntryIndex). e.index) (first es)

unfoldable pub last_index : List EntryIndex → Option ℕ
last_index es = map_option (λ (e : EntryIndex). e.index) (last es)

unfoldable pub is_below_first : ℕ → List EntryIndex → Bool
is_below_first s es = or_else false (ltb s) (first_index_of es)

unfoldable pub is_above_last : ℕ → List EntryIndex → Bool
is_above_last s es = or_else false (λ (l : ℕ). ltb (suc l) s) (last_index es)

unfoldable pub entries_below : ℕ → List EntryIndex → List EntryIndex
entries_below s es = select (λ e. ltb e.index s) es

unfoldable pub entries_from : ℕ → List EntryIndex → List EntryIndex
entries_from s es = select (λ e. leb s e.index) es

-- the newer list laid over the older entries: those from its first index up are dropped, which are all if it starts below the first
unfoldable pub over : List EntryIndex → List EntryIndex → List EntryIndex
over older [] = older
over older (e ∷ es) = entries_below e.index older ++ (e ∷ es)

-- the same, where a gap drops all: `replay_rewrite`, and the join
unfoldable pub over_gap : List EntryIndex → List EntryIndex → List EntryIndex
over_gap older [] = older
over_gap older (e ∷ es) = cond (is_above_last e.index older) (e ∷ es) (over older (e ∷ es))

-- Append at s, live or replayed
unfoldable pub appended : Bool → List EntryIndex → Table → Result Table
appended live [] t = Ok t
appended live (e ∷ es) t =
    cond (live && is_below_first e.index t.entries)
    (refuse BelowFirst)
    (cond (is_above_last e.index t.entries) (refuse AboveLast) (Ok (with_entries (over t.entries (e ∷ es)) t)))

unfoldable pub replayed_rewrite : List EntryIndex → Table → Table
replayed_rewrite es t = with_entries (over_gap t.entries es) t

-- `compact_to` i: the entries below i are dropped; their number
unfoldable pub compacted : ℕ → Table → Table
compacted i t = with_entries (entries_from i t.entries) t

unfoldable pub compacted_count : ℕ → Table → ℕ
compacted_count i t = length (entries_below i t.entries)

-- `rewrite`: whether it replaces an entry. Gated: an Append one with a file up to the gate. Ungated: a Rewrite one.
unfoldable pub replaces : Option ℕ → EntryIndex → Bool
replaces None e = is_rewrite e
replaces (Some gate) e = not (is_rewrite e) && leb (file_of e).seq gate

-- entries from the overlap's start replaced by the list, until one is not
unfoldable pub replaced : Option ℕ → List EntryIndex → List EntryIndex → List EntryIndex
replaced gate [] rs = []
replaced gate (e ∷ es) [] = e ∷ es
replaced gate (e ∷ es) (r ∷ rs) = cond (replaces gate e) (r ∷ replaced gate es rs) (e ∷ es)

-- the entry at which the replacing stops before the overlap's end
unfoldable pub stops_at : Option ℕ → List EntryIndex → List EntryIndex → Option EntryIndex
stops_at gate [] rs = None
stops_at gate (e ∷ es) [] = None
stops_at gate (e ∷ es) (r ∷ rs) = cond (replaces gate e) (stops_at gate es rs) (Some e)

-- a gated rewrite meets a Rewrite entry
unfoldable pub meets_rewrite : Option ℕ → Option EntryIndex → Bool
meets_rewrite None e = false
meets_rewrite (Some gate) e = or_else false is_rewrite e

-- before: the entries before the overlap; es: those from its start; rs: the list from its start
unfoldable pub rewrite_overlap : Option ℕ → List EntryIndex → List EntryIndex → List EntryIndex → Result (List EntryIndex)
rewrite_overlap gate before [] rs = Ok before
rewrite_overlap gate before (e ∷ es) [] = Ok (before ++ (e ∷ es))
rewrite_overlap gate before (e ∷ es) (r ∷ rs) =
    cond (or_else false (λ b. not (is_rewrite b)) (last before))
    (refuse AppendLeft)
    (cond (meets_rewrite gate (stops_at gate (e ∷ es) (r ∷ rs)))
    (refuse AlreadyRewritten)
    (Ok (before ++ replaced gate (e ∷ es) (r ∷ rs))))

-- a list that starts at s, on entries that start at f; where either is empty nothing changes
unfoldable pub rewritten : Option ℕ → List EntryIndex → Table → Result Table
rewritten gate rs t =
    or_else (Ok t)
    (λ s. or_else (Ok t)
    (λ f. and_then (rewrite_overlap gate (entries_below s t.entries) (entries_from s t.entries) (entries_from f rs)) (λ es. Ok (with_entries es t)))
    (first_index_of t.entries))
    (first_index_of rs)

-- ---- keys

unfoldable pub put_key : List ℕ → Held → Table → Table
put_key k h t = with_keys (insert bytes k h t.keys) t

unfoldable pub delete_key : List ℕ → Table → Table
delete_key k t = with_keys (remove bytes k t.keys) t

-- the key's record after `rewrite_key` under a gate to Rewrite file s
unfoldable pub rewrite_file : LogQueue → Option ℕ → ℕ → Held → Result Held
rewrite_file Append None s h = Ok h
rewrite_file Append (Some gate) s h =
    Ok (cond (leb h.file.seq gate) (record { value = h.value; file = record { queue = Rewrite; seq = s } }) h)
rewrite_file Rewrite gate s h =
    cond (ltb s h.file.seq) (refuse KeyGoesBack) (Ok (record { value = h.value; file = record { queue = Rewrite; seq = s } }))

unfoldable pub rewritten_key : List ℕ → Option ℕ → ℕ → Table → Result Table
rewritten_key k gate s t =
    or_else (Ok t) (λ h. and_then (rewrite_file h.file.queue gate s h) (λ g. Ok (put_key k g t))) (lookup bytes k t.keys)

-- a newer table's keys laid over
unfoldable pub over_keys : Map (List ℕ) Held → Map (List ℕ) Held → Map (List ℕ) Held
over_keys older newer = merge_with bytes (λ o n. n) older newer

-- ---- the span

-- a span's files go back if it starts before the end of the one that it replaces
unfoldable pub span_goes_back : Option Span → Span → Bool
span_goes_back None s = false
span_goes_back (Some o) s = ltb s.start o.end

unfoldable pub spanned : Span → Table → Result Table
spanned s t = cond (span_goes_back t.span s) (refuse FilesGoBack) (Ok (with_span (Some s) t))

-- ---- what an item's content does to its own group

unfoldable pub put_held : List ℕ → Option (List ℕ) → Option FileId → Table → Table
put_held k (Some v) (Some f) t = put_key k (record { value = v; file = f }) t
put_held k (Some v) None t = t
put_held k None (Some f) t = t
put_held k None None t = t

unfoldable pub entries_to : Call → List EntryIndex → Table → Result Table
entries_to replay_append es t = appended false es t
entries_to replay_rewrite es t = Ok (replayed_rewrite es t)
entries_to live_append es t = appended true es t
entries_to (live_rewrite gate s) es t = rewritten gate es t

-- a Put; a live rewrite moves the key's file instead
unfoldable pub put_to : Call → List ℕ → Option (List ℕ) → Option FileId → Table → Result Table
put_to replay_append k v f t = Ok (put_held k v f t)
put_to replay_rewrite k v f t = Ok (put_held k v f t)
put_to live_append k v f t = Ok (put_held k v f t)
put_to (live_rewrite gate s) k v f t = rewritten_key k gate s t

unfoldable pub change_to : Call → List ℕ → Change → Table → Result Table
change_to call k (put v f) t = put_to call k v f t
change_to call k del t = Ok (delete_key k t)

-- Clean removes the group; in a live rewrite it only makes it
unfoldable pub command_to : Call → Command → Option Table → Option Table
command_to call clean t = cond (is_live_rewrite call) (Some (made t)) None
command_to call (compact i) t = Some (compacted i (made t))

unfoldable pub change : Call → Content → Option Table → Result (Option Table)
change call (entries es) t = and_then (entries_to call es (made t)) (λ x. Ok (Some x))
change call (command c) t = Ok (command_to call c t)
change call (kv k c) t = and_then (change_to call k c (made t)) (λ x. Ok (Some x))
