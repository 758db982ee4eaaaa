-- Contexts and the index: what they hold, their limits, and what one item does.
use Rattle.std.specs.Prelude.{Bool, true, false, cond, ◌&&◌, List, [], ◌∷◌, ◌++◌, ℕ, leb, length}
use Rattle.std.specs.Prelude.{Option}
use Rattle.rules.specs.Limits.{max_groups, max_entries, max_keys, max_tombstones, max_cleaned, max_waiting_groups, max_waiting_items, max_waiting_entries}
use Rattle.rules.specs.Causes.{Result, Ok, refuse_at, and_then, in_order, placed, LimitPassed}
use Rattle.maps.specs.Lists.{every, sum}
use Rattle.maps.specs.Maps.{Map, lookup, store, numbers}
use Rattle.rules.specs.Items.{LogQueue, Append, Content, entries, command, kv, LogItem, Placed, Status, same_queue, is_reserved, is_clean, is_tombstone, writes, Call, replay_append, replay_rewrite, live_append, live_rewrite}
use Rattle.rules.specs.Table.{Table, change}

-- a context of a queue, or the index
pub data Kind : Type 0 where
  context : LogQueue → Kind
  index : Kind

unfoldable pub is_context : LogQueue → Kind → Bool
is_context q (context r) = same_queue q r
is_context q index = false

unfoldable pub is_index : Kind → Bool
is_index (context q) = false
is_index index = true

-- 01's waiting part: the items of marked batches that wait, with their first and last file
pub record Part : Type 0 where
  pub status : Status
  pub items : List LogItem
  pub start : ℕ
  pub end : ℕ

-- a context or the index. A group's waiting parts, one or two, stand newest first.
pub record Context : Type 0 where
  pub kind : Kind
  pub groups : Map ℕ Table
  pub tombstones : List LogItem
  pub cleaned : List ℕ
  pub waiting : Map ℕ (List Part)

unfoldable pub fresh : LogQueue → Context
fresh q = record { kind = context q; groups = []; tombstones = []; cleaned = []; waiting = [] }

unfoldable pub with_groups : Map ℕ Table → Context → Context
with_groups g c = record { kind = c.kind; groups = g; tombstones = c.tombstones; cleaned = c.cleaned; waiting = c.waiting }

unfoldable pub with_tombstones : List LogItem → Context → Context
with_tombstones l c = record { kind = c.kind; groups = c.groups; tombstones = l; cleaned = c.cleaned; waiting = c.waiting }

unfoldable pub with_cleaned : List ℕ → Context → Context
with_cleaned l c = record { kind = c.kind; groups = c.groups; tombstones = c.tombstones; cleaned = l; waiting = c.waiting }

unfoldable pub with_waiting : Map ℕ (List Part) → Context → Context
with_waiting w c = record { kind = c.kind; groups = c.groups; tombstones = c.tombstones; cleaned = c.cleaned; waiting = w }

-- ---- the limits

unfoldable pub table_fits : Table → Bool
table_fits t = leb (length t.entries) max_entries && leb (length t.keys) max_keys

unfoldable pub entries_in : LogItem → ℕ
entries_in it = count it.content
  where
    count : Content → ℕ
    count (entries es) = length es
    count (command c) = 0
    count (kv k c) = 0

unfoldable pub waiting_fits : Map ℕ (List Part) → Bool
waiting_fits w =
    leb (length w) max_waiting_groups
    && leb (sum (λ g. sum (λ p. length p.items) g.val) w) max_waiting_items
    && leb (sum (λ g. sum (λ p. sum entries_in p.items) g.val) w) max_waiting_entries

-- no limit is passed
unfoldable pub fits : Context → Bool
fits c =
    leb (length c.groups) max_groups
    && every (λ p. table_fits p.val) c.groups
    && leb (length c.tombstones) max_tombstones
    && leb (length c.cleaned) max_cleaned
    && waiting_fits c.waiting

-- how a state is judged on the way: a batch after each item, by the limits; a merge not at all
abbrev pub Judge : Type 0
Judge = Option ℕ → Context → Result Context

unfoldable pub limited : Judge
limited p c = cond (fits c) (Ok c) (refuse_at LimitPassed p)

unfoldable pub unjudged : Judge
unjudged p c = Ok c

-- ---- one item

-- Cleans of the Append side are kept as cleaned numbers
unfoldable pub add_cleaned : Call → LogItem → Context → Context
add_cleaned call it c = cond (same_queue (writes call) Append && is_clean it.content) (with_cleaned (c.cleaned ++ (it.group ∷ [])) c) c

-- what an item does to its own group and to the cleaned numbers; a reserved one is skipped
unfoldable pub act : Call → LogItem → Context → Result Context
act call it c =
    cond (is_reserved it.content)
    (Ok c)
    (and_then (change call it.content (lookup numbers it.group c.groups))
    (λ t. Ok (add_cleaned call it (with_groups (store numbers it.group t c.groups) c))))

-- a replay keeps tombstones
unfoldable pub keeps : Call → Bool
keeps replay_append = true
keeps replay_rewrite = true
keeps live_append = false
keeps (live_rewrite g s) = false

unfoldable pub add_tombstone : Call → LogItem → Context → Context
add_tombstone call it c =
    cond (keeps call && is_tombstone it.content) (with_tombstones (c.tombstones ++ (it ∷ [])) c) c

unfoldable pub step : Judge → Call → Placed → Context → Result Context
step judge call x c =
    and_then (placed x.place (act call x.item c)) (λ d. judge x.place (add_tombstone call x.item d))

unfoldable pub run : Judge → Call → List Placed → Context → Result Context
run judge call = in_order (step judge call)

-- tombstones replayed and not kept a second time
unfoldable pub replay_tombstones : Call → List LogItem → Context → Result Context
replay_tombstones call = in_order (act call)
