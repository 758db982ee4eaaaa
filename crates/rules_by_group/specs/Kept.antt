-- What every context keeps through every call, and the merge and the join rest on.
use Rattle.std.specs.Prelude.{◌≤◌, length, Bool, true, false, not, ◌&&◌, List, [], ◌∷◌, ◌≡◌, ℕ, eqb}
use Rattle.std.specs.Prelude.{Option}
use Rattle.maps.specs.Lists.{every}
use Rattle.maps.specs.Maps.{Pair, numbers}
use Rattle.maps.specs.MapLaws.{Ascending}
use Rattle.rules.specs.Items.{Append, Rewrite, EntryIndex, same_queue, file_of, Content, entries, command, kv, LogItem, Status, begin, middle, end, is_tombstone, replay_rewrite}
use Rattle.rules.specs.Checks.{long, is_out_of_range, is_other_queue, meets3, unless_reserved}
use Rattle.rules.specs.Table.{Table, made}
use Rattle.rules.specs.Context.{Kind, context, index, Part, Context}
use Rattle.rules_by_group.specs.Group.{cleans_of}

unfoldable pub is_begin : Status → Bool
is_begin begin = true
is_begin middle = false
is_begin end = false

unfoldable pub is_end : Status → Bool
is_end begin = false
is_end middle = false
is_end end = true

-- what may stand behind a group's newest part: nothing, or an End behind a Begin
unfoldable pub behind : Status → List Part → Bool
behind s [] = true
behind s (o ∷ []) = is_begin s && is_end o.status
behind s (o ∷ (r ∷ rs)) = false

-- the shapes that `accept` makes, newest first
unfoldable pub shaped : List Part → Bool
shaped [] = false
shaped (p ∷ ps) = behind p.status ps

-- by kind: a context holds entries of its own queue alone, the index those of both
unfoldable pub entry_by : Kind → EntryIndex → Bool
entry_by (context q) e = same_queue (file_of e).queue q
entry_by index e = true

-- each entry of an item meets p
unfoldable pub each_entry : (EntryIndex → Bool) → Content → Bool
each_entry p (entries es) = every p es
each_entry p (command c) = true
each_entry p (kv k c) = true

-- an item that meets none of 2 to 5 in a Rewrite replay, where none meets 6
unfoldable pub is_passed : LogItem → Bool
is_passed it =
    not (long it.content)
    && not (meets3 replay_rewrite it.content)
    && not (unless_reserved is_out_of_range 0 it)
    && not (unless_reserved (is_other_queue replay_rewrite) 0 it)

-- the items of a group's parts are the group's own, with entries of the Rewrite queue, and have passed the checks
unfoldable pub is_own : ℕ → LogItem → Bool
is_own g it = eqb it.group g && each_entry (entry_by (context Rewrite)) it.content && is_passed it

unfoldable pub own_items : ℕ → List LogItem → Bool
own_items g items = every (is_own g) items

unfoldable pub own_parts : ℕ → List Part → Bool
own_parts g ps = every (λ (p : Part). own_items g p.items) ps

unfoldable pub all_tombstones : List LogItem → Bool
all_tombstones items = every (λ (it : LogItem). is_tombstone it.content) items

-- by kind: the cleaned numbers of an Append context are the Cleans of its tombstones, and nothing waits there; a Rewrite context has no
-- cleaned numbers; the index has no tombstones, and nothing waits there
unfoldable pub KeptBy : Kind → Context → Type 0
KeptBy (context Append) c = (c.waiting ≡ []) × (c.cleaned ≡ cleans_of c.tombstones)
KeptBy (context Rewrite) c = c.cleaned ≡ []
KeptBy index c = (c.waiting ≡ []) × (c.tombstones ≡ [])

pub record Kept (c : Context) : Type 0 where
  pub groups-ascend : Ascending numbers c.groups
  pub waiting-ascends : Ascending numbers c.waiting
  pub own-items : every (λ (x : Pair ℕ (List Part)). own_parts x.key x.val) c.waiting ≡ true
  pub shapes : every (λ (x : Pair ℕ (List Part)). shaped x.val) c.waiting ≡ true
  pub own-entries : every (λ (x : Pair ℕ Table). every (entry_by c.kind) x.val.entries) c.groups ≡ true
  pub tombstones-only : all_tombstones c.tombstones ≡ true
  pub by_kind : KeptBy c.kind c

-- what is kept, of a kind
pub record KeptAt (k : Kind) (c : Context) : Type 0 where
  pub is-kind : c.kind ≡ k
  pub kept : Kept c

-- a table that may be absent has at most e entries and k keys
pub record Within (e k : ℕ) (o : Option Table) : Type 0 where
  pub few-entries : length (made o).entries ≤ e
  pub few-keys : length (made o).keys ≤ k
