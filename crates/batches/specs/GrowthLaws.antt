-- The laws of what an item adds to the lists: it is what the rules add, there is room for it if the counts say so, and what is a
-- tombstone has no entries. Assumes nothing.
use Rattle.std.specs.Prelude.{Bool, true, ◌&&◌, List, ◌≡◌, refl, ℕ, get_or}
use Rattle.maps.specs.BoolLaws.{clash, both_right}
use Rattle.maps.specs.Maps.{Map}
use Rattle.rules.specs.Items.{LogItem, is_tombstone, Call}
use Rattle.rules.specs.Table.{Table}
use Rattle.rules.specs.Context.{Part, Context, with_groups, with_waiting, keeps}
use Rattle.log_batch.specs.declared.item.LogItem as lent
use Rattle.log_batch.specs.declared.item.LogItemContent as content
use Rattle.log_batch.specs.Lent.{content_of, item_of}
use Rattle.stores.specs.Written as stores
use Rattle.lists.specs.Rest.{rest_of, Wf}
use Rattle.lists.specs.Laws.{lengths}
use Rattle.batches.specs.Steps.{adds_tombstone, adds_cleaned, grown, room_if, lists_have_room}
use Rattle.batches.specs.Growth.{lists_with}

-- what an item adds is what the rules add
pub grown_with : (c : Call) (it : LogItem) (x : Context) → lists_with (adds_tombstone c it) (adds_cleaned c it) it x ≡ grown c it x
unfolding lists_with grown
grown_with c it x = refl

-- the groups do not matter to what is added
pub with-groups : (t n : Bool) (it : LogItem) (m : Map ℕ Table) (x : Context) → lists_with t n it (with_groups m x) ≡ with_groups m (lists_with t n it x)
unfolding lists_with with_groups
with-groups t n it m x = refl

-- the counts tell whether there is room
pub room-is : (c : Call) (it : LogItem) (ys cs : List ℕ) (m : Map ℕ Table) (v : Map ℕ (List Part)) → Wf ys cs → lists_have_room c it (with_groups m (with_waiting v (rest_of ys cs))) ≡ (room_if (adds_tombstone c it) (get_or ys 1 0) 64 && room_if (adds_cleaned c it) (get_or ys 2 0) 64)
unfolding lists_have_room with_groups with_waiting rest_of
room-is c it ys cs m v w = let l = lengths ys cs w in rw (l.0, l.1)

tombstone_bare : (x : content.LogItemContent) (es bs : List ℕ) → is_tombstone (content_of x es bs) ≡ true → stores.count_of x ≡ 0
unfolding is_tombstone content_of
tombstone_bare (content.TheVariants.EntryIndexes e) es bs h = absurd (clash h)
tombstone_bare (content.TheVariants.Command c) es bs h = refl
tombstone_bare (content.TheVariants.Kv k) es bs h = refl

-- an item that adds a tombstone has no entries
pub no-entries : (c : Call) (it : lent.LogItem) (es bs : List ℕ) → adds_tombstone c (item_of it es bs) ≡ true → stores.count_of it.content ≡ 0
unfolding adds_tombstone item_of
no-entries c it es bs h = tombstone_bare it.content es bs (both_right (keeps c) (is_tombstone (content_of it.content es bs)) h)
