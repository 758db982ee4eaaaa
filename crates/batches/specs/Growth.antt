-- How an item adds to the lists of an area: a tombstone, a cleaned number, both or none.
use Rattle.std.specs.Prelude.{Bool, true, List, ◌≡◌, ℕ, get_or, take, drop}
use Rattle.rules.specs.Items.{LogItem}
use Rattle.rules.specs.Context.{Context}
use Rattle.log_batch.specs.declared.item.LogItem as lent
use Rattle.stores.specs.Written as stores
use Rattle.groups.specs.Area.{numbers_in_use, bytes_in_use}
use Rattle.lists.specs.Rest.{rest_of, Wf}
use Rattle.lists.specs.Calls.{Behind, Keeps}
use Rattle.batches.specs.Steps.{one_more_if, room_if}

-- the lists with a tombstone and a cleaned number more, if they are added
unfoldable pub lists_with : Bool → Bool → LogItem → Context → Context
lists_with t n it c =
    record { kind = c.kind; groups = c.groups; tombstones = one_more_if t c.tombstones it; cleaned = one_more_if n c.cleaned it.group; waiting = c.waiting }

-- there is room for what is added, and a tombstone has no entries
pub record RoomFor (t n : Bool) (it : lent.LogItem) (ys : List ℕ) : Type 0 where
  pub tombstone-room : room_if t (get_or ys 1 0) 64 ≡ true
  pub cleaned-room : room_if n (get_or ys 2 0) 64 ≡ true
  pub no-entries : t ≡ true → stores.count_of it.content ≡ 0

-- the lists after it
pub record ListsGrown (t n : Bool) (it : LogItem) (ys cs ys' cs' : List ℕ) : Type 0 where
  pub rest : rest_of ys' cs' ≡ lists_with t n it (rest_of ys cs)
  pub keeps : Keeps ys cs ys' cs'
  pub behind : Behind ys cs ys' cs'
  pub wf : Wf ys' cs'

-- the area after it: the groups are as they were
pub record AreaGrown (t n : Bool) (it : LogItem) (xs bs xs' bs' : List ℕ) : Type 0 where
  pub lists-grown : ListsGrown t n it (drop numbers_in_use xs) (drop bytes_in_use bs) (drop numbers_in_use xs') (drop bytes_in_use bs')
  pub front : take numbers_in_use xs' ≡ take numbers_in_use xs
  pub front_bytes : take bytes_in_use bs' ≡ take bytes_in_use bs
