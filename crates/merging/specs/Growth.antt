-- What the lists and the waiting parts become at the end of an accepted merge or join.
use Rattle.std.specs.Prelude.{true, List, [], ◌++◌, ◌≡◌, ℕ, ◌+◌, ◌≤◌, take, drop}
use Rattle.rules.specs.Items.{LogItem}
use Rattle.rules.specs.Context.{Context, with_groups, with_tombstones, with_cleaned}
use Rattle.rules.specs.Calls.{index_of}
use Rattle.rules_by_group.specs.Stage.{rest_fits, merged_rest}
use Rattle.groups.specs.Area.{numbers_in_use, bytes_in_use, groups_of}
use Rattle.groups.specs.Undo.{live_numbers, live_bytes}
use Rattle.lists.specs.Rest.{tombstones_in, cleaned_in, rest_of}
use Rattle.lists.specs.Rest as lists
use Rattle.lists.specs.Calls.{Behind}
use Rattle.room.specs.Layout.{waiting_of, RoomWf, ContextRoom}
use Rattle.contexts.specs.Contexts.{waiting_numbers, waiting_bytes, rest_at, context_of, Formed}
use Rattle.worktable.specs.declared.Mode.{Mode}
use Rattle.staging.specs.Modes.{counts_fit, counts_of}

-- ---- the lists

-- the lists become those of r
pub record ListsBecome (r : Context) (ys cs ys' cs' : List ℕ) : Type 0 where
  pub rest : rest_of ys' cs' ≡ r
  pub behind : Behind ys cs ys' cs'
  pub wf : lists.Wf ys' cs'

-- the newer lists ks, ds behind the older ones
unfoldable pub merged_lists : List ℕ → List ℕ → List ℕ → List ℕ → Context
merged_lists ys cs ks ds =
    with_cleaned (cleaned_in ys ++ cleaned_in ks) (with_tombstones (tombstones_in ys cs ++ tombstones_in ks ds) (rest_of ys cs))

-- the index keeps the cleaned numbers of both
unfoldable pub joined_lists : List ℕ → List ℕ → List ℕ → Context
joined_lists ys cs ks = index_of [] (with_cleaned (cleaned_in ys ++ cleaned_in ks) (rest_of ys cs))

-- what holds of the areas xs, bs and ys, cs whose lists are to be merged
pub record Mergeable (xs bs ys cs : List ℕ) : Type 0 where
  pub rest : lists.Wf (drop numbers_in_use xs) (drop bytes_in_use bs)
  pub newer-rest : lists.Wf (drop numbers_in_use ys) (drop bytes_in_use cs)
  pub tombstones-fit : (counts_of xs).tombstones + (counts_of ys).tombstones ≤ 64
  pub cleaned-fit : (counts_of xs).cleaned + (counts_of ys).cleaned ≤ 64

-- the lists of an area become those of r, and the stretches are as they were
pub record Grown (r : Context) (xs bs xs' bs' : List ℕ) : Type 0 where
  pub lists : ListsBecome r (drop numbers_in_use xs) (drop bytes_in_use bs) (drop numbers_in_use xs') (drop bytes_in_use bs')
  pub front : take numbers_in_use xs' ≡ take numbers_in_use xs
  pub front_bytes : take bytes_in_use bs' ≡ take bytes_in_use bs

-- the tombstones ts behind those of the area
unfoldable pub kept_behind : List LogItem → List ℕ → List ℕ → Context
kept_behind ts xs bs =
    with_tombstones (tombstones_in (drop numbers_in_use xs) (drop bytes_in_use bs) ++ ts) (rest_of (drop numbers_in_use xs) (drop bytes_in_use bs))

-- ---- all but the groups

-- what holds of the areas xs, bs and ys, cs whose lists are to become one, where nothing waits in the newer context
pub record Growable (m : Mode) (xs bs ys cs : List ℕ) : Type 0 where
  pub rest : lists.Wf (drop numbers_in_use xs) (drop bytes_in_use bs)
  pub waiting : ContextRoom (waiting_numbers xs) (waiting_bytes bs)
  pub newer-rest : lists.Wf (drop numbers_in_use ys) (drop bytes_in_use cs)
  pub none-waits : (context_of ys cs).waiting ≡ []
  pub fit : counts_fit m (counts_of xs) (counts_of ys) ≡ true

-- all but the groups becomes r, and the stretches are as they were
pub record RestBecomes (r : Context) (xs bs xs' bs' : List ℕ) : Type 0 where
  pub rest-is : rest_at xs' bs' ≡ r
  pub front : take numbers_in_use xs' ≡ take numbers_in_use xs
  pub front_bytes : take bytes_in_use bs' ≡ take bytes_in_use bs
  pub rest : lists.Wf (drop numbers_in_use xs') (drop bytes_in_use bs')
  pub waiting : ContextRoom (waiting_numbers xs') (waiting_bytes bs')

-- what holds of the areas of two Rewrite contexts whose lists are to become one, and after which the room ws, vs is what waits
pub record Waitable (xs bs ys cs ws vs : List ℕ) : Type 0 where
  pub rest : lists.Wf (drop numbers_in_use xs) (drop bytes_in_use bs)
  pub waiting : ContextRoom (waiting_numbers xs) (waiting_bytes bs)
  pub newer-rest : lists.Wf (drop numbers_in_use ys) (drop bytes_in_use cs)
  pub newer-waiting : ContextRoom (waiting_numbers ys) (waiting_bytes cs)
  pub room : RoomWf 16 ws vs
  pub fit : rest_fits (merged_rest (context_of ys cs) (waiting_of ws vs) (rest_at xs bs)) ≡ true

-- ---- the end of an accepted call

-- the staged groups are the groups, and the rest is r
pub record Taken (r : Context) (xs bs xs' bs' : List ℕ) : Type 0 where
  pub context-is : context_of xs' bs' ≡ with_groups (groups_of (drop live_numbers xs) (drop live_bytes bs)) r
  pub formed : Formed xs' bs'
