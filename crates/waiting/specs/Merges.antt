-- A part that comes from another room of a context, as a merge has it: no limit is judged on the way.
use Rattle.rules.specs.Causes.{FilesGoBack, ByCause, Ok, Err}
use Rattle.std.specs.Prelude.{Option, None, Some, List, [], ◌∷◌, ◌≡◌, ℕ, ◌+◌, ◌*◌, ◌≤◌, ◌<◌, length, get_or}
use Rattle.maps.specs.Maps.{lookup, store, numbers}
use Rattle.rules.specs.Items as rules
use Rattle.rules.specs.Context.{Part}
use Rattle.rules.specs.Waiting.{wait, finish, back, accept, some_parts}
use Rattle.stores.specs.declared.Store.{Store}
use Rattle.stores.specs.Tags.{Tagged, items_with}
use Rattle.room.specs.Rooms.{waiting_items, waiting_entries}
use Rattle.room.specs.Layout.{context_cells, waiting_of, tagged, RoomWf}
use Rattle.room.specs.Batches.{counts_for}
use Rattle.waiting.specs.Accepts.{parts_at}

-- ---- items of a tag

-- item j of xs where it has the tag; there is room for it behind store s of n cells
pub record HasRoom (n : ℕ) (s : Store) (tag : ℕ) (xs : List Tagged) (j : ℕ) : Type 0 where
  pub items : (z : Tagged) → s.items + (counts_for (items_with tag (get_or xs j z ∷ []))).items ≤ n * 8
  pub entries : (z : Tagged) → s.entries + (counts_for (items_with tag (get_or xs j z ∷ []))).entries ≤ n * 16

-- the items of a tag of another room
abbrev pub items_from : List ℕ → List ℕ → ℕ → List rules.LogItem
items_from us ds tag = items_with tag (tagged us ds)

-- ---- a part that comes

-- these parts of group g wait afterwards
pub record Joined (g : ℕ) (new : Part) (ws vs ws' vs' : List ℕ) : Type 0 where
  pub parts : List Part
  pub accepts : accept (parts_at g (waiting_of ws vs)) new ≡ wait parts
  pub waiting : waiting_of ws' vs' ≡ store numbers g (some_parts parts) (waiting_of ws vs)
  pub room : RoomWf context_cells ws' vs'

-- the part finishes the newest one, which is taken out
pub record Finished (g : ℕ) (new : Part) (ws vs ws' vs' : List ℕ) : Type 0 where
  pub old : Part
  pub others : List Part
  pub accepts : accept (parts_at g (waiting_of ws vs)) new ≡ finish old others
  pub waiting : waiting_of ws' vs' ≡ store numbers g (some_parts others) (waiting_of ws vs)
  pub room : RoomWf context_cells ws' vs'

abbrev pub MergedAs : ℕ → Part → List ℕ → List ℕ → ByCause (Option ℕ) → List ℕ → List ℕ → Type 0
MergedAs g new ws vs (Ok None) ws' vs' = Joined g new ws vs ws' vs'
MergedAs g new ws vs (Ok (Some k)) ws' vs' = Finished g new ws vs ws' vs'
MergedAs g new ws vs (Err e) ws' vs' = (e ≡ FilesGoBack) × (accept (parts_at g (waiting_of ws vs)) new ≡ back) × (ws' ≡ ws) × (vs' ≡ vs)

-- there are rows for a part of group g with these items, and a cell if the group has none
pub record RoomFor (g : ℕ) (its : List rules.LogItem) (ws vs : List ℕ) : Type 0 where
  pub groups : lookup numbers g (waiting_of ws vs) ≡ None → length (waiting_of ws vs) < context_cells
  pub items : waiting_items (waiting_of ws vs) + (counts_for its).items ≤ context_cells * 8
  pub entries : waiting_entries (waiting_of ws vs) + (counts_for its).entries ≤ context_cells * 16
