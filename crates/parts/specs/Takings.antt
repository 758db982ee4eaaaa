-- A newer part accepted in the older room, as the rules have it.
use Rattle.std.specs.Prelude.{Option, List, ◌≡◌, ℕ, ◌+◌, ◌≤◌, length, get_or}
use Rattle.cells.specs.Part.{part}
use Rattle.maps.specs.Maps.{Pair, Map, lookup, store, numbers}
use Rattle.maps.specs.MapLaws.{pair}
use Rattle.rules.specs.Causes.{Cause, FilesGoBack, Result, ByCause, Ok, Err, refuse}
use Rattle.rules.specs.Items.{status_of}
use Rattle.rules.specs.Context.{Part}
use Rattle.rules_by_group.specs.Group.{accept_part}
use Rattle.stores.specs.Tags.{items_with}
use Rattle.room.specs.Rooms.{head_at, group_in, parts_of, waiting_items, waiting_entries}
use Rattle.room.specs.Layout.{waiting_of, tagged, RoomWf}

-- the part of the newer room whose tag is its number i
unfoldable pub newer_part : ℕ → List ℕ → List ℕ → Part
newer_part i us ds =
    record { status = status_of (get_or us (i + 1) 0); items = items_with (get_or us i 0) (tagged us ds); start = get_or us (i + 2) 0; end = get_or us (i + 3) 0 }

-- these parts of group g wait afterwards
pub record Taken (g : ℕ) (new : Part) (ws vs ws' vs' : List ℕ) : Type 0 where
  pub parts : Option (List Part)
  pub accepts : accept_part new (lookup numbers g (waiting_of ws vs)) ≡ Ok parts
  pub waiting : waiting_of ws' vs' ≡ store numbers g parts (waiting_of ws vs)
  pub room : RoomWf 16 ws' vs'

-- the part is refused, and all is as it was
pub record PartRefused (g : ℕ) (new : Part) (e : Cause) (ws vs ws' vs' : List ℕ) : Type 0 where
  pub refuses : accept_part new (lookup numbers g (waiting_of ws vs)) ≡ refuse e
  pub cause-is : e ≡ FilesGoBack
  pub numbers-are : ws' ≡ ws
  pub bytes-are : vs' ≡ vs

abbrev pub TakenAs : ℕ → Part → List ℕ → List ℕ → ByCause (Unit {0}) → List ℕ → List ℕ → Type 0
TakenAs g new ws vs (Ok _) ws' vs' = Taken g new ws vs ws' vs'
TakenAs g new ws vs (Err e) ws' vs' = PartRefused g new e ws vs ws' vs'

-- ---- all newer parts

-- the parts of the newer cell k, with their group
abbrev pub newer_cell : ℕ → List ℕ → List ℕ → Pair ℕ (List Part)
newer_cell k us ds = pair (group_in (head_at k (part 2 160 us))) (parts_of (head_at k (part 2 160 us)) (tagged us ds))

-- there are cells and rows for the parts of all groups of `more` beside w
pub record RoomForAll (more w : Map ℕ (List Part)) : Type 0 where
  pub groups : length w + length more ≤ 16
  pub items : waiting_items w + waiting_items more ≤ 128
  pub entries : waiting_entries w + waiting_entries more ≤ 256

-- x says what waits afterwards: the room has it, or it is refused
abbrev pub PartsTaken : Result (Map ℕ (List Part)) → ByCause (Unit {0}) → List ℕ → List ℕ → Type 0
PartsTaken x (Ok _) ws' vs' = (x ≡ Ok (waiting_of ws' vs')) × RoomWf 16 ws' vs'
PartsTaken x (Err e) ws' vs' = (x ≡ refuse e) × (e ≡ FilesGoBack)
