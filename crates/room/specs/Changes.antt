-- A change of a room: one cell, and the items of its two tags.
use Rattle.std.specs.Prelude.{List, ◌≡◌, ℕ, ◌*◌, ◌/◌, length}
use Rattle.std.specs.Prelude.{Option}
use Rattle.cells.specs.Part.{put}
use Rattle.maps.specs.Maps.{store, numbers}
use Rattle.rules.specs.Context.{Part}
use Rattle.stores.specs.declared.Store.{Store}
use Rattle.stores.specs.Stores.{Stored}
use Rattle.stores.specs.Tags.{items_with}
use Rattle.room.specs.Rooms.{Room, area_in, items_in, waiting_in, Tag, CellWf, Wf}

-- cell k has the numbers h; the items of the other cells' tags are as they were
pub record OnlyCell (k : ℕ) (h : List ℕ) (s : Store) (r : Room) (t : Store) (q : Room) : Type 0 where
  pub heads : q.heads ≡ put r.heads (k * 10) h
  pub width : length h ≡ 10
  pub sized : length q.tags ≡ length q.items / 9
  pub stored : Stored t (area_in q)
  pub others : (u : ℕ) → (Tag k u → ⊥) → items_with u (items_in t q) ≡ items_with u (items_in s r)
  pub cell : CellWf k h (items_in t q)

-- group g has the parts x, or none; all else that waits is as it was
pub record Became (g : ℕ) (x : Option (List Part)) (s : Store) (r : Room) (t : Store) (q : Room) : Type 0 where
  pub waiting : waiting_in t q ≡ store numbers g x (waiting_in s r)
  pub wf : Wf t q
