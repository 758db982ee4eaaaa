-- The heads of parts as they are written, and what a part that comes makes of what waits.
use Rattle.std.specs.Prelude.{List, [], ◌∷◌, ◌++◌, map, ◌≡◌, ℕ, ◌+◌, ◌-◌, ◌*◌, length, get_or}
use Rattle.std.specs.Prelude.{Some}
use Rattle.cells.specs.Part.{put}
use Rattle.maps.specs.MapLaws.{pair}
use Rattle.rules.specs.Items as rules
use Rattle.rules.specs.Items.{status_of}
use Rattle.rules.specs.Context.{Part}
use Rattle.rules.specs.Waiting.{some_parts}
use Rattle.stores.specs.declared.Store.{Store}
use Rattle.stores.specs.Stores.{Stored}
use Rattle.room.specs.Rooms.{Room, room, area_in, items_in, head_at, cell_of, first_tag, other_tag}
use Rattle.room.specs.Layout.{store_of, room_of}
use Rattle.room.specs.Batches.{counts_for, tag_with}
use Rattle.room.specs.Changes.{Became}

-- the head of a first part in cell k
unfoldable pub first_head : ℕ → ℕ → ℕ → ℕ → ℕ → List ℕ
first_head k g status start last = 1 ∷ g ∷ first_tag k ∷ status ∷ start ∷ last ∷ 0 ∷ 0 ∷ 0 ∷ 0 ∷ []

-- head h with a part in front of its newest one
unfoldable pub front_head : ℕ → ℕ → ℕ → ℕ → List ℕ → List ℕ
front_head k status start last h =
    2 ∷ get_or h 1 0 ∷ other_tag k (get_or h 2 0) ∷ status ∷ start ∷ last ∷ get_or h 2 0 ∷ get_or h 3 0 ∷ get_or h 4 0 ∷ get_or h 5 0 ∷ []

-- head h with other numbers of its newest part
unfoldable pub renewed_head : ℕ → ℕ → ℕ → List ℕ → List ℕ
renewed_head status start last h =
    get_or h 0 0 ∷ get_or h 1 0 ∷ get_or h 2 0 ∷ status ∷ start ∷ last ∷ get_or h 6 0 ∷ get_or h 7 0 ∷ get_or h 8 0 ∷ get_or h 9 0 ∷ []

-- head h without its newest part
unfoldable pub left_head : List ℕ → List ℕ
left_head h =
    (get_or h 0 0 - 1) ∷ get_or h 1 0 ∷ get_or h 6 0 ∷ get_or h 7 0 ∷ get_or h 8 0 ∷ get_or h 9 0 ∷ get_or h 6 0 ∷ get_or h 7 0 ∷ get_or h 8 0 ∷ get_or h 9 0 ∷ []

-- cell k has head h and the counts are those of t; all else of the room is as it was
pub record Settled (n k : ℕ) (h : List ℕ) (t : Store) (ws ws' : List ℕ) : Type 0 where
  pub counts : store_of ws' ≡ t
  pub is : (vs : List ℕ) → room_of n ws' vs ≡ room (put (room_of n ws vs).heads (k * 10) h) (room_of n ws vs).tags (room_of n ws vs).items (room_of n ws vs).entries (room_of n ws vs).bytes

-- the items its are added with a tag, and cell k has head h
pub record WroteIn (k : ℕ) (h : List ℕ) (tag : ℕ) (its : List rules.LogItem) (s : Store) (r : Room) (t : Store) (q : Room) : Type 0 where
  pub items : items_in t q ≡ items_in s r ++ map (tag_with tag) its
  pub stored : Stored t (area_in q)
  pub count : t.items ≡ s.items + (counts_for its).items
  pub total : t.entries ≡ s.entries + (counts_for its).entries
  pub tags : length q.tags ≡ length r.tags
  pub rows : length q.items ≡ length r.items
  pub heads : q.heads ≡ put r.heads (k * 10) h

-- the newest part of cell k is taken out; the room is well formed
pub record TookPart (n k : ℕ) (ws vs ws' vs' : List ℕ) : Type 0 where
  pub became : (g : ℕ) (p : Part) (ps : List Part) → cell_of (head_at k (room_of n ws vs).heads) (items_in (store_of ws) (room_of n ws vs)) ≡ Some (pair g (p ∷ ps)) → Became g (some_parts ps) (store_of ws) (room_of n ws vs) (store_of ws') (room_of n ws' vs')

-- ---- a part that comes

-- the part of a batch from file seq
unfoldable pub part_for : ℕ → ℕ → List rules.LogItem → Part
part_for status seq its = record { status = status_of status; items = its; start = seq; end = seq }
