-- A tag is taken out of a room item by item. Assumes nothing.
use mathlib.Core.Bool.{true, false}
use mathlib.Core.List.{List}
use mathlib.Core.Path.{◌≡◌, refl, sym, ◌∙◌}
use Prim.Native.Nat.{ℕ, ◌+◌, ◌*◌, ◌≤◌, ◌<◌}
use native.Mathlib.Omega.{arith}
use lib.Dec.{eqb}
use lib.ListN.{length, get_or, set}
use borrow.Author.Tests.{eq-eqb, ne_eqb}
use Rattle.cells.specs.PartLaws.{get_or-part}
use Rattle.log_batch.specs.declared.item.LogItem.{LogItem}
use Rattle.log_batch.specs.Lent.{row_count_of}
use Rattle.stores.specs.declared.Store.{Store}
use Rattle.stores.specs.Written.{count_of, Behind, Lent}
use Rattle.stores.specs.Stores.{Stored}
use Rattle.stores.specs.Tags.{Movable}
use Rattle.stores.proofs.AddLaws.{room-is}
use Rattle.stores.proofs.TakingLaws.{Taking, taking-start, taking_movable, taking-next, taking-end}
use Rattle.room.specs.Rooms.{Room, room, area_in}
use Rattle.room.specs.Layout.{numbers_of, bytes_of, room_of}
use Rattle.room.specs.LayoutLaws.{length-tags, length-items, length-entries, length-bytes}
use Rattle.room.specs.PlaceLaws.{set-tag}
use Rattle.room.specs.Items.{item_in, MovedIn, KeepingIn, TakenIn}

module _ (n : ℕ) (ws vs : List ℕ) (e : length ws ≡ numbers_of n) (f : length vs ≡ bytes_of n) where
  abbrev it : Room
  it = room_of n ws vs

  pub row_below : (j : ℕ) → j < row_count_of it.items → j < n * 8
  unfolding row_count_of
  row_below j h = let l = length-items n ws vs e f in omega arith

  -- what a movable item meets
  pub record Movables (left : Store) (i : LogItem) : Type 0 where
    pub lent : Lent i (n * 128) (n * 512)
    pub fits : (left.items < n * 8) × (left.entries + count_of i.content ≤ n * 16)
    pub behind : Behind i.content left.entries (left.items * 64)

  pub movables : (left : Store) (j : ℕ) (i : LogItem) (m : Movable left j (area_in it)) → m.item ≡ i → Movables left i
  movables left j i m q =
      let p = length-items n ws vs e f in
      let l = length-entries n ws vs e f in
      let b = length-bytes n ws vs e f in
      let r = room-is _ _ _ _ (rw q at m.room) in
      let x = r.rows in
      let y = r.lists in
      record {
        lent = rw (l, b) at (rw q at m.lent);
        fits = (omega arith, omega arith);
        behind = rw q at m.behind;
      }

  -- the tag of item j
  pub tag_at : (j : ℕ) → j < n * 8 → get_or it.tags j 0 ≡ get_or ws (2 + n * 10 + j) 0
  unfolding room_of
  tag_at j h = get_or-part (2 + n * 10) (n * 8) ws j 0 h

  pub keeping_same : (tag : ℕ) (left : Store) (j : ℕ) → j < n * 8 → get_or ws (2 + n * 10 + j) 0 ≡ tag → KeepingIn tag left it j left it
  keeping_same tag left j h t =
      let same : eqb (get_or it.tags j 0) tag ≡ true = eq-eqb _ _ (tag_at j h ∙ t) in
      record { keeping = rw same (refl, refl, refl); heads = refl }

  module _ (left : Store) (j its : ℕ) (h : j < n * 8) (l : left.items ≤ j) (t : its ≡ get_or ws (2 + n * 10 + j) 0) where
    abbrev told : List ℕ
    told = set ws (2 + n * 10 + left.items) its

    told-room : room_of n told vs ≡ room it.heads (set it.tags left.items its) it.items it.entries it.bytes
    told-room = set-tag n ws vs e left.items its (omega arith)

    pub told-area : area_in (room_of n told vs) ≡ area_in it
    told-area = rw told-room

    pub keeping-other : (tag : ℕ) (r : Store) (ws' vs' : List ℕ) → (its ≡ tag → ⊥) → MovedIn left (room_of n told vs) (item_in j (room_of n told vs)) r (room_of n ws' vs') → KeepingIn tag left it j r (room_of n ws' vs')
    keeping-other tag r ws' vs' d m =
        let m' = rw told-room at m in
        let its-tag : get_or it.tags j 0 ≡ its = tag_at j h ∙ sym t in
        let other : eqb (get_or it.tags j 0) tag ≡ false = ne_eqb _ _ (λ z. d (sym its-tag ∙ z)) in
        record { keeping = rw other (m'.added, m'.tags ∙ rw its-tag); heads = m'.heads }

-- ---- item by item

pub record TakingIn (n m tag j : ℕ) (ws₀ vs₀ : List ℕ) (left : Store) (ws vs : List ℕ) : Type 0 where
  pub numbers-are : length ws ≡ numbers_of n
  pub bytes-are : length vs ≡ bytes_of n
  pub heads : (room_of n ws vs).heads ≡ (room_of n ws₀ vs₀).heads
  pub taking : Taking (area_in (room_of n ws₀ vs₀)) (room_of n ws₀ vs₀).tags tag m j left (area_in (room_of n ws vs)) (room_of n ws vs).tags

module _ (n tag : ℕ) (ws₀ vs₀ : List ℕ) (e : length ws₀ ≡ numbers_of n) (f : length vs₀ ≡ bytes_of n) (s : Store) (w : Stored s (area_in (room_of n ws₀ vs₀))) where
  items_below : s.items ≤ n * 8
  items_below = let l = length-items n ws₀ vs₀ e f in let r = w.rows in omega arith

  pub taking-in-start : TakingIn n s.items tag 0 ws₀ vs₀ (record { items = 0; entries = 0 }) ws₀ vs₀
  taking-in-start =
      let l = length-tags n ws₀ vs₀ e f in
      let b = items_below in
      record {
        numbers-are = e;
        bytes-are = f;
        heads = refl;
        taking = taking-start (area_in (room_of n ws₀ vs₀)) (room_of n ws₀ vs₀).tags tag s.items s refl w (omega arith);
      }

  module _ (j : ℕ) (left : Store) (ws vs : List ℕ) (t : TakingIn n s.items tag j ws₀ vs₀ left ws vs) (h : j < s.items) where
    pub taking-in_movable : Movable left j (area_in (room_of n ws vs))
    taking-in_movable = taking_movable (area_in (room_of n ws₀ vs₀)) (room_of n ws₀ vs₀).tags tag s.items j left (area_in (room_of n ws vs)) (room_of n ws vs).tags t.taking h

    pub taking-in-places : (left.items ≤ j) × (j < n * 8)
    taking-in-places = let b = items_below in (t.taking.fewer, omega arith)

    pub taking-in-next : (r : Store) (ws' vs' : List ℕ) → length ws' ≡ length ws → length vs' ≡ length vs → KeepingIn tag left (room_of n ws vs) j r (room_of n ws' vs') → TakingIn n s.items tag (j + 1) ws₀ vs₀ r ws' vs'
    taking-in-next r ws' vs' p q k =
        record {
          numbers-are = p ∙ t.numbers-are;
          bytes-are = q ∙ t.bytes-are;
          heads = k.heads ∙ t.heads;
          taking = taking-next (area_in (room_of n ws₀ vs₀)) (room_of n ws₀ vs₀).tags tag s.items j left (area_in (room_of n ws vs)) (room_of n ws vs).tags t.taking h r (area_in (room_of n ws' vs')) (room_of n ws' vs').tags k.keeping;
        }

  pub taking-in-end : (j : ℕ) (left : Store) (ws vs : List ℕ) → s.items ≤ j → j ≤ s.items → TakingIn n s.items tag j ws₀ vs₀ left ws vs → TakenIn s (room_of n ws₀ vs₀) tag left (room_of n ws vs)
  taking-in-end j left ws vs p q t =
      record {
        taken = taking-end (area_in (room_of n ws₀ vs₀)) (room_of n ws₀ vs₀).tags tag s.items s j left (area_in (room_of n ws vs)) (room_of n ws vs).tags refl p q t.taking;
        heads = t.heads;
      }
