-- What waits in a room after a change of one cell. Assumes nothing.
use Rattle.std.specs.Prelude.{List, ◌≡◌, length, get_or, set}
use Rattle.std.specs.Prelude.{Option, None, Some}
use Rattle.std.proofs.Math.Path.{refl, sym}
use Rattle.std.proofs.Common.{ap, ◌∙◌, zero-add}
use Prim.Native.Nat.{ℕ, zero, suc, ◌+◌, ◌*◌, ◌≤◌, ◌<◌}
use Rattle.std.proofs.Math.Decide.{dec_lt}
use native.Mathlib.Omega.{arith}
use Rattle.cells.specs.Part.{put}
use Rattle.cells.specs.PartLaws.{length-put, part-put_same, part-put-before, part-put-after}
use Rattle.maps.specs.Lists.{sum, or_else}
use Rattle.maps.specs.Maps.{Pair, lookup, store, numbers}
use Rattle.maps.specs.MapLaws.{pair, Ascending, sum-store}
use Rattle.maps.specs.OrderLaws.{numbers_lawful}
use Rattle.maps.specs.Cells.{map_of, Distinct}
use Rattle.maps.proofs.CellLaws.{lookup_at, map_of-ascending, map-store-free, distinct-store-free, map-store_at, distinct-store_at, map-free, distinct-free}
use Rattle.rules.specs.Context.{Part}
use Rattle.stores.specs.declared.Store.{Store}
use Rattle.stores.specs.Tags.{Tagged, items_with}
use Rattle.room.specs.Rooms.{Room, items_in, head_at, count_in, newest_tag, older_tag, newest, older, parts_of, cell_of, cell_count, cells_of, waiting_in, item_count, entry_count, waiting_items, waiting_entries, Tag, other_tag, Counted, CellWf, Wf}
use Rattle.room.specs.RoomLaws.{length-cells, get_or-cells, set-cells_by, free-cell}
use Rattle.room.specs.Changes.{OnlyCell, Became}

-- ---- tags

pub other_tag_lem : (k t : ℕ) → Tag k t → Tag k (other_tag k t)
other_tag_lem k t a = let p = a.from in let q = a.to in record { from = omega arith; to = omega arith }

-- the tags of two cells differ
pub tag-apart : (j k u : ℕ) → (j ≡ k → ⊥) → Tag j u → Tag k u → ⊥
tag-apart j k u d a b =
    let p = a.from in
    let q = a.to in
    let r = b.from in
    let s = b.to in
    d (omega arith)

-- ---- heads

module _ (k : ℕ) (hs h : List ℕ) (e : length h ≡ 10) (l : k * 10 + 10 ≤ length hs) where
  pub head_same : head_at k (put hs (k * 10) h) ≡ h
  unfolding head_at
  head_same = part-put_same 10 hs (k * 10) h e (omega arith)

  pub head-other : (j : ℕ) → (j ≡ k → ⊥) → head_at j (put hs (k * 10) h) ≡ head_at j hs
  unfolding head_at
  head-other j d =
      elim (dec_lt j k) [
        | yes m ↦ part-put-before (j * 10) 10 hs (k * 10) h (omega arith) (omega arith)
        | no m ↦ let b : k < j = omega arith in part-put-after (j * 10) 10 hs (k * 10) h (omega arith) (omega arith)
      ]

-- ---- a cell whose items are the same

module _ (j : ℕ) (h : List ℕ) (xs ys : List Tagged) (same : (u : ℕ) → Tag j u → items_with u ys ≡ items_with u xs) where
  newest_same : Tag j (newest_tag h) → newest h ys ≡ newest h xs
  unfolding newest
  newest_same t = rw (same (newest_tag h) t)

  older_same : Tag j (older_tag h) → older h ys ≡ older h xs
  unfolding older
  older_same t = rw (same (older_tag h) t)

  cell-one : count_in h ≡ 1 → newest h ys ≡ newest h xs → cell_of h ys ≡ cell_of h xs
  unfolding cell_of parts_of
  cell-one e n = rw (e, n)

  cell_two : count_in h ≡ 2 → newest h ys ≡ newest h xs → older h ys ≡ older h xs → cell_of h ys ≡ cell_of h xs
  unfolding cell_of parts_of
  cell_two e n o = rw (e, n, o)

  counted_same : (n : ℕ) → count_in h ≡ n → Counted n j h xs → (cell_of h ys ≡ cell_of h xs) × Counted n j h ys
  unfolding Counted
  counted_same zero e w = (free-cell h ys e ∙ sym (free-cell h xs e), record { free = λ t a. same t a ∙ w.free t a })
  counted_same (suc zero) e w =
      (cell-one e (newest_same w.tag), record { tag = w.tag; free = same _ (other_tag_lem j (newest_tag h) w.tag) ∙ w.free })
  counted_same (suc (suc zero)) e w =
      let o : Tag j (older_tag h) = rw w.other (other_tag_lem j (newest_tag h) w.tag) in
      (cell_two e (newest_same w.tag) (older_same o), w)
  counted_same (suc (suc (suc n))) e w = absurd w

  pub cell_same : CellWf j h xs → (cell_of h ys ≡ cell_of h xs) × CellWf j h ys
  unfolding CellWf
  cell_same w = counted_same (count_in h) refl w

-- ---- what waits, by the cells

pub waiting-ascends : (s : Store) (r : Room) → Ascending numbers (waiting_in s r)
unfolding waiting_in
waiting-ascends s r = map_of-ascending (cells_of r.heads (items_in s r))

pub waiting-map_of : (s : Store) (r : Room) → waiting_in s r ≡ map_of (cells_of r.heads (items_in s r))
unfolding waiting_in
waiting-map_of s r = refl

items-before : (s : Store) (r : Room) → Wf s r → sum (λ (y : Pair ℕ (List Part)). item_count y.val) (waiting_in s r) ≡ s.items
unfolding waiting_items
items-before s r w = w.all-items

entries-before : (s : Store) (r : Room) → Wf s r → sum (λ (y : Pair ℕ (List Part)). entry_count y.val) (waiting_in s r) ≡ s.entries
unfolding waiting_entries
entries-before s r w = w.all-entries

-- the counts of what would wait
pub would-wait : (s : Store) (r : Room) → Wf s r → (g : ℕ) (x : Option (List Part)) → (waiting_items (store numbers g x (waiting_in s r)) + or_else 0 item_count (lookup numbers g (waiting_in s r)) ≡ or_else 0 item_count x + s.items) × (waiting_entries (store numbers g x (waiting_in s r)) + or_else 0 entry_count (lookup numbers g (waiting_in s r)) ≡ or_else 0 entry_count x + s.entries)
unfolding waiting_items waiting_entries
would-wait s r w g x =
    let a = sum-store numbers numbers_lawful (λ (y : Pair ℕ (List Part)). item_count y.val) g x (waiting_in s r) (waiting-ascends s r) in
    let b = sum-store numbers numbers_lawful (λ (y : Pair ℕ (List Part)). entry_count y.val) g x (waiting_in s r) (waiting-ascends s r) in
    let c = items-before s r w in
    let d = entries-before s r w in
    (a ∙ ap (λ (m : ℕ). or_else 0 item_count x + m) c, b ∙ ap (λ (m : ℕ). or_else 0 entry_count x + m) d)

-- the parts of the group at cell k
pub waiting_at_lem : (s : Store) (r : Room) → Wf s r → (k g : ℕ) (ps : List Part) → k < cell_count r.heads → cell_of (head_at k r.heads) (items_in s r) ≡ Some (pair g ps) → lookup numbers g (waiting_in s r) ≡ Some ps
waiting_at_lem s r w k g ps l e =
    rw (waiting-map_of s r)
    (lookup_at (cells_of r.heads (items_in s r)) k g ps w.distinct (rw (length-cells r.heads (items_in s r)) l) (get_or-cells k r.heads (items_in s r) l ∙ e))

-- ---- one cell

module _ (k : ℕ) (h : List ℕ) (s : Store) (r : Room) (t : Store) (q : Room) (w : Wf s r) (l : k < cell_count r.heads) (o : OnlyCell k h s r t q) where
  heads-fit : k * 10 + 10 ≤ length r.heads
  heads-fit = let e = w.heads-are in omega arith

  heads-length : length q.heads ≡ length r.heads
  heads-length = let e = o.width in let f = heads-fit in rw o.heads (length-put r.heads (k * 10) h (omega arith))

  cells-many : cell_count q.heads ≡ cell_count r.heads
  cells-many = rw heads-length

  here : head_at k q.heads ≡ h
  here = rw o.heads (head_same k r.heads h o.width heads-fit)

  elsewhere : (j : ℕ) → (j ≡ k → ⊥) → head_at j q.heads ≡ head_at j r.heads
  elsewhere j d = rw o.heads (head-other k r.heads h o.width heads-fit j d)

  stays : (j : ℕ) → j < cell_count r.heads → (j ≡ k → ⊥) → (cell_of (head_at j q.heads) (items_in t q) ≡ cell_of (head_at j r.heads) (items_in s r)) × CellWf j (head_at j q.heads) (items_in t q)
  stays j m d =
      rw (elsewhere j d)
      (cell_same j (head_at j r.heads) (items_in s r) (items_in t q) (λ u a. o.others u (tag-apart j k u d a)) (w.cells j m))

  cells-set : cells_of q.heads (items_in t q) ≡ set (cells_of r.heads (items_in s r)) k (cell_of h (items_in t q))
  unfolding cells_of
  cells-set =
      rw cells-many
      (set-cells_by (λ j. cell_of (head_at j r.heads) (items_in s r)) (λ j. cell_of (head_at j q.heads) (items_in t q)) 0 (cell_count r.heads) k l (λ j m d. (stays j (omega arith) (λ z. d (omega arith))).0)
      ∙ rw (zero-add k, here))

  every-cell : (j : ℕ) → j < cell_count q.heads → CellWf j (head_at j q.heads) (items_in t q)
  every-cell j m =
      let m' : j < cell_count r.heads = rw cells-many at m in
      elim (dec_lt j k) [
        | yes a ↦ (stays j m' (λ z. omega arith)).1
        | no a ↦ elim (dec_lt k j) [
          | yes b ↦ (stays j m' (λ z. omega arith)).1
          | no b ↦ let e : j ≡ k = omega arith in rw (e, here) o.cell
        ]
      ]

  cell-before : get_or (cells_of r.heads (items_in s r)) k None ≡ cell_of (head_at k r.heads) (items_in s r)
  cell-before = get_or-cells k r.heads (items_in s r) l

  there-are : k < length (cells_of r.heads (items_in s r))
  there-are = rw (length-cells r.heads (items_in s r)) l

  -- the counts by what waits
  module _ (g : ℕ) (x : Option (List Part)) (m : waiting_in t q ≡ store numbers g x (waiting_in s r)) (d : Distinct (cells_of q.heads (items_in t q))) (items : t.items + or_else 0 item_count (lookup numbers g (waiting_in s r)) ≡ or_else 0 item_count x + s.items) (entries : t.entries + or_else 0 entry_count (lookup numbers g (waiting_in s r)) ≡ or_else 0 entry_count x + s.entries) where
    all-items : waiting_items (waiting_in t q) ≡ t.items
    unfolding waiting_items
    all-items =
        let p = sum-store numbers numbers_lawful (λ (y : Pair ℕ (List Part)). item_count y.val) g x (waiting_in s r) (waiting-ascends s r) in
        let b = items-before s r w in
        rw m (omega arith)

    all-entries : waiting_entries (waiting_in t q) ≡ t.entries
    unfolding waiting_entries
    all-entries =
        let p = sum-store numbers numbers_lawful (λ (y : Pair ℕ (List Part)). entry_count y.val) g x (waiting_in s r) (waiting-ascends s r) in
        let b = entries-before s r w in
        rw m (omega arith)

    became : Became g x s r t q
    became =
        let e = heads-length in
        let f = w.heads-are in
        record {
          waiting = m;
          wf =
              record {
                heads-are = rw e f;
                tags-are = o.sized;
                stored = o.stored;
                cells = every-cell;
                distinct = d;
                all-items = all-items;
                all-entries = all-entries;
              };
        }

  module _ (g : ℕ) where
    -- cell k was free, and has the first parts of group g
    pub first-came : (ps : List Part) → count_in (head_at k r.heads) ≡ 0 → lookup numbers g (waiting_in s r) ≡ None → cell_of h (items_in t q) ≡ Some (pair g ps) → t.items ≡ item_count ps + s.items → t.entries ≡ entry_count ps + s.entries → Became g (Some ps) s r t q
    unfolding store or_else
    first-came ps z n c items entries =
        let b = cell-before ∙ free-cell (head_at k r.heads) (items_in s r) z in
        let n' = rw (waiting-map_of s r) at n in
        became g (Some ps)
        (rw (waiting-map_of t q, waiting-map_of s r, cells-set, c) (map-store-free (cells_of r.heads (items_in s r)) k g ps there-are b n'))
        (rw (cells-set, c) (distinct-store-free (cells_of r.heads (items_in s r)) k g ps w.distinct there-are b n'))
        (rw n (omega arith))
        (rw n (omega arith))

    module _ (old : List Part) (c : cell_of (head_at k r.heads) (items_in s r) ≡ Some (pair g old)) where
      was : lookup numbers g (waiting_in s r) ≡ Some old
      was = waiting_at_lem s r w k g old l c

      -- group g had other parts there
      pub others-came : (ps : List Part) → cell_of h (items_in t q) ≡ Some (pair g ps) → t.items + item_count old ≡ item_count ps + s.items → t.entries + entry_count old ≡ entry_count ps + s.entries → Became g (Some ps) s r t q
      unfolding store or_else
      others-came ps d items entries =
          let b = cell-before ∙ c in
          became g (Some ps)
          (rw (waiting-map_of t q, waiting-map_of s r, cells-set, d) (map-store_at (cells_of r.heads (items_in s r)) k g ps old w.distinct there-are b))
          (rw (cells-set, d) (distinct-store_at (cells_of r.heads (items_in s r)) k g ps old w.distinct there-are b))
          (rw was items)
          (rw was entries)

      -- and has none left
      pub all_left : cell_of h (items_in t q) ≡ None → t.items + item_count old ≡ s.items → t.entries + entry_count old ≡ s.entries → Became g None s r t q
      unfolding store or_else
      all_left d items entries =
          let b = cell-before ∙ c in
          became g None
          (rw (waiting-map_of t q, waiting-map_of s r, cells-set, d) (map-free (cells_of r.heads (items_in s r)) k g old w.distinct there-are b))
          (rw (cells-set, d) (distinct-free (cells_of r.heads (items_in s r)) k g old w.distinct there-are b))
          (rw was (omega arith))
          (rw was (omega arith))
