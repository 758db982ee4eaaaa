-- The counts of what waits with a part that is put into a cell, and the limits by them. Assumes nothing.
use Rattle.std.specs.Prelude.{false, ◌&&◌, List, [], ◌∷◌, ◌++◌, ◌≡◌, eqb, leb, length, Option, None, Some}
use Rattle.std.proofs.Math.Path.{refl, sym, ap}
use Rattle.std.proofs.Common.{◌∙◌, zero-add, eqb-true}
use Prim.Native.Nat.{ℕ, zero, suc, ◌+◌, ◌<◌}
use native.Mathlib.Omega.{arith}
use Rattle.maps.specs.Lists.{or_else}
use Rattle.maps.specs.OrderLaws.{split, numbers_lawful}
use Rattle.maps.specs.Maps.{Map, lookup, store, numbers}
use Rattle.maps.specs.MapLaws.{pair, length-insert-none, length-insert-some}
use Rattle.maps.specs.Cells as places
use Rattle.maps.specs.Cells.{Cell, map_of, Distinct}
use Rattle.maps.proofs.CellLaws.{length-full}
use Rattle.rules.specs.Items as rules
use Rattle.rules.specs.Context.{Part, waiting_fits}
use Rattle.stores.specs.declared.Store.{Store}
use Rattle.stores.specs.Tags.{Tagged, items_with, count_tag}
use Rattle.stores.specs.CountLaws.{count-is}
use Rattle.room.specs.Rooms.{Room, area_in, items_in, head_at, count_in, group_in, newest_tag, newest, parts_of, cell_of, cells_by, cell_count, cells_of, waiting_in, item_count, entry_count, waiting_items, waiting_entries, Wf}
use Rattle.room.specs.RoomLaws.{free-cell, length-cells, get_or-cells}
use Rattle.room.specs.Batches.{counts_for}
use Rattle.room.specs.BatchLaws.{counts-append, counts-none}
use Rattle.room.specs.ChangeLaws.{would-wait, waiting_at_lem, waiting-ascends, waiting-map_of}
use Rattle.room.specs.PartLaws.{counts-cons, counts-nil}
use Rattle.room.specs.RetagLaws.{counts_with, taken-both}
use Rattle.room.specs.LimitLaws.{fits_by}
use Rattle.waiting.specs.declared.PartHead.{PartHead}
use Rattle.waiting.specs.declared.Form as form
use Rattle.waiting.specs.Steps.{is_free_cell, joined_part, form_parts}
use Rattle.waiting.specs.Accepts.{parts_at}
use Rattle.waiting.specs.Forms.{FormAt, with_part, form_tag, lost_by, Freed, Keeps, used_from, form_groups}
use Rattle.waiting.specs.FormLaws.{cell_here, parts_here, waits-not}

-- ---- the counts of a group's parts

-- two stores' counts together are those of two others
pub record Sum (a b c d : Store) : Type 0 where
  pub items : a.items + b.items ≡ c.items + d.items
  pub entries : a.entries + b.entries ≡ c.entries + d.entries

-- the counts of a list of parts
abbrev pub counts_in : List Part → Store
counts_in ps = record { items = item_count ps; entries = entry_count ps }

joined_items : (p new : Part) → (joined_part p new).items ≡ p.items ++ new.items
unfolding joined_part
joined_items p new = refl

more_parts : (p : Part) (ps : List Part) → Sum (counts_in (p ∷ ps)) (counts_for []) (counts_in ps) (counts_for p.items)
more_parts p ps =
    let c = counts-cons p ps in
    let c0 = c.0 in
    let c1 = c.1 in
    let n = counts-none in
    let n0 = n.0 in
    let n1 = n.1 in
    record { items = omega arith; entries = omega arith }

other-part : (p new : Part) (ps : List Part) → Sum (counts_in (new ∷ ps)) (counts_for p.items) (counts_in (p ∷ ps)) (counts_for new.items)
other-part p new ps =
    let c = counts-cons p ps in
    let c0 = c.0 in
    let c1 = c.1 in
    let d = counts-cons new ps in
    let d0 = d.0 in
    let d1 = d.1 in
    record { items = omega arith; entries = omega arith }

one-joined : (p new : Part) (ps : List Part) → Sum (counts_in (joined_part p new ∷ ps)) (counts_for []) (counts_in (p ∷ ps)) (counts_for new.items)
one-joined p new ps =
    let c = counts-cons p ps in
    let c0 = c.0 in
    let c1 = c.1 in
    let d = counts-cons (joined_part p new) ps in
    let d0 = d.0 in
    let d1 = d.1 in
    let e0 : (counts_for (joined_part p new).items).items ≡ (counts_for (p.items ++ new.items)).items = ap (λ (l : List rules.LogItem). (counts_for l).items) (joined_items p new) in
    let e1 : (counts_for (joined_part p new).items).entries ≡ (counts_for (p.items ++ new.items)).entries = ap (λ (l : List rules.LogItem). (counts_for l).entries) (joined_items p new) in
    let a = counts-append p.items new.items in
    let a0 = a.0 in
    let a1 = a.1 in
    let n = counts-none in
    let n0 = n.0 in
    let n1 = n.1 in
    record { items = omega arith; entries = omega arith }

parts-counts : (f : form.Form) (ps : List Part) (new : Part) → Sum (counts_in (form_parts f ps new)) (counts_for (lost_by f ps)) (counts_in ps) (counts_for new.items)
unfolding form_parts lost_by
parts-counts form.TheVariants.First ps new = more_parts new ps
parts-counts form.TheVariants.Front ps new = more_parts new ps
parts-counts form.TheVariants.Replace [] new = more_parts new []
parts-counts form.TheVariants.Replace (p ∷ ps) new = other-part p new ps
parts-counts form.TheVariants.Join [] new = more_parts new []
parts-counts form.TheVariants.Join (p ∷ ps) new = one-joined p new ps

-- ---- the counts of what waits

old-counts : (g : ℕ) (w : Map ℕ (List Part)) → (or_else 0 item_count (lookup numbers g w) ≡ item_count (parts_at g w)) × (or_else 0 entry_count (lookup numbers g w) ≡ entry_count (parts_at g w))
unfolding parts_at or_else
old-counts g w = go (lookup numbers g w)
  where
    go : (x : Option (List Part)) → (or_else 0 item_count x ≡ item_count (or_else [] (λ (ps : List Part). ps) x)) × (or_else 0 entry_count x ≡ entry_count (or_else [] (λ (ps : List Part). ps) x))
    go None = let n = counts-nil in (sym n.0, sym n.1)
    go (Some ps) = (refl, refl)

abbrev pub waiting_counts : Map ℕ (List Part) → Store
waiting_counts w = record { items = waiting_items w; entries = waiting_entries w }

module _ (s : Store) (r : Room) (w : Wf s r) (f : form.Form) (g : ℕ) (new : Part) where
  abbrev lost : Store
  lost = counts_for (lost_by f (parts_at g (waiting_in s r)))

  pub counts-after : Sum (waiting_counts (with_part f g new (waiting_in s r))) lost s (counts_for new.items)
  unfolding with_part or_else
  counts-after =
      let ps = parts_at g (waiting_in s r) in
      let c = would-wait s r w g (Some (form_parts f ps new)) in
      let c0 = c.0 in
      let c1 = c.1 in
      let o = old-counts g (waiting_in s r) in
      let o0 = o.0 in
      let o1 = o.1 in
      let p = parts-counts f ps new in
      let p0 = p.items in
      let p1 = p.entries in
      record { items = omega arith; entries = omega arith }

  -- by the counts of what is left
  pub counts_with-part : (t : Store) → (t.items + lost.items ≡ s.items) × (t.entries + lost.entries ≡ s.entries) → (waiting_items (with_part f g new (waiting_in s r)) ≡ t.items + (counts_for new.items).items) × (waiting_entries (with_part f g new (waiting_in s r)) ≡ t.entries + (counts_for new.items).entries)
  counts_with-part t e =
      let a = counts-after in
      let a0 = a.items in
      let a1 = a.entries in
      let e0 = e.0 in
      let e1 = e.1 in
      (omega arith, omega arith)

-- ---- what is left

newest-items : (h : List ℕ) (xs : List Tagged) → (newest h xs).items ≡ items_with (newest_tag h) xs
unfolding newest
newest-items h xs = refl

same_left : (s t : Store) → t ≡ s → (t.items + (counts_for []).items ≡ s.items) × (t.entries + (counts_for []).entries ≡ s.entries)
same_left s t e =
    let n = counts-none in
    let n0 = n.0 in
    let n1 = n.1 in
    rw e (omega arith, omega arith)

module _ (s : Store) (r : Room) (w : Wf s r) (g k : ℕ) (hd : PartHead) where
  abbrev head : List ℕ
  head = head_at k r.heads

  abbrev Left : form.Form → Store → Type 0
  Left f t =
      (t.items + (counts_for (lost_by f (parts_at g (waiting_in s r)))).items ≡ s.items) × (t.entries + (counts_for (lost_by f (parts_at g (waiting_in s r)))).entries ≡ s.entries)

  lost-newest : FormAt form.TheVariants.Replace g (cell_count r.heads) r.heads k hd → lost_by form.TheVariants.Replace (parts_at g (waiting_in s r)) ≡ items_with (newest_tag head) (items_in s r)
  unfolding lost_by
  lost-newest a = rw (parts_here s r w g k a.0.inside a.0.here) (newest-items head (items_in s r))

  -- as the items are taken out
  pub freed-left : (f : form.Form) (t : Store) (q : Room) → FormAt f g (cell_count r.heads) r.heads k hd → Freed f s r (form_tag f k head) t q → Left f t
  unfolding lost_by form_tag
  freed-left form.TheVariants.First t q a o = same_left s t o.0
  freed-left form.TheVariants.Front t q a o = same_left s t o.0
  freed-left form.TheVariants.Replace t q a o = rw (lost-newest a) (taken-both s r (newest_tag head) t q w o)
  freed-left form.TheVariants.Join t q a o = same_left s t o.0

  tag-counts : count_tag (newest_tag head) s.items r.items r.tags ≡ counts_for (items_with (newest_tag head) (items_in s r))
  unfolding items_in
  tag-counts =
      let x = w.tags-are in
      let y = w.stored.rows in
      let c = counts_with (newest_tag head) (items_in s r) in
      count-is s (area_in r) w.stored r.tags (omega arith) (newest_tag head) ∙ sym (λ i. record { items = c.0 i; entries = c.1 i })

  -- as they are counted
  pub kept-left : (f : form.Form) (t : Store) → FormAt f g (cell_count r.heads) r.heads k hd → Keeps f (newest_tag head) r.items r.tags s t → Left f t
  unfolding lost_by
  kept-left form.TheVariants.First t a o = same_left s t o
  kept-left form.TheVariants.Front t a o = same_left s t o
  kept-left form.TheVariants.Replace t a o = rw (lost-newest a) (rw tag-counts at o)
  kept-left form.TheVariants.Join t a o = same_left s t o

-- ---- the groups that wait

module _ (hs : List ℕ) (xs : List Tagged) where
  abbrev cell : ℕ → Cell (List Part)
  cell j = cell_of (head_at j hs) xs

  used-cell : (k : ℕ) → eqb (count_in (head_at k hs)) 0 ≡ false → cell k ≡ Some (pair (group_in (head_at k hs)) (parts_of (head_at k hs) xs))
  unfolding cell_of
  used-cell k e = rw e

  groups-used : (n k : ℕ) → Distinct (cells_by cell k n) → length (map_of (cells_by cell k n)) ≡ used_from n k hs
  unfolding cells_by map_of Distinct used_from
  groups-used zero k d = refl
  groups-used (suc n) k d =
      split (eqb (count_in (head_at k hs)) 0)
      (λ e.
      let c = free-cell (head_at k hs) xs (eqb-true (count_in (head_at k hs)) 0 e) in
      let d' = rw c at d in
      rw (c, e) (groups-used n (suc k) d' ∙ sym (zero-add _)))
      (λ e.
      let c = used-cell k e in
      let d' = rw c at d in
      let i = groups-used n (suc k) d'.1 in
      let m = length-insert-none numbers numbers_lawful (group_in (head_at k hs)) (parts_of (head_at k hs) xs) (map_of (cells_by cell (suc k) n)) d'.0 in
      rw (c, e) (m ∙ (omega arith)))

pub groups-waiting : (s : Store) (r : Room) → Wf s r → length (waiting_in s r) ≡ used_from (cell_count r.heads) 0 r.heads
unfolding waiting_in cells_of
groups-waiting s r w = groups-used r.heads (items_in s r) (cell_count r.heads) 0 w.distinct

module _ (s : Store) (r : Room) (w : Wf s r) (g : ℕ) (new : Part) where
  groups-more : (f : form.Form) → lookup numbers g (waiting_in s r) ≡ None → length (with_part f g new (waiting_in s r)) ≡ suc (length (waiting_in s r))
  unfolding with_part store
  groups-more f e = length-insert-none numbers numbers_lawful g (form_parts f (parts_at g (waiting_in s r)) new) (waiting_in s r) e

  groups_same : (f : form.Form) (old : List Part) → lookup numbers g (waiting_in s r) ≡ Some old → length (with_part f g new (waiting_in s r)) ≡ length (waiting_in s r)
  unfolding with_part store
  groups_same f old e =
      length-insert-some numbers numbers_lawful g (form_parts f (parts_at g (waiting_in s r)) new) old (waiting_in s r) e (waiting-ascends s r)

  module _ (k : ℕ) (hd : PartHead) where
    pub groups-after : (f : form.Form) → FormAt f g (cell_count r.heads) r.heads k hd → length (with_part f g new (waiting_in s r)) ≡ form_groups f (used_from (cell_count r.heads) 0 r.heads)
    unfolding form_groups
    groups-after form.TheVariants.First a = groups-more form.TheVariants.First (waits-not s r g a.absent) ∙ ap suc (groups-waiting s r w)
    groups-after form.TheVariants.Front a =
        groups_same form.TheVariants.Front _ (waiting_at_lem s r w k g _ a.0.inside (cell_here s r w g k a.0.inside a.0.here)) ∙ groups-waiting s r w
    groups-after form.TheVariants.Replace a =
        groups_same form.TheVariants.Replace _ (waiting_at_lem s r w k g _ a.0.inside (cell_here s r w g k a.0.inside a.0.here)) ∙ groups-waiting s r w
    groups-after form.TheVariants.Join a =
        groups_same form.TheVariants.Join _ (waiting_at_lem s r w k g _ a.0.inside (cell_here s r w g k a.0.inside a.0.here)) ∙ groups-waiting s r w

    -- the limits by the counts of what is left and of what comes
    pub judged : (f : form.Form) (t c : Store) → FormAt f g (cell_count r.heads) r.heads k hd → Keeps f (newest_tag (head_at k r.heads)) r.items r.tags s t → c ≡ counts_for new.items → waiting_fits (with_part f g new (waiting_in s r)) ≡ (leb (form_groups f (used_from (cell_count r.heads) 0 r.heads)) 8 && leb (t.items + c.items) 64 && leb (t.entries + c.entries) 128)
    judged f t c a o e =
        let m = counts_with-part s r w f g new t (kept-left s r w g k hd f t a o) in
        fits_by (with_part f g new (waiting_in s r)) ∙ rw (groups-after f a, m.0, m.1, e)

-- ---- every cell is in use

cell-used : (h : List ℕ) (xs : List Tagged) → is_free_cell h ≡ false → places.is_free_cell (cell_of h xs) ≡ false
unfolding is_free_cell cell_of places.is_free_cell
cell-used h xs e = rw e

pub all-used : (s : Store) (r : Room) → Wf s r → ((j : ℕ) → j < cell_count r.heads → is_free_cell (head_at j r.heads) ≡ false) → length (waiting_in s r) ≡ cell_count r.heads
all-used s r w u =
    let n = length-cells r.heads (items_in s r) in
    rw (waiting-map_of s r)
    (length-full (cells_of r.heads (items_in s r)) w.distinct (λ i l.
    let l' : i < cell_count r.heads = omega (arith, n) in
    rw (get_or-cells i r.heads (items_in s r) l') (cell-used (head_at i r.heads) (items_in s r) (u i l')))
    ∙ n)
