-- The ways of finding what finishes: the heads of two cells tell, and a group's cell is what the map has of it. Assumes nothing.
use mathlib.Core.Bool.{Bool, true, false, not, cond, ◌||◌}
use mathlib.Core.List.{List, [], ◌∷◌, ◌++◌}
use Rattle.std.specs.Prelude.{Option, None, Some}
use mathlib.Core.Path.{◌≡◌, refl, sym, ap, ◌∙◌}
use Prim.Native.Nat.{ℕ, ◌+◌, ◌*◌, ◌≤◌, ◌<◌}
use native.Mathlib.Omega.{arith}
use lib.Dec.{eqb}
use lib.ListN.{length, get_or, take}
use Rattle.std.specs.List.{list_any}
use borrow.Author.Tests.{eq-eqb, ne_eqb, eqb-true, not-true}
use Rattle.cells.specs.Part.{part}
use Rattle.cells.specs.PartLaws.{take_part}
use Rattle.maps.specs.BoolLaws.{clash, both_left, both_right}
use Rattle.maps.specs.Lists.{last, or_else, select}
use Rattle.maps.specs.Maps.{lookup, numbers}
use Rattle.maps.specs.MapLaws.{pair}
use Rattle.maps.specs.Cells.{holds}
use Rattle.maps.proofs.CellLaws.{lookup_at, lookup_absent}
use Rattle.maps.specs.OrderLaws.{split}
use Rattle.rules.specs.Items.{status_of}
use Rattle.rules.specs.Items as rules
use Rattle.rules.specs.Context.{Part}
use Rattle.rules.specs.Waiting.{accept}
use Rattle.rules_by_group.specs.Group.{Finished, finished_by, finished_of}
use Rattle.rules_by_group.specs.Group as group
use Rattle.rules_by_group.proofs.ResultLaws.{by_option}
use Rattle.stores.specs.Tags.{Tagged, items_with}
use Rattle.stores.specs.Tags as tags
use Rattle.stores.specs.Stores.{store_items}
use Rattle.stores.specs.StoreLaws.{length-stored}
use Rattle.room.specs.Rooms.{head_at, count_in, group_in, newest_tag, older_tag, newest, older, parts_of, cell_of, cells_of, items_in, area_in, waiting_in}
use Rattle.room.specs.Layout.{store_of, room_of, waiting_of, tagged, RoomWf}
use Rattle.waiting.specs.declared.PartHead.{PartHead}
use Rattle.waiting.specs.declared.Step as step
use Rattle.waiting.specs.Steps.{is_of, step_by, step_of, stepped, AtCell}
use Rattle.waiting.specs.StepLaws.{accept_step}
use Rattle.parts.specs.declared.Ending.{Ending}
use Rattle.parts.specs.Walks.{HeadAt}
use Rattle.parts.specs.Finishings.{finished_as, oldest_at, oldest, is_finish, has_items}
use Rattle.parts.specs.ItemLaws.{enough-tags, few-items}
use Rattle.parts.specs.CellLaws.{in_cell, count-is, cells_count, cell_at_lem}

-- ---- the oldest part of a cell

module _ (us : List ℕ) (j : ℕ) (l : j < 16) where
  pub oldest_one : get_or us (2 + j * 10) 0 ≡ 1 → 2 + j * 10 + 2 ≡ 2 + j * 10 + oldest_at (head_at j (part 2 160 us))
  unfolding oldest_at
  oldest_one e = rw (count-is us j l, e)

  pub oldest_two : (get_or us (2 + j * 10) 0 ≡ 1 → ⊥) → 2 + j * 10 + 6 ≡ 2 + j * 10 + oldest_at (head_at j (part 2 160 us))
  unfolding oldest_at
  oldest_two e = rw (count-is us j l, ne_eqb (get_or us (2 + j * 10) 0) 1 e)

-- the part whose tag is number i of a cell
abbrev part_at : ℕ → List ℕ → List Tagged → Part
part_at i h xs = record { status = status_of (get_or h (i + 1) 0); items = items_with (get_or h i 0) xs; start = get_or h (i + 2) 0; end = get_or h (i + 3) 0 }

oldest-is : (h : List ℕ) (xs : List Tagged) → oldest h xs ≡ part_at (oldest_at h) h xs
unfolding oldest oldest_at newest older newest_tag older_tag
oldest-is h xs = split (eqb (count_in h) 1) (λ e. rw e) (λ e. rw e)

oldest-few : (h : List ℕ) → oldest_at h ≤ 6
unfolding oldest_at
oldest-few h = split (eqb (count_in h) 1) (λ e. rw e (omega arith)) (λ e. rw e (omega arith))

last-is : (h : List ℕ) (xs : List Tagged) → last (parts_of h xs) ≡ Some (oldest h xs)
unfolding parts_of oldest last
last-is h xs = split (eqb (count_in h) 1) (λ e. rw e) (λ e. rw e)

-- ---- what the heads tell

finished_by_lem : (s : step.Step) (p : Part) (ps : List Part) (new : Part) → finished_by new (stepped s p ps new) ≡ cond (is_finish s) (Some (record { items = p.items ++ new.items; span = record { start = p.start; end = new.end } })) None
unfolding stepped finished_by is_finish
finished_by_lem (step.TheVariants.Wait f) p ps new = refl
finished_by_lem step.TheVariants.Drop p ps new = refl
finished_by_lem step.TheVariants.Finish p ps new = refl
finished_by_lem step.TheVariants.Back p ps new = refl

-- the step of the part of cell g whose tag is its number i at the newest part of cell h
abbrev step_told : ℕ → List ℕ → List ℕ → step.Step
step_told i g h = step_by (status_of (get_or g (i + 1) 0)) (get_or g (i + 2) 0) (status_of (get_or h 3 0)) (get_or h 5 0)

accept-head : (i : ℕ) (g h : List ℕ) (xs ys : List Tagged) → accept (parts_of h xs) (part_at i g ys) ≡ stepped (step_told i g h) (newest h xs) (cond (eqb (count_in h) 1) [] (older h xs ∷ [])) (part_at i g ys)
unfolding parts_of
accept-head i g h xs ys = accept_step (newest h xs) (part_at i g ys) _ ∙ (unfold newest in refl)

-- what finishes, by the newest part of cell h and the part of cell g whose tag is its number i
abbrev told : ℕ → List ℕ → List ℕ → List Tagged → List Tagged → Option Finished
told i g h xs ys =
    cond (is_finish (step_told i g h))
    (Some (record { items = items_with (get_or h 2 0) xs ++ items_with (get_or g i 0) ys; span = record { start = get_or h 4 0; end = get_or g (i + 3) 0 } }))
    None

heads-tell : (g h : List ℕ) (xs ys : List Tagged) → finished_of (Some (parts_of g ys)) (Some (parts_of h xs)) ≡ told (oldest_at g) g h xs ys
unfolding finished_of group.parts_of or_else
heads-tell g h xs ys =
    let p = part_at (oldest_at g) g ys in
    rw (last-is g ys, oldest-is g ys)
    (ap (finished_by p) (accept-head (oldest_at g) g h xs ys)
    ∙ finished_by_lem (step_told (oldest_at g) g h) (newest h xs) _ p
    ∙ (unfold newest newest_tag in refl))

module _ (ws us : List ℕ) (k j at : ℕ) (hk : k < 16) (hj : j < 16) (e : at ≡ 2 + j * 10 + oldest_at (head_at j (part 2 160 us))) (new : PartHead) (n : HeadAt at us new) (s : step.Step) (es : s ≡ step_of new (head_at k (part 2 160 ws))) (xs ys : List Tagged) where
  abbrev newer-head : List ℕ
  newer-head = head_at j (part 2 160 us)

  abbrev older-head : List ℕ
  older-head = head_at k (part 2 160 ws)

  from_cell : (i : ℕ) → i ≤ 3 → get_or newer-head (oldest_at newer-head + i) 0 ≡ get_or us (at + i) 0
  from_cell i l =
      let f = oldest-few newer-head in
      let q : 2 + j * 10 + (oldest_at newer-head + i) ≡ at + i = omega (arith, e) in
      in_cell us j (oldest_at newer-head + i) hj (omega (arith, f)) ∙ ap (λ (x : ℕ). get_or us x 0) q

  tag_is : get_or newer-head (oldest_at newer-head) 0 ≡ get_or us at 0
  tag_is = let f = oldest-few newer-head in in_cell us j (oldest_at newer-head) hj (omega (arith, f)) ∙ ap (λ (x : ℕ). get_or us x 0) (sym e)

  step_is : step_told (oldest_at newer-head) newer-head older-head ≡ s
  unfolding step_of
  step_is = rw (from_cell 1 (omega arith), from_cell 2 (omega arith), ← n.status, ← n.start) (sym es)

  pub none_finishes : is_finish s ≡ false → finished_of (Some (parts_of newer-head ys)) (Some (parts_of older-head xs)) ≡ finished_as None xs ys
  unfolding finished_as
  none_finishes f = heads-tell newer-head older-head xs ys ∙ rw (step_is, f)

  pub one_finishes : is_finish s ≡ true → finished_of (Some (parts_of newer-head ys)) (Some (parts_of older-head xs)) ≡ finished_as (Some (record { older = get_or ws (2 + k * 10 + 2) 0; newer = get_or us at 0; start = get_or ws (2 + k * 10 + 4) 0; end = new.end })) xs ys
  unfolding finished_as
  one_finishes f = heads-tell newer-head older-head xs ys ∙ rw (step_is, f, in_cell ws k 2 hk (omega arith), in_cell ws k 4 hk (omega arith), tag_is, from_cell 3 (omega arith), n.end)

-- ---- a group's cell is what the map has of it

cell-is : (g : ℕ) (h : List ℕ) (xs : List Tagged) → is_of g h ≡ true → cell_of h xs ≡ Some (pair g (parts_of h xs))
unfolding is_of cell_of
cell-is g h xs e =
    let n = not-true (eqb (count_in h) 0) (both_left (not (eqb (count_in h) 0)) (eqb (group_in h) g) e) in
    rw (n, eqb-true (group_in h) g (both_right (not (eqb (count_in h) 0)) (eqb (group_in h) g) e))

other-cell : (g : ℕ) (h : List ℕ) (xs : List Tagged) → is_of g h ≡ false → holds g (cell_of h xs) ≡ false
unfolding is_of cell_of holds
other-cell g h xs e =
    split (eqb (count_in h) 0)
    (λ n. rw n)
    (λ n. rw n (split (eqb g (group_in h))
    (λ t. absurd (clash (sym (rw n at e) ∙ eq-eqb (group_in h) g (sym (eqb-true g (group_in h) t)))))
    (λ f. f)))

module _ (ws vs : List ℕ) (w : RoomWf 16 ws vs) where
  abbrev heads : List ℕ
  heads = part 2 160 ws

  pub lookup-cell : (g k : ℕ) → k < 16 → is_of g (head_at k heads) ≡ true → lookup numbers g (waiting_of ws vs) ≡ Some (parts_of (head_at k heads) (tagged ws vs))
  unfolding waiting_of waiting_in room_of
  lookup-cell g k l e =
      let n = cells_count ws vs w in
      lookup_at (cells_of heads (tagged ws vs)) k g (parts_of (head_at k heads) (tagged ws vs)) w.wf.distinct (omega (arith, n)) (cell_at_lem ws vs w k l ∙ cell-is g (head_at k heads) (tagged ws vs) e)

  pub lookup_no-cell : (g : ℕ) → ((j : ℕ) → j < 16 → is_of g (head_at j heads) ≡ false) → lookup numbers g (waiting_of ws vs) ≡ None
  unfolding waiting_of waiting_in room_of
  lookup_no-cell g f =
      lookup_absent (cells_of heads (tagged ws vs)) g (λ i l.
      let n = cells_count ws vs w in
      let h : i < 16 = omega (arith, n) in
      ap (holds g) (cell_at_lem ws vs w i h) ∙ other-cell g (head_at i heads) (tagged ws vs) (f i h))

-- ---- both rooms

pub none-older : (ps : List Part) → finished_of (Some ps) None ≡ None
unfolding finished_of group.parts_of
none-older ps =
    by_option (last ps)
    (λ e. unfold or_else in rw e)
    (λ p e. unfold or_else in rw e (unfold accept finished_by in refl))

pub none-newer : (o : Option (List Part)) → finished_of None o ≡ None
unfolding finished_of group.parts_of or_else last
none-newer o = refl

module _ (g : ℕ) (ws us : List ℕ) (j : ℕ) where
  pub older_there : (k : ℕ) (r : Option Ending) → AtCell g 16 (part 2 160 ws) k → ((xs ys : List Tagged) → finished_of (Some (parts_of (head_at j (part 2 160 us)) ys)) (Some (parts_of (head_at k (part 2 160 ws)) xs)) ≡ finished_as r xs ys) → (vs : List ℕ) (ys : List Tagged) → RoomWf 16 ws vs → finished_of (Some (parts_of (head_at j (part 2 160 us)) ys)) (lookup numbers g (waiting_of ws vs)) ≡ finished_as r (tagged ws vs) ys
  older_there k r a f vs ys w = rw (lookup-cell ws vs w g k a.inside a.here) (f (tagged ws vs) ys)

  pub older_absent : ((i : ℕ) → i < 16 → is_of g (head_at i (part 2 160 ws)) ≡ false) → (vs : List ℕ) (ys : List Tagged) → RoomWf 16 ws vs → finished_of (Some (parts_of (head_at j (part 2 160 us)) ys)) (lookup numbers g (waiting_of ws vs)) ≡ finished_as None (tagged ws vs) ys
  unfolding finished_as
  older_absent f vs ys w = rw (lookup_no-cell ws vs w g f) (none-older (parts_of (head_at j (part 2 160 us)) ys))

  pub newer_there : (r : Option Ending) → AtCell g 16 (part 2 160 us) j → ((vs : List ℕ) (ys : List Tagged) → RoomWf 16 ws vs → finished_of (Some (parts_of (head_at j (part 2 160 us)) ys)) (lookup numbers g (waiting_of ws vs)) ≡ finished_as r (tagged ws vs) ys) → (vs ds : List ℕ) → RoomWf 16 ws vs → RoomWf 16 us ds → finished_of (lookup numbers g (waiting_of us ds)) (lookup numbers g (waiting_of ws vs)) ≡ finished_as r (tagged ws vs) (tagged us ds)
  newer_there r a f vs ds w u = rw (lookup-cell us ds u g j a.inside a.here) (f vs (tagged us ds) w)

pub newer_absent : (g : ℕ) (ws us : List ℕ) → ((i : ℕ) → i < 16 → is_of g (head_at i (part 2 160 us)) ≡ false) → (vs ds : List ℕ) → RoomWf 16 ws vs → RoomWf 16 us ds → finished_of (lookup numbers g (waiting_of us ds)) (lookup numbers g (waiting_of ws vs)) ≡ finished_as None (tagged ws vs) (tagged us ds)
unfolding finished_as
newer_absent g ws us f vs ds w u = rw (lookup_no-cell us ds u g f) (none-newer (lookup numbers g (waiting_of ws vs)))

-- ---- whether a room has an item with a tag

has-first : (b : Bool) (t u : ℕ) (x : rules.LogItem) (xs : List rules.LogItem) (ts : List ℕ) → eqb u t ≡ b → has_items (items_with t (tags.tagged (u ∷ ts) (x ∷ xs))) ≡ b || has_items (items_with t (tags.tagged ts xs))
unfolding has_items tags.items_with tags.has_tag tags.tagged select
has-first true t u x xs ts e = rw e
has-first false t u x xs ts e = rw e

has-tagged : (t : ℕ) (ts : List ℕ) (xs : List rules.LogItem) → length xs ≤ length ts → has_items (items_with t (tags.tagged ts xs)) ≡ list_any (λ u. eqb u t) (take (length xs) ts)
unfolding has_items tags.items_with tags.tagged select
has-tagged t ts [] h = refl
has-tagged t [] (x ∷ xs) h = absurd (omega arith)
has-tagged t (u ∷ ts) (x ∷ xs) h =
    has-first (eqb u t) t u x xs ts refl ∙ ap (λ (b : Bool). eqb u t || b) (has-tagged t ts xs (omega arith))

pub has-tag : (t : ℕ) (ws vs : List ℕ) → RoomWf 16 ws vs → list_any (λ u. eqb u t) (part 162 (get_or ws 0 0) ws) ≡ has_items (items_with t (tagged ws vs))
unfolding items_in store_of room_of tags.store_tagged
has-tag t ws vs w =
    let r = room_of 16 ws vs in
    let n = length-stored (store_of ws) (area_in r) w.wf.stored in
    let f = few-items ws vs w in
    let e = enough-tags ws vs w in
    sym (has-tagged t r.tags (store_items (store_of ws) (area_in r)) (rw n e) ∙ rw (n, take_part (get_or ws 0 0) 162 128 ws f))
