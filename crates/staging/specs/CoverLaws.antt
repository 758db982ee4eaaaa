-- The places have every number that a merge or join may give a table. Assumes nothing.
use Rattle.std.specs.Prelude.{Bool, true, false, ◌≡◌, ℕ, zero, suc, ◌+◌, ◌-◌, ◌*◌, ◌<◌, eqb, ltb, length, get_or, drop}
use Rattle.std.proofs.Math.Bool.{or-true}
use mathlib.Core.List.{List, [], ◌∷◌}
use Rattle.std.proofs.lemmas.Option.{none-some, same_Some}
use Rattle.std.proofs.Math.Path.{refl, sym}
use Rattle.std.proofs.Common.{◌∙◌, add-zero, get_or-drop}
use Rattle.std.proofs.Math.Decide.{dec_lt}
use native.Mathlib.Omega.{arith}
use borrow.Author.Tests.{lt-ltb, le-ltb, eq-eqb, ne_eqb}
use Rattle.cells.specs.Part.{part}
use Rattle.cells.specs.PartLaws.{get_or-part}
use Rattle.maps.specs.Lists.{any, every}
use Rattle.maps.specs.ListLaws.{any_append, every_append}
use Rattle.maps.specs.MapLaws.{pair}
use Rattle.maps.specs.OrderLaws.{split}
use Rattle.maps.specs.BoolLaws.{both}
use Rattle.maps.proofs.CellLaws.{every-map_of}
use Rattle.rules.specs.Items as rules
use Rattle.rules.specs.Context.{with_groups, with_waiting}
use Rattle.rules_by_group.specs.Stage.{is_in, Covers}
use Rattle.log_batch.specs.declared.item.LogItemContent.{LogItemContent}
use Rattle.log_batch.specs.Lent.{item_if, opened_entries, opened_put, opened_del, opened_row, item_of, opened_of, item_at, items_from}
use Rattle.log_batch.specs.OpenLaws.{items-snoc}
use Rattle.stores.specs.Stores.{store_items}
use Rattle.stretch.specs.Stretch.{is_used, group_in, table_in}
use Rattle.groups.specs.Area.{slots, numbers_in_use, bytes_in_use, stretch_at, bytes_at, cells, groups_of}
use Rattle.groups.specs.AreaLaws.{length-cells, get_or-cells}
use Rattle.groups.specs.Laws.{used-cell, free-cell}
use Rattle.lists.specs.Rest.{tombstone_store, tombstone_area, tombstones_in, rest_of}
use Rattle.lists.specs.Rest as lists
use Rattle.lists.specs.Laws.{tombstones-fit}
use Rattle.contexts.specs.Contexts.{waiting_numbers, waiting_bytes, rest_at, context_of, Wf}
use Rattle.room.specs.Rooms.{head_at, count_in, cell_of, waiting_in}
use Rattle.room.specs.Rooms as waiting
use Rattle.room.specs.Layout.{room_of, waiting_of, tagged, RoomWf}
use Rattle.parts.specs.CellLaws.{in_cell, count-is, some-cell, cells_count, cell_at_lem}
use Rattle.staging.specs.Modes.{stretch_number, tombstone_number, waiting_number, number_at, firsts, place_count}

-- ---- a number of place i is among those of the first n places

in-firsts : (f : ℕ → List ℕ) (g n i : ℕ) → i < n → is_in g (f i) ≡ true → is_in g (firsts f n) ≡ true
unfolding firsts is_in
in-firsts f g zero i l e = absurd (omega arith)
in-firsts f g (suc n) i l e =
    any_append (eqb g) (firsts f n) (f n)
    ∙ elim (dec_lt i n) [
      | yes h ↦ rw (in-firsts f g n i h e)
      | no h ↦ let s : i ≡ n = omega arith in rw (rw s at e) (or-true (any (eqb g) (firsts f n)))
    ]

in_one : (g : ℕ) → is_in g (g ∷ []) ≡ true
unfolding is_in any
in_one g = rw (eq-eqb g g refl)

module _ (xs bs ys cs : List ℕ) where
  abbrev gs : List ℕ
  gs = firsts (number_at xs ys) place_count

  -- ---- the stretches

  older-place : (k : ℕ) → k < slots → is_used (stretch_at k xs) ≡ true → number_at xs ys k ≡ group_in (stretch_at k xs) ∷ []
  unfolding number_at stretch_number
  older-place k l u = rw (lt-ltb k 8 l, u)

  older-there : (k : ℕ) → k < slots → is_used (stretch_at k xs) ≡ true → is_in (group_in (stretch_at k xs)) gs ≡ true
  older-there k l u =
      in-firsts (number_at xs ys) (group_in (stretch_at k xs)) place_count k (omega arith) (rw (older-place k l u) (in_one (group_in (stretch_at k xs))))

  newer-place : (k : ℕ) → k < slots → is_used (stretch_at k ys) ≡ true → number_at xs ys (k + 8) ≡ group_in (stretch_at k ys) ∷ []
  unfolding number_at stretch_number
  newer-place k l u =
      let e : k + 8 - 8 ≡ k = omega arith in rw (le-ltb (k + 8) 8 (omega arith), lt-ltb (k + 8) 16 (omega arith), e, u)

  newer-there : (k : ℕ) → k < slots → is_used (stretch_at k ys) ≡ true → is_in (group_in (stretch_at k ys)) gs ≡ true
  newer-there k l u =
      in-firsts (number_at xs ys) (group_in (stretch_at k ys)) place_count (k + 8) (omega arith) (rw (newer-place k l u) (in_one (group_in (stretch_at k ys))))

  cells_in : (zs ds : List ℕ) → ((k : ℕ) → k < slots → is_used (stretch_at k zs) ≡ true → is_in (group_in (stretch_at k zs)) gs ≡ true) → every (λ p. is_in p.key gs) (groups_of zs ds) ≡ true
  unfolding groups_of
  cells_in zs ds there =
      every-map_of (λ p. is_in p.key gs) (cells zs ds) (λ i p l e.
      let h : i < slots = omega (arith, length-cells zs ds) in
      let c = sym (get_or-cells i zs ds h) ∙ e in
      split (is_used (stretch_at i zs))
      (λ u. rw (← same_Some (pair (group_in (stretch_at i zs)) (table_in (stretch_at i zs) (bytes_at i ds))) p (sym (used-cell i zs ds u) ∙ c)) (there i h u))
      (λ u. absurd (none-some p (sym (free-cell i zs ds u) ∙ c))))

-- ---- the tombstones

-- an item's group is the first number of its row
if-group : (b : Bool) (row : List ℕ) (c : LogItemContent) (es bs : List ℕ) → (opened_of (item_if b row c) es bs).group ≡ get_or row 0 0
unfolding item_if opened_of item_of
if-group true row c es bs = refl
if-group false row c es bs = refl

item-group : (es bs row : List ℕ) → (item_at es bs row).group ≡ get_or row 0 0
unfolding item_at opened_row opened_entries opened_put opened_del
item-group es bs row =
    split (ltb (length row) 9)
    (λ s. rw s (unfold opened_of in refl))
    (λ s. rw s (split (eqb (get_or row 1 0) 0)
    (λ a. rw a (if-group _ row _ es bs))
    (λ a. rw a (split (eqb (get_or row 1 0) 1)
    (λ b. rw b (if-group _ row _ es bs))
    (λ b. rw b (split (eqb (get_or row 1 0) 2)
    (λ d. rw d (if-group _ row _ es bs))
    (λ d. rw d (split (eqb (get_or row 1 0) 3)
    (λ e. rw e (if-group _ row _ es bs))
    (λ e. rw e (split (eqb (get_or row 1 0) 4)
    (λ f. rw f (if-group _ row _ es bs))
    (λ f. rw f (unfold opened_of in refl))))))))))))

-- what holds of each of the first n items holds of all
every_items : (P : rules.LogItem → Bool) (es bs items : List ℕ) (n : ℕ) → ((j : ℕ) → j < n → P (item_at es bs (drop (j * 9) items)) ≡ true) → every P (items_from es bs n items) ≡ true
every_items P es bs items zero f = unfold items_from every in refl
every_items P es bs items (suc n) f =
    rw (items-snoc es bs n items) (every_append P (items_from es bs n items) _ ∙ both (every_items P es bs items n (λ j l. f j (omega arith))) (unfold every in rw (f n (omega arith))))

module _ (xs bs ys cs : List ℕ) (w : lists.Wf (drop numbers_in_use ys) (drop bytes_in_use cs)) where
  abbrev rest : List ℕ
  rest = drop numbers_in_use ys

  tombstone-place : (j : ℕ) → j < get_or rest 1 0 → j < 64 → number_at xs ys (j + 16) ≡ get_or rest (67 + j * 9) 0 ∷ []
  unfolding number_at tombstone_number
  tombstone-place j l h =
      let e : j + 16 - 16 ≡ j = omega arith in
      rw (le-ltb (j + 16) 8 (omega arith), le-ltb (j + 16) 16 (omega arith), lt-ltb (j + 16) 80 (omega arith), e, lt-ltb j (get_or rest 1 0) l)

  -- the group of tombstone j, as it is read
  tombstone-group : (es bs : List ℕ) (j : ℕ) → j < 64 → (item_at es bs (drop (j * 9) (part 67 576 rest))).group ≡ get_or rest (67 + j * 9) 0
  tombstone-group es bs j l =
      item-group es bs (drop (j * 9) (part 67 576 rest))
      ∙ get_or-drop (j * 9) (part 67 576 rest) 0 0
      ∙ rw (add-zero (j * 9)) (get_or-part 67 576 rest (j * 9) 0 (omega arith))

  tombstone-there : (es bs : List ℕ) (j : ℕ) → j < get_or rest 1 0 → is_in (item_at es bs (drop (j * 9) (part 67 576 rest))).group (gs xs bs ys cs) ≡ true
  tombstone-there es bs j l =
      let f = tombstones-fit rest (drop bytes_in_use cs) w in
      in-firsts (number_at xs ys) (item_at es bs (drop (j * 9) (part 67 576 rest))).group place_count (j + 16) (omega arith)
      (rw (tombstone-place j l (omega arith), tombstone-group es bs j (omega arith)) (in_one (get_or rest (67 + j * 9) 0)))

  tombstones-there : every (λ (it : rules.LogItem). is_in it.group (gs xs bs ys cs)) (tombstones_in rest (drop bytes_in_use cs)) ≡ true
  unfolding tombstones_in store_items tombstone_store tombstone_area
  tombstones-there = every_items (λ (it : rules.LogItem). is_in it.group (gs xs bs ys cs)) [] _ (part 67 576 rest) (get_or rest 1 0) (λ j l. tombstone-there [] _ j l)

-- ---- the waiting parts

module _ (xs bs ys cs : List ℕ) (w : RoomWf 16 (waiting_numbers ys) (waiting_bytes cs)) where
  abbrev room : List ℕ
  room = waiting_numbers ys

  waiting-place : (k : ℕ) → k < 16 → (get_or room (2 + k * 10) 0 ≡ 0 → ⊥) → number_at xs ys (k + 80) ≡ get_or room (2 + k * 10 + 1) 0 ∷ []
  unfolding number_at waiting_number
  waiting-place k l n =
      let e : k + 80 - 80 ≡ k = omega arith in
      rw (le-ltb (k + 80) 8 (omega arith), le-ltb (k + 80) 16 (omega arith), le-ltb (k + 80) 80 (omega arith), e, ne_eqb (get_or room (2 + k * 10) 0) 0 n)

  waiting-there : (k : ℕ) → k < 16 → (count_in (head_at k (part 2 160 room)) ≡ 0 → ⊥) → is_in (waiting.group_in (head_at k (part 2 160 room))) (gs xs bs ys cs) ≡ true
  unfolding waiting.group_in
  waiting-there k l n =
      let g = in_cell room k 1 l (omega arith) in
      in-firsts (number_at xs ys) _ place_count (k + 80) (omega arith)
      (rw (waiting-place k l (λ z. n (count-is room k l ∙ z)), g) (in_one (get_or room (2 + k * 10 + 1) 0)))

  waiting-in : every (λ p. is_in p.key (gs xs bs ys cs)) (waiting_of (waiting_numbers ys) (waiting_bytes cs)) ≡ true
  unfolding waiting_of waiting_in room_of
  waiting-in =
      every-map_of (λ p. is_in p.key (gs xs bs ys cs)) _ (λ i p l e.
      let n = cells_count room (waiting_bytes cs) w in
      let h : i < 16 = omega (arith, n) in
      let s = some-cell (head_at i (part 2 160 room)) (tagged room (waiting_bytes cs)) p (sym (cell_at_lem room (waiting_bytes cs) w i h) ∙ e) in
      rw (← s.1) (waiting-there i h s.0))

-- the numbers of the places cover
pub places-cover : (xs bs ys cs : List ℕ) → Wf ys cs → Covers (firsts (number_at xs ys) place_count) (context_of ys cs) (context_of xs bs)
unfolding context_of rest_at with_waiting with_groups rest_of
places-cover xs bs ys cs w =
    record {
      older-groups = cells_in xs bs ys cs xs bs (older-there xs bs ys cs);
      newer-groups = cells_in xs bs ys cs ys cs (newer-there xs bs ys cs);
      newer-tombstones = tombstones-there xs bs ys cs w.rest;
      newer-waiting = waiting-in xs bs ys cs w.waiting.room;
    }
