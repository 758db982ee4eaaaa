-- The ways of counting the tombstones among the items that finish. Assumes nothing.
use mathlib.Core.Bool.{true, false}
use mathlib.Core.List.{List, [], ◌∷◌}
use Rattle.std.specs.Prelude.{Option, None, Some}
use mathlib.Core.Path.{◌≡◌, refl, sym, ap, ◌∙◌}
use Prim.Native.Nat.{ℕ, suc, ◌+◌, ◌*◌, ◌≤◌, ◌<◌}
use native.Mathlib.Nat.{zero-add}
use native.Mathlib.Omega.{arith}
use lib.ListN.{length, get_or, drop, length-append}
use Rattle.cells.specs.Part.{part}
use Rattle.maps.specs.Lists.{select, or_else}
use Rattle.maps.specs.ListLaws.{select-append}
use Rattle.maps.specs.Maps.{Map, lookup, numbers}
use Rattle.maps.specs.MapLaws.{pair}
use Rattle.maps.proofs.CellLaws.{length-le}
use Rattle.rules.specs.Items as rules
use Rattle.rules.specs.Context.{Part}
use Rattle.rules_by_group.specs.Group.{finished_of}
use Rattle.rules_by_group.specs.Stage.{tombs_in, finished_tombs}
use Rattle.log_batch.specs.declared.item.LogItem.{LogItem}
use Rattle.log_batch.specs.Lent.{item_of, content_of}
use Rattle.stores.specs.declared.Store.{Store}
use Rattle.stores.specs.Stores.{Area, Stored, ItemAt}
use Rattle.stores.specs.Tags.{store_tagged, items_with}
use Rattle.room.specs.Rooms.{head_at, group_in, parts_of, waiting_in}
use Rattle.room.specs.Layout.{room_of, waiting_of, tagged, RoomWf}
use Rattle.parts.specs.declared.Ending.{Ending}
use Rattle.parts.specs.Finishings.{finished_as}
use Rattle.parts.specs.Finals.{tombs_of, finished_in}
use Rattle.parts.specs.Walks.{beyond_of, Least, LeastAt}
use Rattle.parts.specs.ItemLaws.{here-is, past_is, end_is, an_item}
use Rattle.parts.specs.CellLaws.{cells_count}
use Rattle.parts.proofs.WalkWays.{walked_all, none_left, next-group, lookup-group}

-- ---- one item

pub tomb-in : (x : rules.LogItem) (xs : List rules.LogItem) → rules.is_tombstone x.content ≡ true → tombs_of (x ∷ xs) ≡ x ∷ tombs_of xs
unfolding tombs_of select
tomb-in x xs e = rw e

pub tomb-out : (x : rules.LogItem) (xs : List rules.LogItem) → rules.is_tombstone x.content ≡ false → tombs_of (x ∷ xs) ≡ tombs_of xs
unfolding tombs_of select
tomb-out x xs e = rw e

pub no-tombs : tombs_of [] ≡ []
unfolding tombs_of select
no-tombs = refl

module _ (s : Store) (a : Area) (ts : List ℕ) (v : Stored s a) (n : s.items ≤ length ts) (count t j : ℕ) (l : j < s.items) where
  abbrev rest : ℕ → List rules.LogItem
  rest i = items_with t (drop i (store_tagged s a ts))

  pub count_past : (get_or ts j 0 ≡ t → ⊥) → count + length (tombs_of (rest (j + 1))) ≡ count + length (tombs_of (rest j))
  count_past e = ap (λ (x : List rules.LogItem). count + length (tombs_of x)) (sym (past_is s a ts v n t j l an_item e))

  module _ (it : LogItem) (at : ItemAt s a j it) (e : get_or ts j 0 ≡ t) where
    abbrev x : rules.LogItem
    x = item_of it a.entries a.bytes

    pub count_not : rules.is_tombstone (content_of it.content a.entries a.bytes) ≡ false → count + length (tombs_of (rest (j + 1))) ≡ count + length (tombs_of (rest j))
    count_not f =
        ap (λ (y : List rules.LogItem). count + length y) (sym (ap tombs_of (here-is s a ts v n t j l an_item it at e) ∙ tomb-out x (rest (j + 1)) (unfold item_of in f)))

    pub count_one : rules.is_tombstone (content_of it.content a.entries a.bytes) ≡ true → count + 1 + length (tombs_of (rest (j + 1))) ≡ count + length (tombs_of (rest j))
    count_one f =
        let q : length (tombs_of (rest j)) ≡ suc (length (tombs_of (rest (j + 1)))) = ap length (ap tombs_of (here-is s a ts v n t j l an_item it at e) ∙ tomb-in x (rest (j + 1)) (unfold item_of in f)) in
        omega (arith, q)

pub count_end : (s : Store) (a : Area) (ts : List ℕ) → Stored s a → s.items ≤ length ts → (count t j all : ℕ) → s.items ≤ j → count + length (tombs_of (items_with t (drop j (store_tagged s a ts)))) ≡ all → count ≡ all
count_end s a ts v n count t j all h e =
    let q : length (tombs_of (items_with t (drop j (store_tagged s a ts)))) ≡ 0 = ap length (ap tombs_of (end_is s a ts v n t j an_item h) ∙ no-tombs) in
    omega (arith, e, q)

-- ---- a group

module _ (g : ℕ) (ws vs us ds : List ℕ) (w : RoomWf 16 ws vs) (u : RoomWf 16 us ds) (r : Option Ending) (is : (ys es : List ℕ) → RoomWf 16 ws ys → RoomWf 16 us es → finished_in g ws ys us es ≡ finished_as r (tagged ws ys) (tagged us es)) where
  pub group_none : r ≡ None → 0 ≡ length (tombs_in (finished_in g ws vs us ds))
  unfolding tombs_in
  group_none e = rw (is vs ds w u, e) (unfold finished_as or_else in refl)

  pub group_some : (e : Ending) → r ≡ Some e → (m n : ℕ) → m ≡ length (tombs_of (items_with e.older (tagged ws vs))) → n ≡ length (tombs_of (items_with e.newer (tagged us ds))) → m + n ≡ length (tombs_in (finished_in g ws vs us ds))
  unfolding tombs_in tombs_of
  group_some e q m n a b =
      rw (is vs ds w u, q)
      (unfold finished_as or_else in
      (let p = length-append (select (λ (it : rules.LogItem). rules.is_tombstone it.content) (items_with e.older (tagged ws vs))) (select (λ (it : rules.LogItem). rules.is_tombstone it.content) (items_with e.newer (tagged us ds))) in
      rw (select-append (λ (it : rules.LogItem). rules.is_tombstone it.content) (items_with e.older (tagged ws vs)) (items_with e.newer (tagged us ds)), a, b) (sym p)))

-- ---- all groups

-- the groups so far are counted
pub record Counting (count : ℕ) (b : Option ℕ) (ws vs us ds : List ℕ) : Type 0 where
  pub few : count + length (beyond_of b (waiting_of us ds)) * 256 ≤ 4096
  pub whole : count + length (finished_tombs (beyond_of b (waiting_of us ds)) (waiting_of ws vs)) ≡ length (finished_tombs (waiting_of us ds) (waiting_of ws vs))

pub tombs-nil : (o : Map ℕ (List Part)) → finished_tombs [] o ≡ []
unfolding finished_tombs
tombs-nil o = refl

tombs-cons : (g : ℕ) (ps : List Part) (w o : Map ℕ (List Part)) → length (finished_tombs (pair g ps ∷ w) o) ≡ length (tombs_in (finished_of (Some ps) (lookup numbers g o))) + length (finished_tombs w o)
unfolding finished_tombs
tombs-cons g ps w o = length-append (tombs_in (finished_of (Some ps) (lookup numbers g o))) (finished_tombs w o)

nothing_left : (w o : Map ℕ (List Part)) → w ≡ [] → length (finished_tombs w o) ≡ 0
nothing_left w o e = ap (λ (x : Map ℕ (List Part)). length (finished_tombs x o)) e ∙ ap length (tombs-nil o)

module _ (ws vs us ds : List ℕ) (u : RoomWf 16 us ds) where
  pub few-groups : length (waiting_of us ds) ≤ 16
  unfolding waiting_of waiting_in room_of
  few-groups = let n = cells_count us ds u in let m = length-le (Rattle.room.specs.Rooms.cells_of (part 2 160 us) (tagged us ds)) in omega (arith, n, m)

  pub counting_none : Counting 0 None ws vs us ds
  counting_none =
      let q = walked_all (waiting_of us ds) in
      let l = few-groups in
      record { few = rw q (omega (arith, l)); whole = rw q (zero-add _) }

  module _ (count : ℕ) (b : Option ℕ) (c : Counting count b ws vs us ds) where
    pub counted_all : Least b 16 (part 2 160 us) None → (count ≡ length (finished_tombs (waiting_of us ds) (waiting_of ws vs))) × (count ≤ 4096)
    counted_all l =
        let w = c.whole in
        let few = c.few in
        let z = nothing_left (beyond_of b (waiting_of us ds)) (waiting_of ws vs) (none_left b us ds u l) in
        (omega (arith, w, z), omega (arith, few))

    module _ (k : ℕ) (l : LeastAt b 16 (part 2 160 us) k) (g : ℕ) (e : g ≡ get_or us (2 + k * 10 + 1) 0) where
      abbrev ps : List Part
      ps = parts_of (head_at k (part 2 160 us)) (tagged us ds)

      pub counted_more : (n : ℕ) → n ≡ length (tombs_in (finished_in g ws vs us ds)) → n ≤ 256 → Counting (count + n) (Some g) ws vs us ds
      counted_more n q few =
          let nx = next-group b us ds u k l g e in
          let a : length (beyond_of b (waiting_of us ds)) ≡ suc (length (beyond_of (Some g) (waiting_of us ds))) = ap length nx in
          let m : n ≡ length (tombs_in (finished_of (Some ps) (lookup numbers g (waiting_of ws vs)))) = q ∙ ap (λ o. length (tombs_in (finished_of o (lookup numbers g (waiting_of ws vs))))) (lookup-group b us ds u k l g e) in
          let t : length (finished_tombs (beyond_of b (waiting_of us ds)) (waiting_of ws vs)) ≡ n + length (finished_tombs (beyond_of (Some g) (waiting_of us ds)) (waiting_of ws vs)) = ap (λ (x : Map ℕ (List Part)). length (finished_tombs x (waiting_of ws vs))) nx ∙ tombs-cons g _ _ (waiting_of ws vs) ∙ rw (← m) in
          let f0 = c.few in
          let w0 = c.whole in
          record { few = omega (arith, f0, a); whole = omega (arith, w0, t) }
