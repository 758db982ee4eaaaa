-- The items of a store that have a tag, one after the other, and a room as it is lent. Assumes nothing.
use Rattle.std.specs.Prelude.{List, [], ◌∷◌, ◌≡◌, ℕ, suc, ◌+◌, ◌-◌, ◌≤◌, ◌<◌, length, get_or, take, drop}
use Rattle.std.proofs.Common.{sym, ◌∙◌, add-one, arith}
use Rattle.std.proofs.Math.Path.{ap}
use borrow.Author.Rules.{part_to_end}
use Rattle.cells.specs.Part.{part}
use Rattle.cells.specs.PartLaws.{part-is, part_back}
use Rattle.rules.specs.Items as rules
use Rattle.log_batch.specs.declared.item.LogItem.{LogItem}
use Rattle.log_batch.specs.Lent.{item_of}
use Rattle.stores.specs.declared.Store.{Store}
use Rattle.stores.specs.Stores.{Area, area, store_items, Stored, ItemAt}
use Rattle.stores.specs.StoreLaws.{length-stored}
use Rattle.stores.specs.Tags.{Tagged, store_tagged, items_with}
use Rattle.stores.specs.TagLaws.{length-tagged, tagged_at, with_here, with-past, with-end}
use Rattle.room.specs.Rooms.{area_in, items_in}
use Rattle.room.specs.Layout.{store_of, room_of, tagged, RoomWf}
use Rattle.room.specs.LayoutLaws.{length-tags, length-items}
use Rattle.room.specs.PlaceLaws as places

-- ---- the items of a store that have a tag

module _ (s : Store) (a : Area) (ts : List ℕ) (v : Stored s a) (n : s.items ≤ length ts) where
  abbrev all : List Tagged
  all = store_tagged s a ts

  pub count_all : length all ≡ s.items
  unfolding store_tagged
  count_all = let k = length-stored s a v in length-tagged ts (store_items s a) (omega (arith, k)) ∙ k

  module _ (t j : ℕ) (l : j < s.items) (z : Tagged) where
    pub tag_at : (get_or all j z).tag ≡ get_or ts j 0
    unfolding store_tagged
    tag_at =
        let k = length-stored s a v in
        ap (λ (x : Tagged). x.tag) (tagged_at ts (store_items s a) j z z.item (omega (arith, k)) (omega (arith, k)))

    pub item-is : (it : LogItem) → ItemAt s a j it → (get_or all j z).item ≡ item_of it a.entries a.bytes
    unfolding store_tagged
    item-is it at =
        let k = length-stored s a v in
        ap (λ (x : Tagged). x.item) (tagged_at ts (store_items s a) j z z.item (omega (arith, k)) (omega (arith, k))) ∙ at.is z.item

    pub here-is : (it : LogItem) → ItemAt s a j it → get_or ts j 0 ≡ t → items_with t (drop j all) ≡ item_of it a.entries a.bytes ∷ items_with t (drop (j + 1) all)
    here-is it at e =
        rw (add-one j) (with_here t all j z (omega (arith, count_all)) (tag_at ∙ e) ∙ ap (λ (x : rules.LogItem). x ∷ items_with t (drop (suc j) all)) (item-is it at))

    pub past_is : (get_or ts j 0 ≡ t → ⊥) → items_with t (drop j all) ≡ items_with t (drop (j + 1) all)
    past_is e = rw (add-one j) (with-past t all j z (omega (arith, count_all)) (λ u. e (sym tag_at ∙ u)))

  pub end_is : (t j : ℕ) (z : Tagged) → s.items ≤ j → items_with t (drop j all) ≡ []
  end_is t j z h = with-end t all j z (omega (arith, count_all))

-- an item of no meaning, where one has to be named
abbrev pub an_item : Tagged
an_item = record { tag = 0; item = record { group = 0; content = rules.command rules.clean } }

-- ---- the items of a room, as it is lent

-- a room has a tag for each item
pub enough-tags : (ws vs : List ℕ) → RoomWf 16 ws vs → (store_of ws).items ≤ length (room_of 16 ws vs).tags
enough-tags ws vs w =
    let a = length-tags 16 ws vs w.numbers-are w.bytes-are in
    let b = length-items 16 ws vs w.numbers-are w.bytes-are in
    let d = w.wf.stored.rows in
    omega (arith, a, b, d)

module _ (ws vs : List ℕ) (w : RoomWf 16 ws vs) where
  abbrev lent_store : Store
  lent_store = record { items = get_or ws 0 0; entries = get_or ws 1 0 }

  abbrev lent_tags : List ℕ
  lent_tags = take 128 (drop 162 ws)

  abbrev lent_area : Area
  lent_area = area (take 1152 (drop 290 ws)) (take (length ws - 1442) (drop 1442 ws)) vs

  tags-are : lent_tags ≡ (room_of 16 ws vs).tags
  unfolding room_of
  tags-are = part-is 162 128 ws

  room-end : part 1442 2048 ws ≡ drop 1442 ws
  room-end = let n = w.numbers-are in let k : length ws - 1442 ≡ 2048 = omega (arith, n) in sym (part_back 1442 ws ∙ rw k)

  area-is : lent_area ≡ area_in (room_of 16 ws vs)
  unfolding room_of
  area-is = rw (part-is 290 1152 ws, part_to_end ws 1442, ← room-end, places.bytes-are 16 ws vs w.bytes-are)

  pub lent-tagged : store_tagged lent_store lent_area lent_tags ≡ tagged ws vs
  unfolding items_in store_of
  lent-tagged = rw (area-is, tags-are)

  pub lent-stored : Stored lent_store lent_area
  unfolding store_of
  lent-stored = rw area-is w.wf.stored

  pub lent-enough : get_or ws 0 0 ≤ length lent_tags
  unfolding store_of
  lent-enough = rw tags-are (enough-tags ws vs w)

pub few-items : (ws vs : List ℕ) → RoomWf 16 ws vs → get_or ws 0 0 ≤ 128
unfolding store_of
few-items ws vs w =
    let b = length-items 16 ws vs w.numbers-are w.bytes-are in
    let d = w.wf.stored.rows in
    omega (arith, b, d)
