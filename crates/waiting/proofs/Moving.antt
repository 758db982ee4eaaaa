-- The items of a tag of another room are added one by one. Assumes nothing.
use mathlib.Core.List.{List, [], ◌∷◌, ◌++◌}
use mathlib.Core.Path.{◌≡◌, refl, sym, ap, ◌∙◌}
use Prim.Native.Nat.{ℕ, suc, ◌+◌, ◌-◌, ◌*◌, ◌≤◌, ◌<◌}
use native.Mathlib.Numerals.{add-one}
use native.Mathlib.Omega.{arith}
use lib.ListN.{length, get_or, take, drop}
use lib.Seq.{take-suc, take_all, split_at}
use borrow.Author.Tests.{eq-eqb, ne_eqb}
use Rattle.maps.specs.Lists.{select}
use Rattle.rules.specs.Items as rules
use Rattle.log_batch.specs.declared.item.LogItem.{LogItem}
use Rattle.log_batch.specs.Lent.{item_of}
use Rattle.stores.specs.declared.Store.{Store}
use Rattle.stores.specs.Written.{count_of, Lent}
use Rattle.stores.specs.Stores.{Stored, ItemAt}
use Rattle.stores.specs.StoreLaws.{entries-count}
use Rattle.stores.specs.Tags.{Tagged, has_tag, items_with, counts_of}
use Rattle.stores.specs.CountLaws.{read-tagged, stored-counts}
use Rattle.room.specs.Rooms.{Room, area_in, items_in}
use Rattle.room.specs.Layout.{store_of, room_of, RoomWf}
use Rattle.room.specs.LayoutLaws.{length-tags, length-items, length-entries, length-bytes}
use Rattle.room.specs.Batches.{counts_for, PushedAll}
use Rattle.room.specs.BatchLaws.{counts-append, counts-one, pushed_none, pushed-one, pushed_then}
use Rattle.room.specs.Items.{AddedIn}
use Rattle.room.specs.PartLaws.{with_append}
use Rattle.room.specs.PlaceLaws.{bytes-are}
use Rattle.room.proofs.Opening.{lent-entries}
use Rattle.waiting.specs.Merges.{HasRoom}

-- ---- an item that is added

pub added_from : (us ds : List ℕ) → length us ≡ 2 + 16 * 218 → length ds ≡ 16 * 512 → (s : Store) (r : Room) (tag : ℕ) (it : LogItem) (t : Store) (q : Room) → AddedIn s r tag (item_of it (take (2 + 16 * 90 + 16 * 128 - (2 + 16 * 90)) (drop (2 + 16 * 90) us)) ds) t q → AddedIn s r tag (item_of it (room_of 16 us ds).entries (room_of 16 us ds).bytes) t q
added_from us ds e f s r tag it t q a = rw (bytes-are 16 us ds f) (rw (lent-entries 16 us ds e f) at a)

one_with : (t : ℕ) (x : Tagged) → x.tag ≡ t → items_with t (x ∷ []) ≡ x.item ∷ []
unfolding items_with select has_tag
one_with t x e = rw (eq-eqb x.tag t e)

none_with : (t : ℕ) (x : Tagged) → (x.tag ≡ t → ⊥) → items_with t (x ∷ []) ≡ []
unfolding items_with select has_tag
none_with t x d = rw (ne_eqb x.tag t d)

module _ (us ds : List ℕ) (w : RoomWf 16 us ds) where
  abbrev from : Room
  from = room_of 16 us ds

  abbrev xs : List Tagged
  xs = items_in (store_of us) from

  pub many : length xs ≡ (store_of us).items
  unfolding items_in counts_of
  many =
      let x = w.wf.tags-are in
      let y = w.wf.stored.rows in
      ap (λ (c : Store). c.items) (stored-counts (store_of us) (area_in from) w.wf.stored from.tags (omega arith))

  pub row_there : (j : ℕ) → j < (store_of us).items → j < 128
  row_there j h =
      let l = length-items 16 us ds w.numbers-are w.bytes-are in
      let r = w.wf.stored.rows in
      omega arith

  pub lent_there : (j : ℕ) (it : LogItem) → ItemAt (store_of us) (area_in from) j it → Lent it (16 * 128) (16 * 512)
  lent_there j it i = rw (length-entries 16 us ds w.numbers-are w.bytes-are, length-bytes 16 us ds w.numbers-are w.bytes-are) at i.lent

  module _ (j : ℕ) (h : j < (store_of us).items) (t : ℕ) where
    module _ (it : LogItem) (i : ItemAt (store_of us) (area_in from) j it) (e : (z : Tagged) → (get_or xs j z).tag ≡ t) where
      item-there : (z : Tagged) → (get_or xs j z).item ≡ item_of it from.entries from.bytes
      unfolding items_in
      item-there z =
          let x = w.wf.tags-are in
          let y = w.wf.stored.rows in
          ap (λ (v : Tagged). v.item) (read-tagged (store_of us) (area_in from) from.tags j it z w.wf.stored h (omega arith) i)

      here-is : (z : Tagged) → items_with t (get_or xs j z ∷ []) ≡ item_of it from.entries from.bytes ∷ []
      here-is z = one_with t (get_or xs j z) (e z) ∙ ap (λ (v : rules.LogItem). v ∷ []) (item-there z)

      pub room_there : (s : Store) → HasRoom 16 s t xs j → (s.items < 16 * 8) × (s.entries + count_of it.content ≤ 16 * 16)
      room_there s b =
          let z : Tagged = record { tag = 0; item = item_of it from.entries from.bytes } in
          let c = counts-one (item_of it from.entries from.bytes) in
          let c0 = c.0 in
          let c1 = c.1 in
          let n = entries-count it from.entries from.bytes in
          let b0 = rw (here-is z) at (b.items z) in
          let b1 = rw (here-is z) at (b.entries z) in
          (omega arith, omega arith)

      pub pushed_there : (ws vs : List ℕ) → length ws ≡ 2 + 16 * 218 → length vs ≡ 16 * 512 → (s : Store) (tag : ℕ) (u : Store) (ws' vs' : List ℕ) → length ws' ≡ length ws → length vs' ≡ length vs → AddedIn s (room_of 16 ws vs) tag (item_of it from.entries from.bytes) u (room_of 16 ws' vs') → (z : Tagged) → PushedAll s (room_of 16 ws vs) tag (items_with t (get_or xs j z ∷ [])) u (room_of 16 ws' vs')
      pushed_there ws vs p q s tag u ws' vs' p' q' a z =
          rw (here-is z)
          (pushed-one s (room_of 16 ws vs) tag (item_of it from.entries from.bytes) u (room_of 16 ws' vs') a
          (length-tags 16 ws' vs' (p' ∙ p) (q' ∙ q) ∙ sym (length-tags 16 ws vs p q)))

    pub pushed_not : ((z : Tagged) → (get_or xs j z).tag ≡ t → ⊥) → (s : Store) (r : Room) (tag : ℕ) → Stored s (area_in r) → (z : Tagged) → PushedAll s r tag (items_with t (get_or xs j z ∷ [])) s r
    pushed_not d s r tag b z = rw (none_with t (get_or xs j z) (d z)) (pushed_none s r tag b)

-- ---- one by one

any_tagged : Tagged
any_tagged = record { tag = 0; item = record { group = 0; content = rules.command rules.clean } }

pub record MovingIn (xs : List Tagged) (n t tag : ℕ) (s : Store) (ws₀ vs₀ : List ℕ) (u : Store) (ws vs : List ℕ) (j : ℕ) : Type 0 where
  pub most : j ≤ n
  pub numbers-are : length ws ≡ 2 + 16 * 218
  pub bytes-are : length vs ≡ 16 * 512
  pub pushed : PushedAll s (room_of 16 ws₀ vs₀) tag (items_with t (take j xs)) u (room_of 16 ws vs)

none-taken : (t : ℕ) (xs : List Tagged) → items_with t (take 0 xs) ≡ []
unfolding items_with select
none-taken t l = refl

module _ (xs : List Tagged) (n t tag : ℕ) (m : length xs ≡ n) (s : Store) (ws₀ vs₀ : List ℕ) where
  pub moving_none : length ws₀ ≡ 2 + 16 * 218 → length vs₀ ≡ 16 * 512 → Stored s (area_in (room_of 16 ws₀ vs₀)) → MovingIn xs n t tag s ws₀ vs₀ s ws₀ vs₀ 0
  moving_none e f w =
      record { most = omega arith; numbers-are = e; bytes-are = f; pushed = rw (none-taken t xs) (pushed_none s (room_of 16 ws₀ vs₀) tag w) }

  module _ (u : Store) (ws vs : List ℕ) (j : ℕ) (h : j < n) (p : MovingIn xs n t tag s ws₀ vs₀ u ws vs j) where
    split_here : (z : Tagged) → items_with t xs ≡ items_with t (take j xs) ++ (items_with t (get_or xs j z ∷ []) ++ items_with t (drop (suc j) xs))
    split_here z =
        ap (items_with t) (split_at xs j z (omega arith))
        ∙ with_append t (take j xs) (get_or xs j z ∷ drop (suc j) xs)
        ∙ ap (λ (l : List rules.LogItem). items_with t (take j xs) ++ l) (with_append t (get_or xs j z ∷ []) (drop (suc j) xs))

    fits_here : (z : Tagged) → (s.items + (counts_for (items_with t xs)).items ≤ 16 * 8) × (s.entries + (counts_for (items_with t xs)).entries ≤ 16 * 16) → (u.items + (counts_for (items_with t (get_or xs j z ∷ []))).items ≤ 16 * 8) × (u.entries + (counts_for (items_with t (get_or xs j z ∷ []))).entries ≤ 16 * 16)
    fits_here z b =
        let b' = rw (split_here z) at b in
        let b0 = b'.0 in
        let b1 = b'.1 in
        let c = counts-append (items_with t (take j xs)) (items_with t (get_or xs j z ∷ []) ++ items_with t (drop (suc j) xs)) in
        let c0 = c.0 in
        let c1 = c.1 in
        let d = counts-append (items_with t (get_or xs j z ∷ [])) (items_with t (drop (suc j) xs)) in
        let d0 = d.0 in
        let d1 = d.1 in
        let x = p.pushed.count in
        let y = p.pushed.total in
        (omega arith, omega arith)

    pub moving_room : (s.items + (counts_for (items_with t xs)).items ≤ 16 * 8) × (s.entries + (counts_for (items_with t xs)).entries ≤ 16 * 16) → HasRoom 16 u t xs j
    moving_room b = record { items = λ z. (fits_here z b).0; entries = λ z. (fits_here z b).1 }

    pub moving_more : (v : Store) (ws' vs' : List ℕ) → length ws' ≡ length ws → length vs' ≡ length vs → ((z : Tagged) → PushedAll u (room_of 16 ws vs) tag (items_with t (get_or xs j z ∷ [])) v (room_of 16 ws' vs')) → MovingIn xs n t tag s ws₀ vs₀ v ws' vs' (j + 1)
    moving_more v ws' vs' e f o =
        record {
          most = omega arith;
          numbers-are = e ∙ p.numbers-are;
          bytes-are = f ∙ p.bytes-are;
          pushed =
              rw (add-one j, take-suc xs j any_tagged (omega arith), with_append t (take j xs) (get_or xs j any_tagged ∷ []))
              (pushed_then s (room_of 16 ws₀ vs₀) tag (items_with t (take j xs)) u (room_of 16 ws vs) (items_with t (get_or xs j any_tagged ∷ [])) v (room_of 16 ws' vs') p.pushed (o any_tagged));
        }

  pub moving_all : (u : Store) (ws vs : List ℕ) (j : ℕ) → n ≤ j → MovingIn xs n t tag s ws₀ vs₀ u ws vs j → PushedAll s (room_of 16 ws₀ vs₀) tag (items_with t xs) u (room_of 16 ws vs)
  moving_all u ws vs j l p = rw (take_all j xs (omega arith)) at p.pushed
