-- Heads and counts are written. Assumes nothing.
use mathlib.Core.List.{List, [], ◌∷◌}
use mathlib.Core.Path.{◌≡◌, ap, ◌∙◌}
use Prim.Native.Nat.{ℕ, ◌+◌, ◌-◌, ◌*◌, ◌≤◌, ◌<◌}
use native.Mathlib.Nat.{add-zero}
use native.Mathlib.Omega.{arith}
use lib.ListN.{length, get_or, set, length-set}
use lib.Seq.{get_or-set_same, get_or-set_other}
use Rattle.cells.specs.Part.{part, put}
use Rattle.cells.specs.PartLaws.{length-put, part-set-before}
use Rattle.rules.specs.Items as rules
use Rattle.stores.specs.declared.Store.{Store}
use Rattle.room.specs.Rooms.{Room, room, items_in, head_at, count_in, newest_tag, cell_count}
use Rattle.room.specs.Layout.{numbers_of, store_of, room_of, RoomWf}
use Rattle.room.specs.LayoutLaws.{cell-count, count-in}
use Rattle.room.specs.PlaceLaws.{put-head}
use Rattle.room.specs.HeadLaws.{heads-are, head_number}
use Rattle.room.specs.Items.{TakenIn}
use Rattle.room.specs.Batches.{PushedAll}
use Rattle.room.specs.Parts.{left_head, Settled, WroteIn, TookPart}
use Rattle.room.specs.PartLaws.{Retagged}
use Rattle.room.specs.RetagLaws.{retagged-left, part_left}

set-count : (n : ℕ) (ws vs : List ℕ) (i v : ℕ) → i < 2 → room_of n (set ws i v) vs ≡ room_of n ws vs
unfolding room_of
set-count n ws vs i v h =
    rw (part-set-before 2 (n * 10) ws i v h, part-set-before (2 + n * 10) (n * 8) ws i v (omega arith), part-set-before (2 + n * 18) (n * 72) ws i v (omega arith), part-set-before (2 + n * 90) (n * 128) ws i v (omega arith))

told-counts : (ws : List ℕ) (t : Store) → 2 ≤ length ws → store_of (set (set ws 0 t.items) 1 t.entries) ≡ t
unfolding store_of
told-counts ws t h =
    let l = length-set ws 0 t.items in
    let a = get_or-set_other (set ws 0 t.items) 1 0 t.entries 0 (λ z. omega arith) ∙ get_or-set_same ws 0 t.items 0 (omega arith) in
    let b = get_or-set_same (set ws 0 t.items) 1 t.entries 0 (omega arith) in
    λ i. record { items = a i; entries = b i }

pub settled : (n k : ℕ) (ws h : List ℕ) (t : Store) → length ws ≡ numbers_of n → k < n → length h ≡ 10 → (ws₁ : List ℕ) → ws₁ ≡ put ws (2 + k * 10) h → Settled n k h t ws (set (set ws₁ 0 t.items) 1 t.entries)
settled n k ws h t e l w ws₁ p =
    let m : length ws₁ ≡ length ws = rw p (length-put ws (2 + k * 10) h (omega arith)) in
    record {
      counts = told-counts ws₁ t (omega arith);
      is = λ vs. set-count n (set ws₁ 0 t.items) vs 1 t.entries (omega arith) ∙ set-count n ws₁ vs 0 t.items (omega arith) ∙ rw p (put-head n ws vs e (k * 10) h (omega arith));
    }

-- ---- the head without its newest part

module _ (n : ℕ) (ws : List ℕ) (k : ℕ) (l : k < n) where
  pub left_is : (get_or ws (2 + k * 10) 0 - 1) ∷ get_or ws (2 + k * 10 + 1) 0 ∷ get_or ws (2 + k * 10 + 6) 0 ∷ get_or ws (2 + k * 10 + 7) 0 ∷ get_or ws (2 + k * 10 + 8) 0 ∷ get_or ws (2 + k * 10 + 9) 0 ∷ get_or ws (2 + k * 10 + 6) 0 ∷ get_or ws (2 + k * 10 + 7) 0 ∷ get_or ws (2 + k * 10 + 8) 0 ∷ get_or ws (2 + k * 10 + 9) 0 ∷ [] ≡ left_head (head_at k (part 2 (n * 10) ws))
  unfolding left_head
  left_is =
      let zero_is : get_or (head_at k (part 2 (n * 10) ws)) 0 0 ≡ get_or ws (2 + k * 10) 0 = head_number n ws k 0 l (omega arith) ∙ rw (add-zero (2 + k * 10)) in
      rw (zero_is, head_number n ws k 1 l (omega arith), head_number n ws k 6 l (omega arith), head_number n ws k 7 l (omega arith), head_number n ws k 8 l (omega arith), head_number n ws k 9 l (omega arith))

  pub tag_is : newest_tag (head_at k (part 2 (n * 10) ws)) ≡ get_or ws (2 + k * 10 + 2) 0
  unfolding newest_tag
  tag_is = head_number n ws k 2 l (omega arith)

-- ---- a part is taken out

module _ (n k : ℕ) (ws vs : List ℕ) (w : RoomWf n ws vs) (l : k < n) (b : 0 < get_or ws (2 + k * 10) 0) where
  abbrev r : Room
  r = room_of n ws vs

  abbrev h : List ℕ
  h = head_at k r.heads

  inside : k < cell_count r.heads
  inside = rw (cell-count n ws vs w.numbers-are w.bytes-are) l

  has_parts : 0 < count_in h
  has_parts = rw (count-in n ws vs w.numbers-are w.bytes-are k l) b

  pub took : (s left : Store) (tag : ℕ) (head ws₁ vs₁ ws₂ : List ℕ) → s ≡ store_of ws → tag ≡ get_or ws (2 + k * 10 + 2) 0 → head ≡ left_head (head_at k (part 2 (n * 10) ws)) → TakenIn s r tag left (room_of n ws₁ vs₁) → Settled n k head left ws₁ ws₂ → TookPart n k ws vs ws₂ vs₁
  took s left tag head ws₁ vs₁ ws₂ x y z o t =
      let o' : TakenIn (store_of ws) r (newest_tag h) left (room_of n ws₁ vs₁) = rw (x, y, ← tag_is n ws k l, ← heads-are n ws vs) at o in
      let t' : room_of n ws₂ vs₁ ≡ room (put (room_of n ws₁ vs₁).heads (k * 10) (left_head h)) (room_of n ws₁ vs₁).tags (room_of n ws₁ vs₁).items (room_of n ws₁ vs₁).entries (room_of n ws₁ vs₁).bytes = rw (z, ← heads-are n ws vs) at (t.is vs₁) in
      let v = retagged-left (store_of ws) r (newest_tag h) left (room_of n ws₁ vs₁) w.wf o' k (left_head h) (room_of n ws₂ vs₁) t' in
      let v' : Retagged k (left_head h) (newest_tag h) [] (store_of ws) r (store_of ws₂) (room_of n ws₂ vs₁) = rw t.counts v in
      record { became = λ g p ps c. part_left k (store_of ws) r (store_of ws₂) (room_of n ws₂ vs₁) w.wf inside v' g p ps c has_parts }

-- ---- a part is written

pub wrote : (n k : ℕ) (h : List ℕ) (tag : ℕ) (its : List rules.LogItem) (s all : Store) (r : Room) (ws₁ vs₁ ws₂ : List ℕ) → PushedAll s r tag its all (room_of n ws₁ vs₁) → Settled n k h all ws₁ ws₂ → WroteIn k h tag its s r (store_of ws₂) (room_of n ws₂ vs₁)
unfolding items_in
wrote n k h tag its s all r ws₁ vs₁ ws₂ p t =
    rw (t.counts, t.is vs₁)
    (record {
      items = p.items;
      stored = p.stored;
      count = p.count;
      total = p.total;
      tags = p.tags;
      rows = p.rows;
      heads = ap (λ (l : List ℕ). put l (k * 10) h) p.heads;
    })
