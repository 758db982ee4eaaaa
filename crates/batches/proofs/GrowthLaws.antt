-- What the calls add to the lists, as the contracts say it. Assumes nothing.
use mathlib.Core.Bool.{Bool, true, false}
use mathlib.Core.List.{List, [], ◌∷◌, ◌++◌}
use mathlib.Core.Path.{◌≡◌, refl, sym, ap, ◌∙◌}
use Prim.Native.Nat.{ℕ, ◌-◌, ◌≤◌, ◌<◌}
use native.Mathlib.Omega.{arith}
use lib.Dec.{ltb}
use lib.ListN.{length, get_or, take, drop, length-drop}
use borrow.Author.Rules.{part_to_end}
use borrow.Rule.Slice.PartMut.{put_mid}
use borrow.Author.Tests.{ltb-true}
use Rattle.rules.specs.Items.{LogItem}
use Rattle.rules.specs.Context.{Context, with_tombstones, with_cleaned}
use Rattle.log_batch.specs.declared.item.LogItem as lent
use Rattle.lists.specs.Rest.{rest_of, Wf}
use Rattle.lists.specs.Calls.{TombstoneAdded, CleanedAdded}
use Rattle.lists.specs.Laws.{lengths, behind_all, behind-then, keeps_all, keeps_then}
use Rattle.contexts.specs.AreaLaws.{before_back, behind_back}
use Rattle.batches.specs.Steps.{one_more_if, room_if}
use Rattle.batches.specs.Growth.{lists_with, RoomFor, ListsGrown, AreaGrown}

-- ---- the room

-- there is room for nothing
pub room-none : (b : Bool) (n most : ℕ) → b ≡ false → room_if b n most ≡ true
unfolding room_if
room-none b n most e = rw e

-- for one more there is room below the limit
pub room-one : (b : Bool) (n most : ℕ) → b ≡ true → room_if b n most ≡ ltb n most
unfolding room_if
room-one b n most e = rw e

-- the room for a tombstone alone
pub tombstone-alone : (t n : Bool) (it : lent.LogItem) (ys : List ℕ) → RoomFor t n it ys → RoomFor t false it ys
tombstone-alone t n it ys r =
    record {
      tombstone-room = r.tombstone-room;
      cleaned-room = room-none false (get_or ys 2 0) 64 refl;
      no-entries = r.no-entries;
    }

-- ---- the lists

module _ (it : LogItem) (ys cs : List ℕ) where
  -- nothing is added
  pub none-grown : (t : Bool) → t ≡ false → Wf ys cs → ListsGrown t false it ys cs ys cs
  unfolding lists_with one_more_if
  none-grown t e w = record { rest = rw e; keeps = keeps_all ys cs; behind = behind_all ys cs; wf = w }

  module _ (ys' cs' : List ℕ) where
    -- a tombstone is added
    pub tombstone-grown : (t : Bool) → t ≡ true → TombstoneAdded it ys cs ys' cs' → ListsGrown t false it ys cs ys' cs'
    unfolding lists_with one_more_if with_tombstones rest_of
    tombstone-grown t e a = record { rest = rw e a.rest; keeps = a.keeps; behind = a.behind; wf = a.wf }

    module _ (t : Bool) (g : ListsGrown t false it ys cs ys' cs') where
      -- the number of cleaned numbers stays
      pub cleaned_stay : Wf ys cs → get_or ys' 2 0 ≡ get_or ys 2 0
      unfolding lists_with one_more_if rest_of
      cleaned_stay w =
          sym (lengths ys' cs' g.wf).1
          ∙ ap (λ (c : Context). length c.cleaned) g.rest
          ∙ (lengths ys cs w).1

      -- so the room for a cleaned number does
      pub cleaned-room : (n : Bool) (x : lent.LogItem) → n ≡ true → Wf ys cs → RoomFor t n x ys → get_or ys' 2 0 < 64
      cleaned-room n x e w r =
          let k = cleaned_stay w in
          let l = ltb-true (get_or ys 2 0) 64 (sym (room-one n (get_or ys 2 0) 64 e) ∙ r.cleaned-room) in
          omega arith

      -- no cleaned number is added
      pub uncleaned : (n : Bool) → n ≡ false → ListsGrown t n it ys cs ys' cs'
      uncleaned n e = rw e g

      -- a cleaned number is added after it
      pub cleaned-grown : (n : Bool) → n ≡ true → (ys'' : List ℕ) → CleanedAdded it.group ys' cs' ys'' → ListsGrown t n it ys cs ys'' cs'
      unfolding lists_with one_more_if with_cleaned rest_of
      cleaned-grown n e ys'' a =
          record {
            rest = a.rest ∙ rw e (ap (λ (c : Context). with_cleaned (c.cleaned ++ (it.group ∷ [])) c) g.rest);
            keeps = keeps_then ys cs ys' cs' ys'' cs' g.keeps a.keeps;
            behind = behind-then ys cs ys' cs' ys'' cs' g.behind a.behind;
            wf = a.wf;
          }

-- ---- the area

-- an area has its groups before the lists
pub numbers-before : (xs bs : List ℕ) → Wf (drop 9376 xs) (drop 16384 bs) → 9376 ≤ length xs
numbers-before xs bs w =
    let l : length (drop 9376 xs) ≡ length xs - 9376 = length-drop 9376 xs in
    let n = w.numbers-are in
    omega arith

pub bytes-before : (xs bs : List ℕ) → Wf (drop 9376 xs) (drop 16384 bs) → 16384 ≤ length bs
bytes-before xs bs w =
    let l : length (drop 16384 bs) ≡ length bs - 16384 = length-drop 16384 bs in
    let n = w.bytes-are in
    omega arith

-- what is asked of the lists, as they are lent
module _ (a b : ℕ) (xs bs : List ℕ) where
  pub lent_wf : Wf (drop a xs) (drop b bs) → Wf (take (length xs - a) (drop a xs)) (take (length bs - b) (drop b bs))
  lent_wf w = rw (part_to_end xs a, part_to_end bs b) w

  pub lent-room : (t n : Bool) (it : lent.LogItem) → RoomFor t n it (drop a xs) → RoomFor t n it (take (length xs - a) (drop a xs))
  lent-room t n it r = rw (part_to_end xs a) r

  -- what comes back of them
  lists_back : (t n : Bool) (it : LogItem) (s r : List ℕ) → a ≤ length xs → b ≤ length bs → ListsGrown t n it (take (length xs - a) (drop a xs)) (take (length bs - b) (drop b bs)) s r → ListsGrown t n it (drop a xs) (drop b bs) (drop a (put_mid a (length xs - a) xs s)) (drop b (put_mid b (length bs - b) bs r))
  lists_back t n it s r h k g =
      rw (behind_back a xs s h, behind_back b bs r k) (rw (part_to_end xs a, part_to_end bs b) at g)

pub area-grown : (t n : Bool) (it : LogItem) (xs bs s r : List ℕ) → Wf (drop 9376 xs) (drop 16384 bs) → ListsGrown t n it (take (length xs - 9376) (drop 9376 xs)) (take (length bs - 16384) (drop 16384 bs)) s r → AreaGrown t n it xs bs (put_mid 9376 (length xs - 9376) xs s) (put_mid 16384 (length bs - 16384) bs r)
area-grown t n it xs bs s r w g =
    let h = numbers-before xs bs w in
    let k = bytes-before xs bs w in
    record {
      lists-grown = lists_back 9376 16384 xs bs t n it s r h k g;
      front = before_back 9376 xs s h;
      front_bytes = before_back 16384 bs r k;
    }
