-- The ways through the end of a merge of two Rewrite contexts, in which parts may wait: the limits of all but the groups, and what it
-- becomes. Assumes nothing.
use mathlib.Core.Bool.{Bool, true, false, ◌&&◌}
use mathlib.Core.List.{List, ◌++◌}
use mathlib.Core.Path.{◌≡◌, refl, sym, ap, ◌∙◌}
use Prim.Native.Nat.{ℕ, ◌+◌, ◌-◌, ◌≤◌, ◌<◌}
use native.Mathlib.Omega.{arith}
use lib.Dec.{leb}
use lib.ListN.{length, get_or, take, drop, length-drop}
use lib.Seq.{get_or-drop}
use borrow.Author.Tests.{le-leb, lt-leb, leb-true}
use borrow.Rule.Slice.PartMut.{put_mid}
use Rattle.cells.specs.Part.{part, put}
use Rattle.cells.specs.PartLaws.{part-is, length-put, part-drop, part-put-before, part-put_same, take_put}
use Rattle.maps.specs.BoolLaws.{both_left, both_right}
use Rattle.maps.specs.Maps.{Map}
use Rattle.maps.specs.OrderLaws.{split}
use Rattle.rules.specs.Causes.{ByCause}
use Rattle.rules.specs.Items.{LogItem}
use Rattle.rules.specs.Context.{Part, Context, waiting_fits, with_groups, with_tombstones, with_cleaned, with_waiting}
use Rattle.rules_by_group.specs.Stage.{waiting_after, finished_tombs, merged_rest, rest_fits}
use Rattle.lists.specs.Rest.{tombstones_in, rest_of}
use Rattle.lists.specs.Rest as lists
use Rattle.lists.specs.Calls.{TombstonesAdded}
use Rattle.lists.specs.Laws.{lengths}
use Rattle.lists.specs.SameLaws.{rest_same, wf_same}
use Rattle.room.specs.Layout.{waiting_of, RoomWf}
use Rattle.contexts.specs.Contexts.{waiting_numbers, waiting_bytes, rest_at, context_of, Wf}
use Rattle.contexts.specs.AreaLaws.{room-waiting}
use Rattle.worktable.specs.declared.Mode.TheVariants as mode
use Rattle.parts.specs.Takings.{PartsTaken}
use Rattle.staging.specs.Modes.{counts_fit, counts_of}
use Rattle.merging.specs.Growth.{merged_lists, Mergeable, Grown, kept_behind, Waitable, RestBecomes}
use Rattle.merging.proofs.EndWays.{merged_by_lem, both-tombstones, merged-fits}
use Rattle.merging.proofs.GrowthWays.{join-numbers, grown-bytes, lent-grown, grown-room}

-- ---- the rooms, as they are lent

-- what waits in an area
pub context-waits : (xs bs : List ℕ) → (context_of xs bs).waiting ≡ waiting_of (waiting_numbers xs) (waiting_bytes bs)
unfolding context_of rest_at with_groups with_waiting
context-waits xs bs = refl

pub lent-room : (xs bs : List ℕ) → RoomWf 16 (waiting_numbers xs) (waiting_bytes bs) → RoomWf 16 (take 3490 (drop 10019 xs)) (take 8192 (drop 20480 bs))
lent-room xs bs w = rw (part-is 10019 3490 xs, part-is 20480 8192 bs) w

pub lent-count : (xs bs ys cs : List ℕ) (r : ℕ) → r ≡ length (finished_tombs (waiting_of (take 3490 (drop 10019 ys)) (take 8192 (drop 20480 cs))) (waiting_of (take 3490 (drop 10019 xs)) (take 8192 (drop 20480 bs)))) → r ≡ length (finished_tombs (context_of ys cs).waiting (context_of xs bs).waiting)
lent-count xs bs ys cs r e =
    rw (context-waits xs bs, context-waits ys cs)
    (rw (part-is 10019 3490 xs, part-is 20480 8192 bs, part-is 10019 3490 ys, part-is 20480 8192 cs) at e)

-- ---- the limits

-- lists that pass one pass it with more tombstones too
lists-over : (t f n : ℕ) (b : Bool) → (leb t 64 && leb n 64) ≡ false → (leb (t + f) 64 && leb n 64 && b) ≡ false
lists-over t f n b e =
    split (leb (t + f) 64)
    (λ y. let h : leb n 64 ≡ false = rw (le-leb t 64 (omega (arith, leb-true (t + f) 64 y))) at e in rw (y, h))
    (λ z. rw z)

-- the number of tombstones, as it is read
pub listed : (xs ys : List ℕ) → get_or xs 9377 0 + get_or ys 9377 0 ≡ (counts_of xs).tombstones + (counts_of ys).tombstones
unfolding counts_of
listed xs ys = rw (get_or-drop 9376 xs 1 0, get_or-drop 9376 ys 1 0)

module _ (xs bs ys cs : List ℕ) (w : Wf xs bs) (v : Wf ys cs) (q : Map ℕ (List Part)) where
  abbrev both : Context
  both = merged_rest (context_of ys cs) q (context_of xs bs)

  abbrev tombs : ℕ
  tombs = length (finished_tombs (context_of ys cs).waiting (context_of xs bs).waiting)

  fits-are : rest_fits both ≡ (leb ((counts_of xs).tombstones + (counts_of ys).tombstones + tombs) 64 && leb ((counts_of xs).cleaned + (counts_of ys).cleaned) 64 && waiting_fits q)
  fits-are = merged-fits xs bs ys cs w.rest v.rest q

  pub over_lists : counts_fit mode.Rewrite (counts_of xs) (counts_of ys) ≡ false → false ≡ rest_fits both
  unfolding counts_fit
  over_lists e = sym (fits-are ∙ lists-over ((counts_of xs).tombstones + (counts_of ys).tombstones) tombs ((counts_of xs).cleaned + (counts_of ys).cleaned) (waiting_fits q) e)

  pub over_finished : 64 < get_or xs 9377 0 + get_or ys 9377 0 + tombs → false ≡ rest_fits both
  over_finished h = sym (fits-are ∙ rw (lt-leb ((counts_of xs).tombstones + (counts_of ys).tombstones + tombs) 64 (rw (listed xs ys) at h)))

  pub room-tells : counts_fit mode.Rewrite (counts_of xs) (counts_of ys) ≡ true → get_or xs 9377 0 + get_or ys 9377 0 + tombs ≤ 64 → waiting_fits q ≡ rest_fits both
  unfolding counts_fit
  room-tells e h =
      let t = (counts_of xs).tombstones + (counts_of ys).tombstones in
      let n = (counts_of xs).cleaned + (counts_of ys).cleaned in
      sym (fits-are ∙ rw (le-leb (t + tombs) 64 (rw (listed xs ys) at h), both_right (leb t 64) (leb n 64) e))

-- ---- the tombstones that finish

pub finished-kept : (ts : List LogItem) (xs bs s t : List ℕ) → lists.Wf (drop 9376 xs) (drop 16384 bs) → TombstonesAdded ts (drop 9376 xs) (drop 16384 bs) s t → Grown (kept_behind ts xs bs) xs bs (put_mid 9376 (length xs - 9376) xs s) (put_mid 16384 (length bs - 16384) bs t)
unfolding kept_behind
finished-kept ts xs bs s t w a = lent-grown xs bs w _ s t (record { rest = a.rest; behind = a.behind; wf = a.wf })

-- ---- all but the groups

module _ (xs bs ys cs ws vs : List ℕ) (g : Waitable xs bs ys cs ws vs) where
  abbrev finished : List LogItem
  finished = finished_tombs (waiting_of (waiting_numbers ys) (waiting_bytes cs)) (waiting_of (waiting_numbers xs) (waiting_bytes bs))

  abbrev listed_both : ℕ
  listed_both = (counts_of xs).tombstones + (counts_of ys).tombstones

  abbrev cleaned_both : ℕ
  cleaned_both = (counts_of xs).cleaned + (counts_of ys).cleaned

  all-fit : (leb (listed_both + length finished) 64 && leb cleaned_both 64 && waiting_fits (waiting_of ws vs)) ≡ true
  all-fit =
      rw (context-waits xs bs, context-waits ys cs) at
      (sym (merged-fits xs bs ys cs g.rest g.newer-rest (waiting_of ws vs)) ∙ ap rest_fits (sym (merged_by_lem (context_of ys cs) (waiting_of ws vs) xs bs)) ∙ g.fit)

  lists-fit : (leb (listed_both + length finished) 64 && leb cleaned_both 64) ≡ true
  lists-fit = both_left (leb (listed_both + length finished) 64 && leb cleaned_both 64) (waiting_fits (waiting_of ws vs)) all-fit

  few-tombstones : listed_both + length finished ≤ 64
  few-tombstones = leb-true (listed_both + length finished) 64 (both_left (leb (listed_both + length finished) 64) (leb cleaned_both 64) lists-fit)

  pub waits_mergeable : Mergeable xs bs ys cs
  waits_mergeable =
      record {
        rest = g.rest;
        newer-rest = g.newer-rest;
        tombstones-fit = omega (arith, few-tombstones);
        cleaned-fit = leb-true cleaned_both 64 (both_right (leb (listed_both + length finished) 64) (leb cleaned_both 64) lists-fit);
      }

  module _ (xs₁ bs₁ : List ℕ) (a : Grown (merged_lists (drop 9376 xs) (drop 16384 bs) (drop 9376 ys) (drop 16384 cs)) xs bs xs₁ bs₁) where
    abbrev finished₁ : List LogItem
    finished₁ = finished_tombs (waiting_of (waiting_numbers ys) (waiting_bytes cs)) (waiting_of (waiting_numbers xs₁) (waiting_bytes bs₁))

    finished_same : finished₁ ≡ finished
    finished_same = rw (room-waiting xs bs xs₁ bs₁ (grown-room _ xs bs xs₁ bs₁ a))

    tombstones-are : tombstones_in (drop 9376 xs₁) (drop 16384 bs₁) ≡ tombstones_in (drop 9376 xs) (drop 16384 bs) ++ tombstones_in (drop 9376 ys) (drop 16384 cs)
    unfolding merged_lists rest_of with_cleaned with_tombstones
    tombstones-are = ap (λ (c : Context). c.tombstones) a.lists.rest

    count-is : get_or (drop 9376 xs₁) 1 0 ≡ listed_both
    count-is =
        sym (lengths (drop 9376 xs₁) (drop 16384 bs₁) a.lists.wf).0
        ∙ ap (λ (l : List LogItem). length l) tombstones-are
        ∙ both-tombstones xs bs ys cs g.rest g.newer-rest

    room_wf₁ : RoomWf 16 (waiting_numbers xs₁) (waiting_bytes bs₁)
    room_wf₁ = let k = grown-room _ xs bs xs₁ bs₁ a in rw (k.numbers, k.bytes) g.waiting.room

    few-finished : get_or (drop 9376 xs₁) 1 0 + length finished₁ ≤ 64
    few-finished = rw (count-is, finished_same) few-tombstones

    -- what keeping the tombstones that finish asks
    pub keep-asks : ((length xs₁ ≡ 17231) × (length bs₁ ≡ 38912) × (length ys ≡ 17231) × (length cs ≡ 38912)) × (lists.Wf (drop 9376 xs₁) (drop 16384 bs₁) × (RoomWf 16 (waiting_numbers xs₁) (waiting_bytes bs₁) × (RoomWf 16 (waiting_numbers ys) (waiting_bytes cs) × (get_or (drop 9376 xs₁) 1 0 + length finished₁ ≤ 64))))
    keep-asks =
        ((join-numbers xs₁ bs₁ a.lists.wf, grown-bytes xs₁ bs₁ a.lists.wf, join-numbers ys cs g.newer-rest, grown-bytes ys cs g.newer-rest), (a.lists.wf, (room_wf₁, (g.newer-waiting.room, few-finished))))

    module _ (xs₂ bs₂ : List ℕ) (b : Grown (kept_behind finished₁ xs₁ bs₁) xs₁ bs₁ xs₂ bs₂) where
      numbers₂ : length xs₂ ≡ 17231
      numbers₂ = join-numbers xs₂ bs₂ b.lists.wf

      bytes₂ : length bs₂ ≡ 38912
      bytes₂ = grown-bytes xs₂ bs₂ b.lists.wf

      pub room-lengths : (length xs₂ ≡ 17231) × (length bs₂ ≡ 38912) × (length ws ≡ 3490) × (length vs ≡ 8192)
      room-lengths = (numbers₂, bytes₂, g.room.numbers-are, g.room.bytes-are)

      abbrev xs₃ : List ℕ
      xs₃ = put xs₂ 10019 ws

      abbrev bs₃ : List ℕ
      bs₃ = put bs₂ 20480 vs

      room-numbers : waiting_numbers xs₃ ≡ ws
      room-numbers = part-put_same 3490 xs₂ 10019 ws g.room.numbers-are (omega (arith, numbers₂))

      room-bytes : waiting_bytes bs₃ ≡ vs
      room-bytes = part-put_same 8192 bs₂ 20480 vs g.room.bytes-are (omega (arith, bytes₂))

      numbers_same : part 0 643 (drop 9376 xs₃) ≡ part 0 643 (drop 9376 xs₂)
      numbers_same = part-drop 0 643 9376 xs₃ ∙ part-put-before 9376 643 xs₂ 10019 ws (omega arith) (omega (arith, numbers₂)) ∙ sym (part-drop 0 643 9376 xs₂)

      bytes_same : part 0 4096 (drop 16384 bs₃) ≡ part 0 4096 (drop 16384 bs₂)
      bytes_same = part-drop 0 4096 16384 bs₃ ∙ part-put-before 16384 4096 bs₂ 20480 vs (omega arith) (omega (arith, bytes₂)) ∙ sym (part-drop 0 4096 16384 bs₂)

      lists_same : rest_of (drop 9376 xs₃) (drop 16384 bs₃) ≡ rest_of (drop 9376 xs₂) (drop 16384 bs₂)
      lists_same = rest_same (drop 9376 xs₂) (drop 16384 bs₂) (drop 9376 xs₃) (drop 16384 bs₃) numbers_same bytes_same b.lists.wf

      lists-are : rest_of (drop 9376 xs₂) (drop 16384 bs₂) ≡ with_tombstones ((tombstones_in (drop 9376 xs) (drop 16384 bs) ++ tombstones_in (drop 9376 ys) (drop 16384 cs)) ++ finished) (merged_lists (drop 9376 xs) (drop 16384 bs) (drop 9376 ys) (drop 16384 cs))
      unfolding kept_behind
      lists-are = b.lists.rest ∙ rw (tombstones-are, finished_same, a.lists.rest)

      with_rest : with_waiting (waiting_of ws vs) (with_tombstones ((tombstones_in (drop 9376 xs) (drop 16384 bs) ++ tombstones_in (drop 9376 ys) (drop 16384 cs)) ++ finished) (merged_lists (drop 9376 xs) (drop 16384 bs) (drop 9376 ys) (drop 16384 cs))) ≡ merged_rest (context_of ys cs) (waiting_of ws vs) (rest_at xs bs)
      unfolding merged_lists merged_rest rest_at context_of rest_of with_waiting with_cleaned with_tombstones with_groups
      with_rest = refl

      rest₃ : rest_at xs₃ bs₃ ≡ with_waiting (waiting_of ws vs) (rest_of (drop 9376 xs₂) (drop 16384 bs₂))
      unfolding rest_at
      rest₃ = rw (room-numbers, room-bytes, lists_same)

      rest-is : rest_at xs₃ bs₃ ≡ merged_rest (context_of ys cs) (waiting_of ws vs) (rest_at xs bs)
      rest-is = rest₃ ∙ ap (with_waiting (waiting_of ws vs)) lists-are ∙ with_rest

      wf₃ : lists.Wf (drop 9376 xs₃) (drop 16384 bs₃)
      wf₃ =
          let n : length xs₃ ≡ length xs₂ = length-put xs₂ 10019 ws (omega (arith, numbers₂, g.room.numbers-are)) in
          let m : length bs₃ ≡ length bs₂ = length-put bs₂ 20480 vs (omega (arith, bytes₂, g.room.bytes-are)) in
          wf_same (drop 9376 xs₂) (drop 16384 bs₂) (drop 9376 xs₃) (drop 16384 bs₃) numbers_same bytes_same b.lists.wf (rw (length-drop 9376 xs₃, length-drop 9376 xs₂, n)) (rw (length-drop 16384 bs₃, length-drop 16384 bs₂, m))

      pub waiting-grown : RestBecomes (merged_rest (context_of ys cs) (waiting_of ws vs) (rest_at xs bs)) xs bs xs₃ bs₃
      waiting-grown =
          record {
            rest-is = rest-is;
            front = take_put 9376 xs₂ 10019 ws (omega arith) (omega (arith, numbers₂)) ∙ b.front ∙ a.front;
            front_bytes = take_put 16384 bs₂ 20480 vs (omega arith) (omega (arith, bytes₂)) ∙ b.front_bytes ∙ a.front_bytes;
            rest = wf₃;
            waiting =
                rw (room-numbers, room-bytes)
                (record { room = g.room; fits = both_right (leb (listed_both + length finished) 64 && leb cleaned_both 64) (waiting_fits (waiting_of ws vs)) all-fit });
          }

-- ---- what waits after the merge

pub accepted-waiting : (xs bs ys cs ws vs ws' vs' : List ℕ) (r : ByCause (Unit {0})) → ws ≡ waiting_numbers xs → vs ≡ waiting_bytes bs → PartsTaken (waiting_after (waiting_of (take 3490 (drop 10019 ys)) (take 8192 (drop 20480 cs))) (waiting_of ws vs)) r ws' vs' → PartsTaken (waiting_after (context_of ys cs).waiting (context_of xs bs).waiting) r ws' vs'
accepted-waiting xs bs ys cs ws vs ws' vs' r e f t =
    rw (context-waits xs bs, context-waits ys cs)
    (rw (part-is 10019 3490 ys, part-is 20480 8192 cs, e, f) at t)
