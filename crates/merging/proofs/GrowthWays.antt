-- The lists of an accepted merge: the newer ones behind the older ones, in the lists and in an area. Assumes nothing.
use mathlib.Core.Bool.{true, ◌&&◌}
use mathlib.Core.Logic.{◌⊎◌, ⊎_elim}
use mathlib.Core.List.{List, [], ◌++◌, append-nil}
use mathlib.Core.Path.{◌≡◌, refl, sym, ap, ◌∙◌}
use Prim.Native.Nat.{ℕ, ◌+◌, ◌-◌, ◌≤◌}
use native.Mathlib.Omega.{arith}
use lib.Dec.{leb}
use lib.ListN.{length, get_or, take, drop, length-drop}
use borrow.Author.Tests.{leb-true}
use borrow.Author.Rules.{part_to_end}
use borrow.Rule.Slice.PartMut.{put_mid}
use Rattle.maps.specs.BoolLaws.{both_left, both_right}
use Rattle.maps.specs.Maps.{Map}
use Rattle.rules.specs.Context.{Part, Context, with_groups, with_tombstones, with_cleaned, with_waiting}
use Rattle.rules_by_group.specs.Stage.{finished_tombs, merged_rest}
use Rattle.lists.specs.Rest.{tombstones_in, cleaned_in, rest_of, Wf}
use Rattle.lists.specs.Calls.{TombstonesAdded, AllCleanedAdded}
use Rattle.lists.specs.Laws.{lengths, behind-then}
use Rattle.room.specs.Layout.{waiting_of, ContextRoom}
use Rattle.contexts.specs.Contexts.{waiting_numbers, waiting_bytes, rest_at, context_of, RoomKept}
use Rattle.contexts.specs.AreaLaws.{before_back, behind_back, lists-room, room-waiting, room_wf}
use Rattle.worktable.specs.declared.Mode.{Mode}
use Rattle.worktable.specs.declared.Mode.TheVariants as mode
use Rattle.staging.specs.Modes.{rest_by, counts_fit, counts_of}
use Rattle.merging.specs.Growth.{ListsBecome, merged_lists, Mergeable, Grown, Growable, RestBecomes}

-- ---- the lists

module _ (ys cs ks ds ys' cs' : List ℕ) (w : Wf ys cs) (a : TombstonesAdded (tombstones_in ks ds) ys cs ys' cs') where
  -- the cleaned numbers stay while tombstones are added
  cleaned_same : cleaned_in ys' ≡ cleaned_in ys
  unfolding rest_of with_tombstones
  cleaned_same = ap (λ (c : Context). c.cleaned) a.rest

  cleaned-count : get_or ys' 2 0 ≡ get_or ys 2 0
  cleaned-count =
      sym (lengths ys' cs' a.wf).1 ∙ ap (λ (l : List ℕ). length l) cleaned_same ∙ (lengths ys cs w).1

  pub cleaned-still : get_or ys 2 0 + get_or ks 2 0 ≤ 64 → get_or ys' 2 0 + get_or ks 2 0 ≤ 64
  cleaned-still h = rw cleaned-count h

  pub merged-lists : (ys'' : List ℕ) → AllCleanedAdded (cleaned_in ks) ys' cs' ys'' → ListsBecome (merged_lists ys cs ks ds) ys cs ys'' cs'
  unfolding merged_lists
  merged-lists ys'' b =
      record {
        rest = b.rest ∙ rw (cleaned_same, a.rest);
        behind = behind-then ys cs ys' cs' ys'' cs' a.behind b.behind;
        wf = b.wf;
      }

-- ---- the area

-- where nothing waits in the newer context, no tombstones come from what finishes
merged-plain : (newer c : Context) (w : Map ℕ (List Part)) → newer.waiting ≡ [] → merged_rest newer w c ≡ with_waiting w (with_cleaned (c.cleaned ++ newer.cleaned) (with_tombstones (c.tombstones ++ newer.tombstones) (with_groups [] c)))
unfolding merged_rest finished_tombs with_waiting with_cleaned with_tombstones with_groups
merged-plain newer c w e = rw (e, append-nil (c.tombstones ++ newer.tombstones))

-- an area has its lengths
module _ (xs bs : List ℕ) (w : Wf (drop 9376 xs) (drop 16384 bs)) where
  pub grown-before : 9376 ≤ length xs
  grown-before = omega (arith, w.numbers-are, length-drop 9376 xs)

  pub join-numbers : length xs ≡ 17231
  join-numbers = omega (arith, w.numbers-are, length-drop 9376 xs)

  pub grown-bytes-before : 16384 ≤ length bs
  grown-bytes-before = omega (arith, w.bytes-are, length-drop 16384 bs)

  pub grown-bytes : length bs ≡ 38912
  grown-bytes = omega (arith, w.bytes-are, length-drop 16384 bs)

  -- what comes back of the lists, as they are lent
  pub lent-grown : (r : Context) (s t : List ℕ) → ListsBecome r (drop 9376 xs) (drop 16384 bs) s t → Grown r xs bs (put_mid 9376 (length xs - 9376) xs s) (put_mid 16384 (length bs - 16384) bs t)
  lent-grown r s t b =
      record {
        lists = rw (behind_back 9376 xs s grown-before, behind_back 16384 bs t grown-bytes-before) b;
        front = before_back 9376 xs s grown-before;
        front_bytes = before_back 16384 bs t grown-bytes-before;
      }

-- the room is as it was
module _ (r : Context) (xs bs xs' bs' : List ℕ) (g : Grown r xs bs xs' bs') where
  pub grown-room : RoomKept xs bs xs' bs'
  grown-room = lists-room xs bs xs' bs' g.lists.behind

  rest_with : rest_at xs' bs' ≡ with_waiting (waiting_of (waiting_numbers xs) (waiting_bytes bs)) r
  unfolding rest_at
  rest_with = rw (room-waiting xs bs xs' bs' grown-room, g.lists.rest)

module _ (xs bs ys cs : List ℕ) (g : Mergeable xs bs ys cs) where
  -- what is asked of the lists, as they are lent
  pub lent-lists : Wf (take (length xs - 9376) (drop 9376 xs)) (take (length bs - 16384) (drop 16384 bs)) × (Wf (take (length ys - 9376) (drop 9376 ys)) (take (length cs - 16384) (drop 16384 cs)) × ((get_or (take (length xs - 9376) (drop 9376 xs)) 1 0 + get_or (take (length ys - 9376) (drop 9376 ys)) 1 0 ≤ 64) × (get_or (take (length xs - 9376) (drop 9376 xs)) 2 0 + get_or (take (length ys - 9376) (drop 9376 ys)) 2 0 ≤ 64)))
  unfolding counts_of
  lent-lists =
      rw (part_to_end xs 9376, part_to_end bs 16384, part_to_end ys 9376, part_to_end cs 16384)
      (g.rest, (g.newer-rest, (g.tombstones-fit, g.cleaned-fit)))

  pub lists-grown : (s t : List ℕ) → ListsBecome (merged_lists (take (length xs - 9376) (drop 9376 xs)) (take (length bs - 16384) (drop 16384 bs)) (take (length ys - 9376) (drop 9376 ys)) (take (length cs - 16384) (drop 16384 cs))) (take (length xs - 9376) (drop 9376 xs)) (take (length bs - 16384) (drop 16384 bs)) s t → Grown (merged_lists (drop 9376 xs) (drop 16384 bs) (drop 9376 ys) (drop 16384 cs)) xs bs (put_mid 9376 (length xs - 9376) xs s) (put_mid 16384 (length bs - 16384) bs t)
  lists-grown s t b =
      lent-grown xs bs g.rest _ s t
      (rw (part_to_end xs 9376, part_to_end bs 16384, part_to_end ys 9376, part_to_end cs 16384) at b)

-- the lists of an area and of a newer one
module _ (xs bs ys cs : List ℕ) where
  with-lists : (w : Map ℕ (List Part)) → with_waiting w (merged_lists (drop 9376 xs) (drop 16384 bs) (drop 9376 ys) (drop 16384 cs)) ≡ with_waiting w (with_cleaned ((rest_at xs bs).cleaned ++ (context_of ys cs).cleaned) (with_tombstones ((rest_at xs bs).tombstones ++ (context_of ys cs).tombstones) (with_groups [] (rest_at xs bs))))
  unfolding merged_lists rest_at context_of rest_of with_waiting with_cleaned with_tombstones with_groups
  with-lists w = refl

  rest-waits : waiting_of (waiting_numbers xs) (waiting_bytes bs) ≡ (rest_at xs bs).waiting
  unfolding rest_at with_waiting
  rest-waits = refl

  pub merged-grown : (xs' bs' : List ℕ) → ContextRoom (waiting_numbers xs) (waiting_bytes bs) → (context_of ys cs).waiting ≡ [] → Grown (merged_lists (drop 9376 xs) (drop 16384 bs) (drop 9376 ys) (drop 16384 cs)) xs bs xs' bs' → RestBecomes (merged_rest (context_of ys cs) (rest_at xs bs).waiting (rest_at xs bs)) xs bs xs' bs'
  merged-grown xs' bs' w n g =
      record {
        rest-is = rest_with _ xs bs xs' bs' g ∙ rw rest-waits (with-lists (rest_at xs bs).waiting) ∙ sym (merged-plain (context_of ys cs) (rest_at xs bs) (rest_at xs bs).waiting n);
        front = g.front;
        front_bytes = g.front_bytes;
        rest = g.lists.wf;
        waiting = room_wf xs bs xs' bs' (grown-room _ xs bs xs' bs' g) w;
      }

-- ---- the modes

fit-counts : (t n : ℕ) → (leb t 64 && leb n 64) ≡ true → (t ≤ 64) × (n ≤ 64)
fit-counts t n e = (leb-true t 64 (both_left (leb t 64) (leb n 64) e), leb-true n 64 (both_right (leb t 64) (leb n 64) e))

plain_mergeable : (m : Mode) (xs bs ys cs : List ℕ) → Growable m xs bs ys cs → (leb ((counts_of xs).tombstones + (counts_of ys).tombstones) 64 && leb ((counts_of xs).cleaned + (counts_of ys).cleaned) 64) ≡ true → Mergeable xs bs ys cs
plain_mergeable m xs bs ys cs g e =
    let few = fit-counts ((counts_of xs).tombstones + (counts_of ys).tombstones) ((counts_of xs).cleaned + (counts_of ys).cleaned) e in
    record { rest = g.rest; newer-rest = g.newer-rest; tombstones-fit = few.0; cleaned-fit = few.1 }

module _ (m : Mode) (xs bs ys cs : List ℕ) (g : Growable m xs bs ys cs) where
  pub merge_mergeable : (m ≡ mode.Append) ⊎ (m ≡ mode.Rewrite) → Mergeable xs bs ys cs
  unfolding counts_fit
  merge_mergeable = ⊎_elim (λ e. plain_mergeable m xs bs ys cs g (rw e at g.fit)) (λ e. plain_mergeable m xs bs ys cs g (rw e at g.fit))

  pub join_growable : m ≡ mode.Join → Growable mode.Join xs bs ys cs
  join_growable e = rw (← e) g

  module _ (xs' bs' : List ℕ) (b : Grown (merged_lists (drop 9376 xs) (drop 16384 bs) (drop 9376 ys) (drop 16384 cs)) xs bs xs' bs') where
    pub merge-grown : (m ≡ mode.Append) ⊎ (m ≡ mode.Rewrite) → RestBecomes (rest_by m (context_of ys cs) (rest_at xs bs)) xs bs xs' bs'
    unfolding rest_by
    merge-grown = ⊎_elim (λ e. rw e (merged-grown xs bs ys cs xs' bs' g.waiting g.none-waits b)) (λ e. rw e (merged-grown xs bs ys cs xs' bs' g.waiting g.none-waits b))
