-- The lists and the waiting parts of an accepted join. Assumes nothing.
use mathlib.Core.List.{List, []}
use mathlib.Core.Path.{◌≡◌, refl, sym, ap, ◌∙◌}
use Prim.Native.Nat.{ℕ, ◌+◌, ◌-◌, ◌≤◌}
use native.Mathlib.Omega.{arith}
use lib.ListN.{length, get_or, take, drop, replicate, length-drop, length-replicate}
use lib.Seq.{get_or-drop}
use borrow.Author.Tests.{leb-true}
use borrow.Author.Rules.{part_to_end}
use borrow.Rule.Slice.PartMut.{put_mid}
use Rattle.cells.specs.Part.{part, put}
use Rattle.cells.specs.PartLaws.{length_part, length-put, get_or-put-before, part-drop, part-put-before, part-put_same, take_put, loan-put}
use Rattle.rules.specs.Context.{Context, with_groups, with_cleaned, with_waiting}
use Rattle.rules.specs.Calls.{index_of}
use Rattle.rules_by_group.specs.Stage.{joined_rest}
use Rattle.lists.specs.Rest.{cleaned_in, rest_of, Wf}
use Rattle.lists.specs.Calls.{Becomes, AllCleanedAdded}
use Rattle.lists.specs.Laws.{behind-then}
use Rattle.lists.specs.SameLaws.{rest_same, wf_same}
use Rattle.room.specs.Layout.{context_cells, waiting_of, Empty}
use Rattle.contexts.specs.Contexts.{rest_at, context_of}
use Rattle.contexts.specs.AreaLaws.{before_back, behind_back, lists-room, none-wait}
use Rattle.worktable.specs.declared.Mode.{Mode}
use Rattle.worktable.specs.declared.Mode.TheVariants as mode
use Rattle.staging.specs.Modes.{rest_by, counts_fit, counts_of}
use Rattle.merging.specs.Growth.{ListsBecome, joined_lists, Growable, RestBecomes}

-- ---- the lists

pub lists_joined : (ys cs ks ys' ys'' : List ℕ) → AllCleanedAdded (cleaned_in ks) ys cs ys' → Becomes (index_of [] (rest_of ys' cs)) ys' cs ys'' → ListsBecome (joined_lists ys cs ks) ys cs ys'' cs
unfolding joined_lists
lists_joined ys cs ks ys' ys'' a b =
    record {
      rest = b.rest ∙ rw a.rest;
      behind = behind-then ys cs ys' cs ys'' cs a.behind b.behind;
      wf = b.wf;
    }

-- ---- the area

-- the numbers of cleaned numbers fit
pub cleaned-few : (xs bs ys cs : List ℕ) → Growable mode.Join xs bs ys cs → get_or (drop 9376 xs) 2 0 + get_or (drop 9376 ys) 2 0 ≤ 64
unfolding counts_fit counts_of
cleaned-few xs bs ys cs g = leb-true (get_or (drop 9376 xs) 2 0 + get_or (drop 9376 ys) 2 0) 64 g.fit

-- a room that is cleared has its length
pub room-length : (v : List ℕ) → ((vs : List ℕ) → length vs ≡ 8192 → Empty context_cells v vs) → length v ≡ 3490
room-length v r = (r (replicate 8192 0) (length-replicate {A = ℕ} 8192 0)).wf.numbers-are

module _ (xs ys v : List ℕ) (n : length xs ≡ 17231) (k : length ys ≡ 17231) (l : length v ≡ 3490) where
  -- the area with its room cleared
  abbrev us : List ℕ
  us = put_mid 10019 3490 xs v

  us-is : us ≡ put xs 10019 v
  us-is = loan-put 10019 3490 xs v l

  length_us : length us ≡ 17231
  length_us = rw us-is (length-put xs 10019 v (omega arith) ∙ n)

  lists_same : part 0 643 (drop 9376 us) ≡ part 0 643 (drop 9376 xs)
  lists_same =
      part-drop 0 643 9376 us
      ∙ rw us-is (part-put-before 9376 643 xs 10019 v (omega arith) (omega arith))
      ∙ sym (part-drop 0 643 9376 xs)

  count_same : get_or (drop 9376 us) 2 0 ≡ get_or (drop 9376 xs) 2 0
  count_same =
      get_or-drop 9376 us 2 0
      ∙ rw us-is (get_or-put-before xs 10019 v 9378 0 (omega arith) (omega arith))
      ∙ sym (get_or-drop 9376 xs 2 0)

  -- what is asked of the lists, as they are lent
  pub lent_join : get_or (drop 9376 xs) 2 0 + get_or (drop 9376 ys) 2 0 ≤ 64 → ((length (take (length us - 9376) (drop 9376 us)) ≡ 7855) × (length (take (length ys - 9376) (drop 9376 ys)) ≡ 7855)) × (get_or (take (length us - 9376) (drop 9376 us)) 2 0 + get_or (take (length ys - 9376) (drop 9376 ys)) 2 0 ≤ 64)
  lent_join h =
      let p : length (drop 9376 us) ≡ 7855 = omega (arith, length-drop 9376 us, length_us) in
      let q : length (drop 9376 ys) ≡ 7855 = omega (arith, length-drop 9376 ys, k) in
      rw (part_to_end us 9376, part_to_end ys 9376, count_same) ((p, q), h)

  module _ (s bs cs : List ℕ) (g : Growable mode.Join xs bs ys cs) (r : (vs : List ℕ) → length vs ≡ 8192 → Empty context_cells v vs)
      (f : (ds : List ℕ) → Wf (take (length us - 9376) (drop 9376 us)) ds → ListsBecome (joined_lists (take (length us - 9376) (drop 9376 us)) ds (take (length ys - 9376) (drop 9376 ys))) (take (length us - 9376) (drop 9376 us)) ds s ds) where
    abbrev zs : List ℕ
    zs = put_mid 9376 (length us - 9376) us s

    fits : 9376 ≤ length us
    fits = omega (arith, length_us)

    us_wf : Wf (drop 9376 us) (drop 16384 bs)
    us_wf =
        let p : length (drop 9376 us) ≡ length (drop 9376 xs) = omega (arith, length-drop 9376 us, length_us, length-drop 9376 xs, n) in
        wf_same (drop 9376 xs) (drop 16384 bs) (drop 9376 us) (drop 16384 bs) lists_same refl g.rest p refl

    us-rest : rest_of (drop 9376 us) (drop 16384 bs) ≡ rest_of (drop 9376 xs) (drop 16384 bs)
    us-rest = rest_same (drop 9376 xs) (drop 16384 bs) (drop 9376 us) (drop 16384 bs) lists_same refl g.rest

    us-cleaned : cleaned_in (drop 9376 us) ≡ cleaned_in (drop 9376 xs)
    unfolding rest_of
    us-cleaned = ap (λ (c : Context). c.cleaned) us-rest

    lists-are : ListsBecome (joined_lists (drop 9376 us) (drop 16384 bs) (drop 9376 ys)) (drop 9376 us) (drop 16384 bs) (drop 9376 zs) (drop 16384 bs)
    lists-are =
        rw (behind_back 9376 us s fits)
        (rw (part_to_end us 9376, part_to_end ys 9376) at (f (drop 16384 bs) (rw (part_to_end us 9376) us_wf)))

    -- the room is the one that was cleared
    room-is : part 10019 3490 zs ≡ v
    room-is = (lists-room us bs zs bs lists-are.behind).numbers ∙ rw us-is (part-put_same 3490 xs 10019 v l (omega arith))

    length_vs : length (part 20480 8192 bs) ≡ 8192
    length_vs = length_part 20480 8192 bs (omega (arith, g.rest.bytes-are, length-drop 16384 bs))

    room_empty : Empty context_cells (part 10019 3490 zs) (part 20480 8192 bs)
    room_empty = rw room-is (r (part 20480 8192 bs) length_vs)

    none-waits : waiting_of (part 10019 3490 zs) (part 20480 8192 bs) ≡ []
    unfolding waiting_of
    none-waits = room_empty.waiting

    joined_same : joined_lists (drop 9376 us) (drop 16384 bs) (drop 9376 ys) ≡ joined_lists (drop 9376 xs) (drop 16384 bs) (drop 9376 ys)
    unfolding joined_lists
    joined_same = rw (us-cleaned, us-rest)

    rest_with : rest_at zs bs ≡ with_waiting [] (joined_lists (drop 9376 xs) (drop 16384 bs) (drop 9376 ys))
    unfolding rest_at
    rest_with = rw (none-waits, lists-are.rest, joined_same)

    with-lists : with_waiting [] (joined_lists (drop 9376 xs) (drop 16384 bs) (drop 9376 ys)) ≡ joined_rest (context_of ys cs) (rest_at xs bs)
    unfolding joined_lists joined_rest index_of rest_at context_of rest_of with_waiting with_cleaned with_groups
    with-lists = refl

    pub joined-grown : RestBecomes (joined_rest (context_of ys cs) (rest_at xs bs)) xs bs zs bs
    joined-grown =
        record {
          rest-is = rest_with ∙ with-lists;
          front = before_back 9376 us s fits ∙ rw us-is (take_put 9376 xs 10019 v (omega arith) (omega arith));
          front_bytes = refl;
          rest = lists-are.wf;
          waiting = none-wait _ _ room_empty;
        }

pub join-grown : (m : Mode) (newer c : Context) (xs bs xs' bs' : List ℕ) → m ≡ mode.Join → RestBecomes (joined_rest newer c) xs bs xs' bs' → RestBecomes (rest_by m newer c) xs bs xs' bs'
unfolding rest_by
join-grown m newer c xs bs xs' bs' e r = rw e r
