-- A fresh context: the stretches are freed one by one, and the room of waiting parts and the lists cleared. Assumes nothing.
use mathlib.Core.List.{List, []}
use mathlib.Core.Path.{◌≡◌, sym, ap, ◌∙◌}
use Prim.Native.Nat.{ℕ, ◌-◌, ◌*◌, ◌≤◌, ◌<◌}
use native.Mathlib.Omega.{arith}
use lib.ListN.{length, get_or, take, drop, length-drop}
use lib.Seq.{get_or-take}
use borrow.Author.Rules.{part_to_end}
use borrow.Rule.Slice.PartMut.{put_mid}
use Rattle.cells.specs.Part.{part, put}
use Rattle.cells.specs.PartLaws.{length_part, length-put, get_or-put-before, part-put_same, loan-put}
use Rattle.maps.specs.Maps.{Map}
use Rattle.rules.specs.Items.{LogQueue}
use Rattle.rules.specs.Table.{Table}
use Rattle.rules.specs.Context.{Part, with_groups, with_waiting}
use Rattle.rules.specs.Context as rules
use Rattle.rules_by_group.proofs.KeptLaws.{fresh_kept}
use Rattle.groups.specs.Area.{groups_of}
use Rattle.groups.specs.AreaLaws.{front_fits}
use Rattle.groups.specs.Laws.{fresh}
use Rattle.lists.specs.Rest.{rest_of}
use Rattle.lists.specs.Calls.{Becomes}
use Rattle.room.specs.Layout.{context_cells, waiting_of, Empty}
use Rattle.contexts.specs.Contexts.{rest_at, context_of, Cleared, FreshArea}
use Rattle.contexts.specs.AreaLaws.{before_back, behind_back, lists-room, none-wait}

module _ (q : LogQueue) (xs ys bs v s : List ℕ) (n : length xs ≡ 17231) (m : length bs ≡ 38912) (c : Cleared 8 xs ys)
    (r : (vs : List ℕ) → length vs ≡ 8192 → Empty context_cells v vs)
    (f : (cs : List ℕ) → length cs ≡ 22528 → Becomes (rules.fresh q) (take (length (put_mid 10019 3490 ys v) - 9376) (drop 9376 (put_mid 10019 3490 ys v))) cs s) where
  -- the area with its room cleared, and with its lists cleared then
  abbrev us : List ℕ
  us = put_mid 10019 3490 ys v

  abbrev zs : List ℕ
  zs = put_mid 9376 (length us - 9376) us s

  length_vs : length (part 20480 8192 bs) ≡ 8192
  length_vs = length_part 20480 8192 bs (omega arith)

  length_v : length v ≡ 3490
  length_v = (r (part 20480 8192 bs) length_vs).wf.numbers-are

  us-is : us ≡ put ys 10019 v
  us-is = loan-put 10019 3490 ys v length_v

  length_us : length us ≡ 17231
  length_us = let l = length_v in rw us-is (length-put ys 10019 v (omega (arith, c.length-is)) ∙ c.length-is ∙ n)

  numbers_fit : 9376 ≤ length us
  numbers_fit = omega (arith, length_us)

  lists-are : Becomes (rules.fresh q) (drop 9376 us) (drop 16384 bs) (drop 9376 zs)
  lists-are = rw (behind_back 9376 us s numbers_fit) (rw (part_to_end us 9376) at (f (drop 16384 bs) (simp length-drop (omega arith))))

  front-is : (i : ℕ) → i < 9376 → get_or zs i 0 ≡ get_or ys i 0
  front-is i l =
      sym (get_or-take 9376 zs i 0 l)
      ∙ ap (λ (r : List ℕ). get_or r i 0) (before_back 9376 us s numbers_fit)
      ∙ get_or-take 9376 us i 0 l
      ∙ rw us-is (get_or-put-before ys 10019 v i 0 (omega arith) (omega (arith, c.length-is)))

  fits-still : 9376 ≤ length zs
  fits-still = front_fits 9376 us zs (sym (before_back 9376 us s numbers_fit)) numbers_fit

  -- the room is the one that was cleared
  room-is : part 10019 3490 zs ≡ v
  room-is =
      (lists-room us bs zs bs lists-are.behind).numbers
      ∙ rw us-is (part-put_same 3490 ys 10019 v length_v (omega (arith, c.length-is)))

  room_empty : Empty context_cells (part 10019 3490 zs) (part 20480 8192 bs)
  room_empty = rw room-is (r (part 20480 8192 bs) length_vs)

  none-waits : waiting_of (part 10019 3490 zs) (part 20480 8192 bs) ≡ []
  unfolding waiting_of
  none-waits = room_empty.waiting

  rest-is : rest_at zs bs ≡ rules.fresh q
  unfolding rest_at with_waiting rules.fresh
  rest-is =
      ap (λ (w : Map ℕ (List Part)). with_waiting w (rest_of (drop 9376 zs) (drop 16384 bs))) none-waits
      ∙ ap (with_waiting []) lists-are.rest

  fresh-context : groups_of zs bs ≡ [] → context_of zs bs ≡ rules.fresh q
  unfolding context_of with_groups rules.fresh
  fresh-context g =
      ap (λ (r : Map ℕ Table). with_groups r (rest_at zs bs)) g
      ∙ ap (with_groups []) rest-is

  pub fresh-area : FreshArea q zs bs
  fresh-area =
      let g = fresh zs bs fits-still (omega arith) (λ k l. front-is (k * 586) (omega arith) ∙ c.free k l) in
      let e = fresh-context g.1 in
      record {
        context-is = e;
        wf = record { groups = g.0; rest = lists-are.wf; waiting = none-wait _ _ room_empty; kept = rw e (fresh_kept q) };
      }
