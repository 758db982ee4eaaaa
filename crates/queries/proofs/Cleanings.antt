-- Each way through `take_cleaned_region_logs`: a context, a list that is too short, and the numbers handed out. Assumes nothing.
use mathlib.Core.List.{List, []}
use mathlib.Core.Path.{◌≡◌, refl, sym, ap, ◌∙◌}
use Prim.Native.Nat.{ℕ, ◌-◌, ◌≤◌, ◌<◌}
use native.Mathlib.Nat.{zero-add}
use native.Mathlib.Omega.{arith}
use lib.Dec.{leb}
use lib.ListN.{length, get_or, take, drop}
use borrow.Author.Tests.{le-leb, lt-leb}
use borrow.Rule.Slice.PartMut.{put_mid}
use Rattle.cells.specs.Part.{put}
use Rattle.cells.specs.PartLaws.{length_part, same-around}
use Rattle.maps.specs.OrderLaws.{split}
use Rattle.rules.specs.Causes.{by_cause, WrongKind, ListTooShort, ByCause, Refusal, Ok, Err, refuse, and_then}
use Rattle.rules.specs.Items.{LogQueue}
use Rattle.rules.specs.Context.{Context, is_index, with_groups, with_waiting, with_cleaned}
use Rattle.rules.specs.Queries.{answered, lent_after, take_cleaned, after_taking}
use Rattle.rules_by_group.proofs.KeptLaws.{taking-kept}
use Rattle.groups.specs.Laws.{front-groups, front_wf}
use Rattle.lists.specs.declared.Kind.{Kind}
use Rattle.lists.specs.declared.Kind.TheVariants as kind
use Rattle.lists.specs.Rest.{kind_of, cleaned_in, rest_of}
use Rattle.lists.specs.Rest as lists
use Rattle.lists.specs.Calls.{kind_as, Becomes}
use Rattle.contexts.specs.Contexts.{context_of, rest_at, Wf}
use Rattle.contexts.specs.AreaLaws.{before_back, behind_back, lists-room, room_wf, room-waiting}
use Rattle.queries.specs.Cleaned.{CleanedTaken, EmptiedBy, HandedOut}

-- ---- the lists behind the groups

module _ (ys lent : List ℕ) (l : length ys ≡ 7855) (m : get_or ys 2 0 ≤ 64) where
  length-cleaned : length (cleaned_in ys) ≡ get_or ys 2 0
  unfolding cleaned_in
  length-cleaned = length_part 3 (get_or ys 2 0) ys (omega arith)

  pub no_room : (n : ℕ) → n ≡ get_or ys 2 0 → length lent < n → HandedOut ys lent (Err ListTooShort) ys lent
  unfolding answered and_then lent_after EmptiedBy
  no_room n e h =
      let t = lt-leb (length (cleaned_in ys)) (length lent) (omega (arith, length-cleaned)) in
      record { number = rw t; list-is = rw t; emptied = λ cs w. refl }

  pub handed : (n : ℕ) (ys' lent' : List ℕ) → n ≡ get_or ys 2 0 → n ≤ length lent → lent' ≡ put lent 0 (cleaned_in ys) → ((cs : List ℕ) → lists.Wf ys cs → Becomes (with_cleaned [] (rest_of ys cs)) ys cs ys') → HandedOut ys lent (Ok n) ys' lent'
  unfolding answered and_then lent_after EmptiedBy put
  handed n ys' lent' e h g b =
      let t = le-leb (length (cleaned_in ys)) (length lent) (omega (arith, length-cleaned)) in
      record {
        number = rw t (ap Ok (e ∙ sym length-cleaned));
        list-is = rw t (g ∙ rw (zero-add (length (cleaned_in ys))));
        emptied = b;
      }

-- ---- what the rules say

not-ok : {A : Type 0} {z : Refusal} {a : A} → Err z ≡ Ok a → ⊥
not-ok e = let z : ◌≡◌ {A = ℕ} 0 1 = cc in omega arith

module _ (lent cl : List ℕ) (c : Context) where
  after_ok : (n : ℕ) → Ok n ≡ and_then (answered lent (Ok cl)) (λ rows. Ok (length rows)) → after_taking (answered lent (Ok cl)) c ≡ with_cleaned [] c
  unfolding answered and_then after_taking
  after_ok n e = split (leb (length cl) (length lent)) (λ t. rw t) (λ t. absurd (not-ok (sym (rw t at e))))

  after-refused : (z : Refusal) → Err z ≡ and_then (answered lent (Ok cl)) (λ rows. Ok (length rows)) → after_taking (answered lent (Ok cl)) c ≡ c
  unfolding answered and_then after_taking
  after-refused z e = split (leb (length cl) (length lent)) (λ t. absurd (not-ok (rw t at e))) (λ t. rw t)

module _ (xs bs lent : List ℕ) where
  context-kind : (context_of xs bs).kind ≡ kind_of (get_or (drop 9376 xs) 0 0)
  unfolding context_of rest_at with_groups with_waiting rest_of
  context-kind = refl

  context-cleaned : (context_of xs bs).cleaned ≡ cleaned_in (drop 9376 xs)
  unfolding context_of rest_at with_groups with_waiting rest_of
  context-cleaned = refl

  module _ (k : Kind) (e : kind_as k ≡ kind_of (get_or (drop 9376 xs) 0 0)) where
    taking_wrong : (q : LogQueue) → k ≡ kind.Context q → take_cleaned lent (context_of xs bs) ≡ refuse WrongKind
    unfolding take_cleaned is_index kind_as
    taking_wrong q d = rw (context-kind, ← e, d)

    taking-right : k ≡ kind.Index → take_cleaned lent (context_of xs bs) ≡ answered lent (Ok (cleaned_in (drop 9376 xs)))
    unfolding take_cleaned is_index kind_as
    taking-right d = rw (context-kind, ← e, d, context-cleaned)

    -- ---- a context

    pub wrong-taken : Wf xs bs → (q : LogQueue) → k ≡ kind.Context q → CleanedTaken xs bs lent (Err WrongKind) xs lent
    unfolding and_then lent_after after_taking
    wrong-taken w q d =
        let t = taking_wrong q d in
        record { number = rw t; list-is = rw t; context-is = rw t; wf = w }

  -- ---- the area, where the lists behind the groups become ys'

  module _ (ys' : List ℕ) (w : Wf xs bs) where
    abbrev xs' : List ℕ
    xs' = put_mid 9376 (length xs - 9376) xs ys'

    front : take 9376 xs' ≡ take 9376 xs
    front = before_back 9376 xs ys' w.groups.numbers_fit

    behind : drop 9376 xs' ≡ ys'
    behind = behind_back 9376 xs ys' w.groups.numbers_fit

    same_area : ys' ≡ drop 9376 xs → xs' ≡ xs
    same_area e = same-around 9376 xs' xs front (behind ∙ e)

    module _ (b : Becomes (with_cleaned [] (rest_of (drop 9376 xs) (drop 16384 bs))) (drop 9376 xs) (drop 16384 bs) ys') where
      rest-is : rest_of (drop 9376 xs') (drop 16384 bs) ≡ with_cleaned [] (rest_of (drop 9376 xs) (drop 16384 bs))
      rest-is = rw behind b.rest

      context-emptied : context_of xs' bs ≡ with_cleaned [] (context_of xs bs)
      unfolding context_of rest_at
      context-emptied =
          rw (← front-groups xs bs xs' bs (sym front) refl, room-waiting xs bs xs' bs (lists-room xs bs xs' bs (rw behind b.behind)), rest-is)
          (unfold with_groups with_waiting with_cleaned in refl)

      emptied_wf : (lent' : List ℕ) → context_of xs' bs ≡ after_taking (take_cleaned lent' (context_of xs bs)) (context_of xs bs) → Wf xs' bs
      emptied_wf lent' e =
          record {
            groups = front_wf xs bs xs' bs (sym front) refl w.groups;
            rest = rw behind b.wf;
            waiting = room_wf xs bs xs' bs (lists-room xs bs xs' bs (rw behind b.behind)) w.waiting;
            kept = rw e (taking-kept lent' (context_of xs bs) w.kept);
          }

    -- ---- the index

    module _ (k : Kind) (e : kind_as k ≡ kind_of (get_or (drop 9376 xs) 0 0)) (d : k ≡ kind.Index) where
      left-taken : (r : ByCause ℕ) (lent' : List ℕ) (z : Refusal) → by_cause r ≡ Err z → HandedOut (drop 9376 xs) lent r ys' lent' → ys' ≡ drop 9376 xs → CleanedTaken xs bs lent r xs' lent'
      left-taken r lent' z f h s =
          let t = taking-right k e d in
          rw (same_area s)
          (record {
            number = rw t h.number;
            list-is = rw t h.list-is;
            context-is = rw t (sym (after-refused lent (cleaned_in (drop 9376 xs)) (context_of xs bs) z (sym f ∙ h.number)));
            wf = w;
          })

      pub taken : (r : ByCause ℕ) (lent' : List ℕ) → HandedOut (drop 9376 xs) lent r ys' lent' → CleanedTaken xs bs lent r xs' lent'
      unfolding EmptiedBy
      taken (Ok n) lent' h =
          let t = taking-right k e d in
          let b = h.emptied (drop 16384 bs) w.rest in
          let f : context_of xs' bs ≡ after_taking (take_cleaned lent (context_of xs bs)) (context_of xs bs) =
          rw t (context-emptied b ∙ sym (after_ok lent (cleaned_in (drop 9376 xs)) (context_of xs bs) n h.number)) in
          record { number = rw t h.number; list-is = rw t h.list-is; context-is = f; wf = emptied_wf b lent f }
      taken (Err e) lent' h = left-taken (Err e) lent' _ refl h (h.emptied (drop 16384 bs) w.rest)
