-- The ways through the end of a merge or join, and the call as a whole. Assumes nothing.
use mathlib.Core.Bool.{true, false, ◌&&◌, or-true}
use mathlib.Core.List.{List}
use mathlib.Core.Path.{◌≡◌, refl, sym, ap, ◌∙◌}
use Prim.Native.Nat.{ℕ, ◌+◌, ◌-◌, ◌≤◌, ◌<◌}
use native.Mathlib.Omega.{arith}
use lib.ListN.{length, get_or, take, drop}
use borrow.Author.Rules.{part_to_end}
use Rattle.maps.specs.BoolLaws.{clash, both_left, both_right}
use Rattle.rules.specs.Causes.{Cause, Result, Ok, refuse, WrongKind, LimitPassed, left}
use Rattle.rules.specs.Items.{LogQueue, Append, Rewrite, same_queue}
use Rattle.rules.specs.Context.{Kind, context, index, is_context, Context, with_groups, with_waiting}
use Rattle.rules.specs.Calls.{merge, join, both}
use Rattle.rules_by_group.specs.Stage.{rest_fits, merged_rest, joined_rest}
use Rattle.rules_by_group.specs.Stage as staging
use Rattle.rules_by_group.proofs.KindLaws.{append-waits}
use Rattle.rules_by_group.proofs.ResultLaws.{refused_not_ok}
use Rattle.groups.specs.Area.{slots, numbers_in_use, bytes_in_use, groups_of}
use Rattle.groups.specs.Area as groups
use Rattle.groups.specs.Laws.{front-groups, front_wf}
use Rattle.groups.specs.Undo.{live_numbers, live_bytes, Undone}
use Rattle.lists.specs.Rest.{kind_of}
use Rattle.lists.specs.Laws.{rest-kind}
use Rattle.room.specs.Layout.{waiting_of, RoomWf}
use Rattle.contexts.specs.Contexts.{rest_at, context_of, RoomKept, Wf, answer_as, Answered, Called}
use Rattle.contexts.specs.AreaLaws.{formed_of, area-length, area-bytes, behind-room, room-waiting, room_wf, answered-called}
use Rattle.worktable.specs.declared.Mode.{Mode}
use Rattle.worktable.specs.declared.Mode.TheVariants as mode
use Rattle.staging.specs.declared.Flags.{Flags}
use Rattle.staging.specs.Staging.{no_flags, staged_in, Ready, Beside, Staging, Begun, Sealed}
use Rattle.staging.specs.StagingLaws.{begun-staged, begun-ready, begun-beside, sealed-beside, sealed-groups}
use Rattle.staging.specs.Modes.{older_kind, newer_kind, rest_by, call_by, group_by, counts_fit, counts_of, Given, Plain, Worked, number_at, firsts}
use Rattle.staging.specs.ModeLaws.{beside-context, beside_wf, beside-given, call_kept, answered-clashed, answered-passed, answered_ok}
use Rattle.merging.specs.Growth.{Growable, Waitable, RestBecomes, Taken}
use Rattle.staging.specs.CoverLaws.{places-cover}
use Rattle.merging.proofs.EndWays.{merged_by_lem}

-- ---- the staged groups become the groups

context_with : (xs bs : List ℕ) → context_of xs bs ≡ with_groups (groups_of xs bs) (rest_at xs bs)
unfolding context_of
context_with xs bs = refl

-- the rest does not depend on the groups
rest_by_lem : (m : Mode) (newer : Context) (xs bs : List ℕ) → rest_by m newer (rest_at xs bs) ≡ rest_by m newer (context_of xs bs)
unfolding context_of with_groups rest_by merged_rest joined_rest
rest_by_lem mode.Append newer xs bs = refl
rest_by_lem mode.Rewrite newer xs bs = refl
rest_by_lem mode.Join newer xs bs = refl

module _ (xs bs xs₁ : List ℕ) (w : Wf xs bs) (r : Ready xs bs) (s : Sealed slots xs xs₁) where
  pub sealed_wf : groups.Wf xs₁ bs
  sealed_wf = (beside_wf (sealed-beside xs bs xs₁ r s) w).groups

  module _ (xs₂ bs₂ : List ℕ) (u : Undone xs₁ bs xs₂ bs₂) where
    numbers_stay : drop numbers_in_use xs₂ ≡ drop numbers_in_use xs
    numbers_stay = u.behind ∙ s.behind

    room-stays : RoomKept xs bs xs₂ bs₂
    room-stays = behind-room xs bs xs₂ bs₂ numbers_stay u.behind-bytes

    rest-stays : rest_at xs₂ bs₂ ≡ rest_at xs bs
    unfolding rest_at
    rest-stays = rw (room-waiting xs bs xs₂ bs₂ room-stays, numbers_stay, u.behind-bytes)

    module _ (m : Mode) (ys cs : List ℕ) where
      pub undone_growable : Plain m xs bs ys cs → counts_fit m (counts_of xs) (counts_of ys) ≡ true → Growable m xs₂ bs₂ ys cs
      unfolding counts_of
      undone_growable g e =
          record {
            rest = rw (numbers_stay, u.behind-bytes) w.rest;
            waiting = room_wf xs bs xs₂ bs₂ room-stays w.waiting;
            newer-rest = g.given.newer-wf.rest;
            none-waits = g.none-waits;
            fit = rw numbers_stay e;
          }

      pub undone-rest : rest_by m (context_of ys cs) (rest_at xs₂ bs₂) ≡ rest_by m (context_of ys cs) (context_of xs bs)
      undone-rest = ap (rest_by m (context_of ys cs)) rest-stays ∙ rest_by_lem m (context_of ys cs) xs bs

    module _ (ys cs ws vs : List ℕ) where
      pub undone-merged : merged_rest (context_of ys cs) (waiting_of ws vs) (rest_at xs₂ bs₂) ≡ merged_rest (context_of ys cs) (waiting_of ws vs) (context_of xs bs)
      undone-merged = ap (merged_rest (context_of ys cs) (waiting_of ws vs)) rest-stays ∙ merged_by_lem (context_of ys cs) (waiting_of ws vs) xs bs

      pub undone_waitable : Wf ys cs → RoomWf 16 ws vs → rest_fits (merged_rest (context_of ys cs) (waiting_of ws vs) (context_of xs bs)) ≡ true → Waitable xs₂ bs₂ ys cs ws vs
      undone_waitable v q e =
          record {
            rest = rw (numbers_stay, u.behind-bytes) w.rest;
            waiting = room_wf xs bs xs₂ bs₂ room-stays w.waiting;
            newer-rest = v.rest;
            newer-waiting = v.waiting;
            room = q;
            fit = ap rest_fits undone-merged ∙ e;
          }

    module _ (d : Context) (xs₃ bs₃ : List ℕ) (b : RestBecomes d xs₂ bs₂ xs₃ bs₃) where
      groups-are : groups_of xs₃ bs₃ ≡ groups_of (drop live_numbers xs) (drop live_bytes bs)
      groups-are = front-groups xs₃ bs₃ xs₂ bs₂ b.front b.front_bytes ∙ sealed-groups xs bs xs₁ r s xs₂ bs₂ u

      pub staged-taken : (e : Context) → d ≡ e → Taken e xs bs xs₃ bs₃
      staged-taken e i =
          record {
            context-is = context_with xs₃ bs₃ ∙ rw (groups-are, b.rest-is, i);
            formed =
                record {
                  groups = front_wf xs₂ bs₂ xs₃ bs₃ (sym b.front) (sym b.front_bytes) u.wf;
                  rest = b.rest;
                  waiting = b.waiting;
                };
          }

-- ---- the answer

-- a refusal leaves all as it was
pub refused_with : (call : Context → Result Context) (x : Cause) (xs bs : List ℕ) → Wf xs bs → call (context_of xs bs) ≡ refuse x → Answered call xs bs (refuse x) xs bs
unfolding left answer_as
refused_with call x xs bs w h =
    record {
      answers = sym h;
      leaves = sym (ap (left (context_of xs bs)) h);
      formed = formed_of xs bs w;
    }

module _ (call : Context → Result Context) (x : Cause) (d : Context) (f : Flags) (xs bs : List ℕ) (w : Wf xs bs) (a : call (context_of xs bs) ≡ staging.answer x d (staged_in f xs bs)) where
  pub finish-clashed : f.clashed ≡ true → Answered call xs bs (refuse x) xs bs
  finish-clashed c = refused_with call x xs bs w (answered-clashed x d f xs bs _ a c)

  module _ (c : f.clashed ≡ false) where
    pub finish-passed : f.passed ≡ true → Answered call xs bs (refuse LimitPassed) xs bs
    finish-passed p = refused_with call LimitPassed xs bs w (answered-passed x d f xs bs _ a c (rw p))

    pub finish-over : rest_fits d ≡ false → Answered call xs bs (refuse LimitPassed) xs bs
    finish-over n = refused_with call LimitPassed xs bs w (answered-passed x d f xs bs _ a c (rw n (or-true f.passed)))

    pub finish-taken : f.passed ≡ false → rest_fits d ≡ true → (xs' bs' : List ℕ) → Taken d xs bs xs' bs' → Answered call xs bs (Ok tt) xs' bs'
    unfolding left answer_as
    finish-taken p n xs' bs' t =
        let h = answered_ok x d f xs bs _ a c p n in
        record {
          answers = ap Ok t.context-is ∙ sym h;
          leaves = t.context-is ∙ sym (ap (left (context_of xs bs)) h);
          formed = t.formed;
        }

-- ---- the call as a whole

module _ (m : Mode) (xs bs ys cs xs₁ : List ℕ) (g : Given m xs bs ys cs) (b : Begun slots xs xs₁) where
  long : live_numbers + numbers_in_use ≤ length xs
  long = omega (arith, area-length xs bs (formed_of xs bs g.wf))

  long-bytes : live_bytes + bytes_in_use ≤ length bs
  long-bytes = omega (arith, area-bytes xs bs (formed_of xs bs g.wf))

  beside : Beside xs bs xs₁ bs
  beside = begun-beside xs bs xs₁ long long-bytes b

  pub begun-given : Given m xs₁ bs ys cs
  begun-given = beside-given m xs bs xs₁ bs ys cs beside g

  pub begun-is-ready : Ready xs₁ bs
  begun-is-ready = begun-ready xs bs xs₁ long long-bytes b

  module _ (f : Flags) (xs₂ bs₂ : List ℕ) (s : Staging (group_by m (context_of ys cs) (context_of xs₁ bs)) (firsts (number_at xs₁ ys) 96) no_flags xs₁ bs f xs₂ bs₂) where
    pub staged-given : Given m xs₂ bs₂ ys cs
    staged-given = beside-given m xs₁ bs xs₂ bs₂ ys cs s.beside begun-given

    context-stays : context_of xs₂ bs₂ ≡ context_of xs₁ bs
    context-stays = beside-context s.beside begun-given.wf

    pub staged_worked : Worked m f xs₂ bs₂ ys cs
    staged_worked =
        record {
          numbers = firsts (number_at xs₁ ys) 96;
          cover = rw context-stays (places-cover xs₁ bs ys cs g.newer-wf);
          staged = s.staged ∙ rw (context-stays, begun-staged xs bs xs₁ long long-bytes b);
        }

    pub carried-out : (r : Result (Unit {0})) (xs' bs' : List ℕ) → Answered (call_by m (context_of ys cs)) xs₂ bs₂ r xs' bs' → Called (call_by m (context_of ys cs)) xs bs r xs' bs'
    carried-out r xs' bs' a =
        let e : context_of xs₂ bs₂ ≡ context_of xs bs = context-stays ∙ beside-context beside g.wf in
        answered-called (call_by m (context_of ys cs)) xs bs r xs' bs' g.wf
        (λ d k. call_kept m (context_of ys cs) (context_of xs bs) d g.newer-wf.kept g.wf.kept k)
        (record { answers = rw e at a.answers; leaves = rw e at a.leaves; formed = a.formed })

-- ---- two contexts of a queue

module _ (xs bs ys cs : List ℕ) where
  append-plain : Wf xs bs → Wf ys cs → (context_of xs bs).kind ≡ context Append → (context_of ys cs).kind ≡ context Append → Plain mode.Append xs bs ys cs
  unfolding older_kind newer_kind
  append-plain w v k l =
      record { given = record { wf = w; newer-wf = v; kind = k; newer-kind = l }; none-waits = append-waits (context_of ys cs) v.kept l }

  pub append_called : (r : Result (Unit {0})) (xs' bs' : List ℕ) → Called (call_by mode.Append (context_of ys cs)) xs bs r xs' bs' → Called (merge (context_of ys cs)) xs bs r xs' bs'
  unfolding call_by
  append_called r xs' bs' c = c

  pub rewrite_called : (r : Result (Unit {0})) (xs' bs' : List ℕ) → Called (call_by mode.Rewrite (context_of ys cs)) xs bs r xs' bs' → Called (merge (context_of ys cs)) xs bs r xs' bs'
  unfolding call_by
  rewrite_called r xs' bs' c = c

-- ---- the kinds

-- a context of a queue, by the test of its kind
context_of_lem : (q : LogQueue) (k : Kind) → is_context q k ≡ true → k ≡ context q
unfolding is_context same_queue
context_of_lem Append (context Append) e = refl
context_of_lem Append (context Rewrite) e = absurd (clash e)
context_of_lem Rewrite (context Append) e = absurd (clash e)
context_of_lem Rewrite (context Rewrite) e = refl
context_of_lem q index e = absurd (clash e)

-- the kind, as it is read
kind-is : (xs bs : List ℕ) (k : Kind) → k ≡ kind_of (get_or (take (length xs - 9376) (drop 9376 xs)) 0 0) → (context_of xs bs).kind ≡ k
unfolding context_of rest_at with_groups with_waiting
kind-is xs bs k e = rest-kind (drop 9376 xs) (drop 16384 bs) ∙ sym (rw (part_to_end xs 9376) at e)

-- a call on the wrong kind is refused, and leaves all as it was
wrong-called : (call : Context → Result Context) (xs bs : List ℕ) → Wf xs bs → call (context_of xs bs) ≡ refuse WrongKind → Called call xs bs (refuse WrongKind) xs bs
wrong-called call xs bs w h =
    answered-called call xs bs (refuse WrongKind) xs bs w
    (λ d k. absurd (refused_not_ok (sym h ∙ k)))
    (refused_with call WrongKind xs bs w h)

module _ (xs bs ys cs : List ℕ) (o n : Kind) (p : o ≡ kind_of (get_or (take (length xs - 9376) (drop 9376 xs)) 0 0)) (q : n ≡ kind_of (get_or (take (length ys - 9376) (drop 9376 ys)) 0 0)) where
  -- the kinds, by the tests of both
  kinds-are : (first second : LogQueue) → (is_context second n && is_context first o) ≡ true → ((context_of xs bs).kind ≡ context first) × ((context_of ys cs).kind ≡ context second)
  kinds-are first second e =
      (kind-is xs bs o p ∙ context_of_lem first o (both_right (is_context second n) (is_context first o) e), kind-is ys cs n q ∙ context_of_lem second n (both_left (is_context second n) (is_context first o) e))

  pub join_wrong : Wf xs bs → (is_context Append n && is_context Rewrite o) ≡ false → Called (join (context_of ys cs)) xs bs (refuse WrongKind) xs bs
  join_wrong w e = wrong-called (join (context_of ys cs)) xs bs w (unfold join in rw (kind-is xs bs o p, kind-is ys cs n q, e))

  pub merge_wrong : Wf xs bs → (is_context Append n && is_context Append o) ≡ false → (is_context Rewrite n && is_context Rewrite o) ≡ false → Called (merge (context_of ys cs)) xs bs (refuse WrongKind) xs bs
  merge_wrong w e f = wrong-called (merge (context_of ys cs)) xs bs w (unfold merge both in rw (kind-is xs bs o p, kind-is ys cs n q, e, f))

  module _ (w : Wf xs bs) (v : Wf ys cs) where
    pub join-plain : (is_context Append n && is_context Rewrite o) ≡ true → Plain mode.Join xs bs ys cs
    unfolding older_kind newer_kind
    join-plain e =
        let k = kinds-are Rewrite Append e in
        record { given = record { wf = w; newer-wf = v; kind = k.0; newer-kind = k.1 }; none-waits = append-waits (context_of ys cs) v.kept k.1 }

    pub merge-plain : (is_context Append n && is_context Append o) ≡ true → Plain mode.Append xs bs ys cs
    merge-plain e = let k = kinds-are Append Append e in append-plain xs bs ys cs w v k.0 k.1

    pub merge-given : (is_context Rewrite n && is_context Rewrite o) ≡ true → Given mode.Rewrite xs bs ys cs
    unfolding older_kind newer_kind
    merge-given e = let k = kinds-are Rewrite Rewrite e in record { wf = w; newer-wf = v; kind = k.0; newer-kind = k.1 }

pub join_called : (xs bs ys cs : List ℕ) (r : Result (Unit {0})) (xs' bs' : List ℕ) → Called (call_by mode.Join (context_of ys cs)) xs bs r xs' bs' → Called (join (context_of ys cs)) xs bs r xs' bs'
unfolding call_by
join_called xs bs ys cs r xs' bs' c = c

-- the numbers behind the groups begin with the kind
pub kind_there : (xs bs : List ℕ) → Wf xs bs → 0 < length (take (length xs - 9376) (drop 9376 xs))
kind_there xs bs w = rw (part_to_end xs 9376) (omega (arith, w.rest.numbers-are))
