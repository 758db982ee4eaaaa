-- A finished atomic group on an area: its items, its span, and the part that is taken out. Assumes nothing.
use Rattle.std.specs.Prelude.{true, false, List, [], ◌∷◌, map, ℕ, suc, ◌+◌, ◌<◌, length}
use Rattle.std.proofs.Common.{true≢false, ◌∙◌, length-append}
use Rattle.std.specs.Prelude.{Option, Some}
use Rattle.std.proofs.Math.Path.{◌≡◌, refl, sym, ap}
use native.Mathlib.Omega.{arith}
use Rattle.std.proofs.lemmas.List.{length-map}
use Rattle.maps.specs.OrderLaws.{split}
use Rattle.maps.specs.Lists.{select}
use Rattle.rules.specs.Causes.{Cause, Err, Result, Ok, and_then, left}
use Rattle.rules.specs.Items.{LogItem, Placed, placed_at, placed_from, is_mark, replay_rewrite}
use Rattle.rules.specs.Table.{Span}
use Rattle.rules.specs.Context.{Context, fits, limited, run}
use Rattle.rules.specs.Waiting.{set_span, finish_group}
use Rattle.rules_by_group.proofs.ResultLaws.{and_then_of, and_then_same_at, in_order-append}
use Rattle.room.specs.Batches.{unmarked, counts_for}
use Rattle.contexts.specs.Contexts.{context_of, answer_as, Formed, RoomKept}
use Rattle.contexts.specs.AreaLaws.{room-then, room_all, context-fits}
use Rattle.batches.specs.Runs.{Going, WentBack}
use Rattle.batches.specs.BatchLaws.{going_on}
use Rattle.writes.specs.WaitsLaws.{plain, run_fits, run-plain}
use Rattle.writes.specs.Finishes.{stored_from, run_stored, Ran, HasAny, Ended, AnsweredKept, both_items, finish_stored, both_run}
use Rattle.writes.specs.StoredLaws.{back-then, stored_same}

-- ---- the items

-- the batch's own items but the mark, without their places
pub plain-items : (i : ℕ) (its : List LogItem) → map (λ (x : Placed). x.item) (plain (placed_from i its)) ≡ unmarked its
unfolding placed_from unmarked select
plain-items i [] = refl
plain-items i (x ∷ xs) =
    split (is_mark x)
    (λ y. rw y (plain-items (suc i) xs))
    (λ n. rw n (ap (λ (l : List LogItem). x ∷ l) (plain-items (suc i) xs)))

pub both-length : (at tag : ℕ) (its : List LogItem) (xs bs : List ℕ) → length (both_items at tag its xs bs) ≡ length (stored_from tag 0 xs bs) + length (unmarked its)
unfolding placed_at
both-length at tag its xs bs =
    let f : LogItem → Placed = λ x. record { item = x; place = Some at } in
    length-append (placed_at (Some at) (stored_from tag 0 xs bs)) (plain (placed_from 0 its))
    ∙ rw (length-map (stored_from tag 0 xs bs) f, ← plain-items 0 its, length-map (plain (placed_from 0 its)) (λ (x : Placed). x.item))

nil-length : {A : Type 0} (l : List A) → length l ≡ 0 → l ≡ []
nil-length [] e = refl
nil-length (x ∷ l) e = absurd (omega arith)

pub some-length : {A : Type 0} (l : List A) → HasAny true l → 0 < length l
some-length [] h = absurd (h.any refl refl)
some-length (x ∷ l) h = omega arith

pub none-length : {A : Type 0} (l : List A) → HasAny false l → length l ≡ 0
none-length l h = ap length (h.none refl)

pub any_by : {A : Type 0} (l : List A) → 0 < length l → HasAny true l
any_by l p = record { none = λ f. absurd (true≢false f); any = λ t e. not-nil l p e }
  where
    not-nil : {A : Type 0} (l : List A) → 0 < length l → l ≡ [] → ⊥
    not-nil l p e = let z : length l ≡ 0 = ap length e in omega arith

pub none_by : {A : Type 0} (l : List A) → length l ≡ 0 → HasAny false l
none_by l e = record { none = λ f. nil-length l e; any = λ t. absurd (true≢false (sym t)) }

module _ (at tag : ℕ) (its : List LogItem) (xs bs : List ℕ) where
  pub any-stored : HasAny true (stored_from tag 0 xs bs) → HasAny true (both_items at tag its xs bs)
  any-stored a =
      let p = some-length (stored_from tag 0 xs bs) a in
      let l = both-length at tag its xs bs in
      any_by (both_items at tag its xs bs) (omega arith)

  module _ (a : HasAny false (stored_from tag 0 xs bs)) (n : ℕ) (e : n ≡ (counts_for (unmarked its)).items) where
    own-length : length (both_items at tag its xs bs) ≡ n
    unfolding counts_for
    own-length =
        let z = none-length (stored_from tag 0 xs bs) a in
        let l = both-length at tag its xs bs in
        omega arith

    pub any-own : (n ≡ 0 → ⊥) → HasAny true (both_items at tag its xs bs)
    any-own z = any_by (both_items at tag its xs bs) (rw own-length (above n z))
      where
        above : (n : ℕ) → (n ≡ 0 → ⊥) → 0 < n
        above n z = omega arith

    pub none-own : n ≡ 0 → HasAny false (both_items at tag its xs bs)
    none-own z = none_by (both_items at tag its xs bs) (own-length ∙ z)

-- ---- both runs and the span

finish_any : (p : Option ℕ) (g : ℕ) (s : Span) (l : List Placed) (c : Context) → (l ≡ [] → ⊥) → finish_group limited p g s l c ≡ and_then (run limited replay_rewrite l c) (set_span limited p g s)
unfolding finish_group
finish_any p g s [] c n = absurd (n refl)
finish_any p g s (x ∷ l) c n = refl

module _ (at tag g : ℕ) (s : Span) (its : List LogItem) (xs bs : List ℕ) where
  abbrev owns : Context → Result Context
  owns = run limited replay_rewrite (placed_from 0 its)

  both_runs : (c : Context) → fits c ≡ true → run limited replay_rewrite (both_items at tag its xs bs) c ≡ and_then (run_stored tag 0 xs bs (Some at) c) owns
  unfolding run run_stored
  both_runs c h =
      in_order-append _ (placed_at (Some at) (stored_from tag 0 xs bs)) (plain (placed_from 0 its)) c
      ∙ and_then_same_at (run_stored tag 0 xs bs (Some at) c) _ _ (λ d e. run-plain replay_rewrite (placed_from 0 its) d (run_fits replay_rewrite (placed_at (Some at) (stored_from tag 0 xs bs)) c d h e))

  pub finish-runs : (c : Context) → fits c ≡ true → HasAny true (both_items at tag its xs bs) → finish_stored at tag g s its xs bs c ≡ both_run at tag g s its xs bs c
  unfolding finish_stored both_run
  finish-runs c h a =
      finish_any (Some at) g s (both_items at tag its xs bs) c (λ e. a.any refl e)
      ∙ ap (λ (r : Result Context). and_then r (set_span limited (Some at) g s)) (both_runs c h)

  pub finish-none : (c : Context) → HasAny false (both_items at tag its xs bs) → finish_stored at tag g s its xs bs c ≡ Ok c
  unfolding finish_stored finish_group
  finish-none c a = rw (a.none refl)

  pub both_same : (ys ds : List ℕ) → RoomKept xs bs ys ds → (c : Context) → both_run at tag g s its ys ds c ≡ both_run at tag g s its xs bs c
  unfolding both_run run_stored
  both_same ys ds k c = rw (stored_same tag 0 xs bs ys ds k)

  -- a refusal among the items that waited
  pub both_stored : (n : Cause) (p : Option ℕ) (ys ds : List ℕ) → Ran (run_stored tag 0 xs bs (Some at)) xs bs (Err (record { cause = n; place = p })) ys ds → Ended (both_run at tag g s its xs bs) xs bs (Err (record { cause = n; place = p })) ys ds
  unfolding both_run answer_as and_then
  both_stored n p ys ds r =
      record { answers = rw (← r.answers); back = λ k q e. r.back; room = r.back.room; formed = r.formed }

  module _ (ys ds : List ℕ) (r : Ran (run_stored tag 0 xs bs (Some at)) xs bs (Ok tt) ys ds) where
    -- a refusal among the batch's own
    pub both_own : (n : Cause) (p : Option ℕ) (zs es : List ℕ) → Ran owns ys ds (Err (record { cause = n; place = p })) zs es → Ended (both_run at tag g s its xs bs) xs bs (Err (record { cause = n; place = p })) zs es
    unfolding both_run answer_as and_then
    both_own n p zs es o =
        record {
          answers = rw (← r.answers) (rw (← o.answers));
          back = λ k q e. back-then xs bs ys ds zs es r.back o.back;
          room = room-then xs bs ys ds zs es r.back.room o.back.room;
          formed = o.formed;
        }

    pub both_span : (zs es : List ℕ) → Ran owns ys ds (Ok tt) zs es → (a : Result (Unit {0})) (us fs : List ℕ) → Ended (set_span limited (Some at) g s) zs es a us fs → Ended (both_run at tag g s its xs bs) xs bs a us fs
    unfolding both_run answer_as
    both_span zs es o a us fs f =
        record {
          answers = f.answers ∙ spans r.answers o.answers;
          back = λ k q e. back-then xs bs ys ds us fs r.back (back-then ys ds zs es us fs o.back (f.back k q e));
          room = room-then xs bs ys ds us fs r.back.room (room-then ys ds zs es us fs o.back.room f.room);
          formed = f.formed;
        }
      where
        spans : Ok (context_of ys ds) ≡ run_stored tag 0 xs bs (Some at) (context_of xs bs) → Ok (context_of zs es) ≡ owns (context_of ys ds) → set_span limited (Some at) g s (context_of zs es) ≡ and_then (and_then (run_stored tag 0 xs bs (Some at) (context_of xs bs)) owns) (set_span limited (Some at) g s)
        spans p q =
            sym (and_then_of _ (set_span limited (Some at) g s) (context_of zs es) (and_then_of _ owns (context_of ys ds) (sym p) ∙ sym q))

  -- ---- the whole

  abbrev finishes : Context → Result Context
  finishes = finish_stored at tag g s its xs bs

  pub ends-none : Formed xs bs → HasAny false (both_items at tag its xs bs) → AnsweredKept finishes xs bs (Ok tt) xs bs
  unfolding answer_as left
  ends-none w a =
      let e = finish-none (context_of xs bs) a in
      record {
        answered = record { answers = sym e; leaves = sym (ap (left (context_of xs bs)) e); formed = w };
        room = λ q. room_all xs bs;
      }

  -- a batch that began at ys
  module _ (w : Formed xs bs) (a : HasAny true (both_items at tag its xs bs)) (ys : List ℕ) (k : RoomKept xs bs ys bs) (e : context_of ys bs ≡ context_of xs bs) where
    ends_so : both_run at tag g s its ys bs (context_of ys bs) ≡ finishes (context_of xs bs)
    ends_so = both_same ys bs k (context_of ys bs) ∙ ap (both_run at tag g s its xs bs) e ∙ sym (finish-runs (context_of xs bs) (context-fits xs bs w) a)

    pub ends-done : (zs es : List ℕ) → Ended (both_run at tag g s its ys bs) ys bs (Ok tt) zs es → AnsweredKept finishes xs bs (Ok tt) zs es
    unfolding answer_as left
    ends-done zs es f =
        let r = f.answers ∙ ends_so in
        record {
          answered = record { answers = r; leaves = ap (left (context_of xs bs)) r; formed = f.formed };
          room = λ q. room-then xs bs ys bs zs es k f.room;
        }

    pub ends_back : (t m : ℕ) → Going t m (context_of xs bs) ys bs → (n : Cause) (p : Option ℕ) (zs es : List ℕ) → Ended (both_run at tag g s its ys bs) ys bs (Err (record { cause = n; place = p })) zs es → Going t m (context_of xs bs) zs es
    ends_back t m go n p zs es f = going_on t m (context_of xs bs) ys bs zs es go (f.back n p refl)

    pub ends-refused : (t m : ℕ) → Going t m (context_of xs bs) ys bs → (n : Cause) (p : Option ℕ) (zs es : List ℕ) → Ended (both_run at tag g s its ys bs) ys bs (Err (record { cause = n; place = p })) zs es → (us fs : List ℕ) → WentBack t m zs es us fs → AnsweredKept finishes xs bs (Err (record { cause = n; place = p })) us fs
    unfolding answer_as left
    ends-refused t m go n p zs es f us fs b =
        let r = f.answers ∙ ends_so in
        record {
          answered =
              record {
                answers = r;
                leaves = b.context-is ∙ (ends_back t m go n p zs es f).back ∙ ap (left (context_of xs bs)) r;
                formed = b.formed;
              };
          room = λ q. absurd (not-accepted q);
        }
      where
        not-accepted : {n : Cause} {p : (Option ℕ)} → ◌≡◌ {A = Result (Unit {0})} (Err (record { cause = n; place = p })) (Ok tt) → ⊥
        not-accepted e = let z : ◌≡◌ {A = ℕ} 0 1 = cc in omega arith
