-- The span of a finished atomic group on an area: the group is made if it is absent, and then its span is set. Assumes nothing.
use Rattle.std.specs.Prelude.{Bool, cond, ◌&&◌, List, refl, ℕ, leb, length}
use Rattle.std.proofs.Math.Bool.{true, false}
use Rattle.std.specs.Prelude.{Option, None, Some}
use Rattle.std.proofs.Math.Path.{◌≡◌, sym, ap}
use Rattle.std.proofs.Common.{◌∙◌}
use native.Mathlib.Omega.{arith}
use Rattle.maps.specs.BoolLaws.{clash}
use Rattle.maps.specs.OrderLaws.{split, numbers_lawful}
use Rattle.maps.specs.Lists.{or_else}
use Rattle.maps.specs.Maps.{Map, lookup, insert, numbers}
use Rattle.maps.specs.MapLaws.{Ascending, lookup-insert_same, insert-again, insert-insert, length-insert-none, length-insert-some}
use Rattle.rules.specs.Limits.{max_groups}
use Rattle.rules.specs.Causes.{Cause, Refusal, Result, Ok, Err, refuse_at, and_then, LimitPassed}
use Rattle.rules.specs.Table.{Span, Table, empty_table, made, spanned, span_goes_back, with_span}
use Rattle.rules.specs.Context.{Context, with_groups, table_fits, fits, limited}
use Rattle.rules.specs.Waiting.{set_span}
use Rattle.rules_by_group.proofs.ResultLaws.{ok_inj, refused_not_ok, by_option}
use Rattle.groups.specs.Area.{groups_of}
use Rattle.groups.specs.Area as groups
use Rattle.groups.specs.Calls.{on_group}
use Rattle.groups.specs.Laws.{groups-ascend}
use Rattle.contexts.specs.Contexts.{context_of, answer_as, Formed}
use Rattle.contexts.specs.AreaLaws.{room_wf, context-fits}
use Rattle.batches.specs.Steps.{groups_fit, groups-fit, fits-groups, fits-inserted, limited_by}
use Rattle.batches.specs.Acts.{BehindKept, Acted}
use Rattle.batches.specs.RunLaws.{lists_stay, room-stays, rest_wf, behind-context}
use Rattle.writes.specs.Finishes.{Ended, SpannedGroup}

-- ---- the rules

-- a group that is made keeps its table
abbrev pub making : Table → Result Table
making t = Ok t

module _ (g : ℕ) (s : Span) (p : Option ℕ) (c : Context) (h : fits c ≡ true) (asc : Ascending numbers c.groups) where
  abbrev m : Map ℕ Table
  m = c.groups

  abbrev was : Table
  was = made (lookup numbers g m)

  -- whether the groups fit with a table for g
  abbrev with-fits : Table → Bool
  with-fits t = table_fits t && leb (length (insert numbers g t m)) max_groups

  same_length : (t u : Table) → length (insert numbers g t m) ≡ length (insert numbers g u m)
  same_length t u =
      by_option (lookup numbers g m)
      (λ e. length-insert-none numbers numbers_lawful g t m e ∙ sym (length-insert-none numbers numbers_lawful g u m e))
      (λ b e. length-insert-some numbers numbers_lawful g t b m e asc ∙ sym (length-insert-some numbers numbers_lawful g u b m e asc))

  spanned-fits : with-fits (with_span (Some s) was) ≡ with-fits was
  unfolding table_fits with_span
  spanned-fits = rw (same_length (with_span (Some s) was) was)

  -- where the group is there, there is a place for it
  held_fits : (t : Table) → lookup numbers g m ≡ Some t → with-fits t ≡ true
  held_fits t e =
      sym (fits-inserted g t m (groups-fit c h)) ∙ ap groups_fit (insert-again numbers numbers_lawful g t m e asc) ∙ groups-fit c h

  -- where there is no place for the group, it is absent
  absent : with-fits was ≡ false → was ≡ empty_table
  unfolding made or_else
  absent f =
      by_option (lookup numbers g m)
      (λ e. rw e)
      (λ t e. absurd (clash (sym (rw e at f) ∙ held_fits t e)))

  -- the span is set, and the limits judge
  spans_to : span_goes_back was.span s ≡ false → set_span limited p g s c ≡ cond (with-fits was) (Ok (with_groups (insert numbers g (with_span (Some s) was) m) c)) (refuse_at LimitPassed p)
  unfolding set_span spanned and_then
  spans_to b =
      rw b
      (limited_by p (with_groups (insert numbers g (with_span (Some s) was) m) c) (with-fits was)
      (fits-groups (insert numbers g (with_span (Some s) was) m) c h ∙ fits-inserted g (with_span (Some s) was) m (groups-fit c h) ∙ spanned-fits))

  not_made : (x : Refusal) → Err x ≡ on_group making g m → (with-fits was ≡ false) × (x ≡ record { cause = LimitPassed; place = None })
  unfolding on_group and_then
  not_made x e =
      split (with-fits was)
      (λ y. absurd (refused_not_ok (rw y at e)))
      (λ n. (n, same-refusal (rw n at e)))
    where
      same-refusal : {A : Type 0} {x y : Refusal} → ◌≡◌ {A = Result A} (Err x) (Err y) → x ≡ y
      same-refusal e = cc

  -- the group can't be made
  pub span-full : (n : Cause) → Err (record { cause = n; place = None }) ≡ on_group making g m → Err (record { cause = n; place = p }) ≡ set_span limited p g s c
  span-full n e =
      let r = not_made (record { cause = n; place = None }) e in
      sym (spans_to (rw (absent r.0) (unfold empty_table span_goes_back in refl)) ∙ rw r.0 (ap (λ (x : Refusal). Err (record { cause = x.cause; place = p })) (sym r.1)))

  -- it is made, and its span is set
  module _ (o : Map ℕ Table) (e : Ok o ≡ on_group making g m) where
    made_so : (with-fits was ≡ true) × (o ≡ insert numbers g was m)
    unfolding on_group and_then
    made_so = split (with-fits was) (λ y. (y, ok_inj (rw y at e))) (λ n. absurd (refused_not_ok (sym (rw n at e))))

    held-so : made (lookup numbers g o) ≡ was
    unfolding made or_else
    held-so = rw (made_so.1, lookup-insert_same numbers numbers_lawful g was m)

    pub held_at : lookup numbers g o ≡ Some was
    held_at = rw made_so.1 (lookup-insert_same numbers numbers_lawful g was m)

    again-so : (t : Table) → insert numbers g t o ≡ insert numbers g t m
    again-so t = rw made_so.1 (insert-insert numbers numbers_lawful g t was m asc)

    span_by : (b : Bool) → span_goes_back was.span s ≡ b → set_span limited p g s c ≡ and_then (on_group (spanned s) g o) (λ q. Ok (with_groups q c))
    unfolding set_span on_group spanned and_then
    span_by true b = rw (held-so, b)
    span_by false b = spans_to b ∙ rw (held-so, b, again-so (with_span (Some s) was), spanned-fits, made_so.0)

    pub span-made : set_span limited p g s c ≡ and_then (on_group (spanned s) g o) (λ q. Ok (with_groups q c))
    span-made = span_by (span_goes_back was.span s) refl

-- ---- on an area

module _ (g at : ℕ) (s : Span) (xs bs : List ℕ) (w : Formed xs bs) (ys ds : List ℕ) where
  ascends : Ascending numbers (context_of xs bs).groups
  unfolding context_of with_groups
  ascends = groups-ascend xs bs

  -- the area after a change of its groups alone
  changed-formed : BehindKept xs bs ys ds → groups.Wf ys ds → Formed ys ds
  changed-formed b v =
      record { groups = v; rest = rest_wf xs bs ys ds b w.rest; waiting = room_wf xs bs ys ds (room-stays xs bs ys ds b) w.waiting }

  pub ended-full : (n : Cause) → Acted (on_group making g) false xs bs (Err n) ys ds → Ended (set_span limited (Some at) g s) xs bs (Err (record { cause = n; place = Some at })) ys ds
  unfolding context_of with_groups answer_as
  ended-full n a =
      record {
        answers = span-full g s (Some at) (context_of xs bs) (context-fits xs bs w) ascends n a.rule;
        back = λ k q e. record { undo = a.left-undo n refl; lists-keep = lists_stay xs bs ys ds a.behind; room = room-stays xs bs ys ds a.behind };
        room = room-stays xs bs ys ds a.behind;
        formed = changed-formed a.behind a.wf;
      }

  module _ (a : Acted (on_group making g) false xs bs (Ok tt) ys ds) where
    span-is : set_span limited (Some at) g s (context_of xs bs) ≡ and_then (on_group (spanned s) g (groups_of ys ds)) (λ q. Ok (with_groups q (context_of xs bs)))
    unfolding context_of with_groups
    span-is = span-made g s (Some at) (context_of xs bs) (context-fits xs bs w) ascends (groups_of ys ds) a.rule

    pub held_now : lookup numbers g (groups_of ys ds) ≡ Some (made (lookup numbers g (context_of xs bs).groups))
    unfolding context_of with_groups
    held_now = held_at g s (Some at) (context_of xs bs) (context-fits xs bs w) ascends (groups_of ys ds) a.rule

    pub ended_back : (n : Cause) (zs : List ℕ) → SpannedGroup g s ys ds (Err n) zs → Ended (set_span limited (Some at) g s) xs bs (Err (record { cause = n; place = None })) zs ds
    unfolding answer_as and_then
    ended_back n zs r =
        rw (r.left n refl)
        (record {
          answers = sym (span-is ∙ rw (← r.rule));
          back = λ k q e. record { undo = a.kept refl; lists-keep = lists_stay xs bs ys ds a.behind; room = room-stays xs bs ys ds a.behind };
          room = room-stays xs bs ys ds a.behind;
          formed = changed-formed a.behind a.wf;
        })

    pub ended-done : (zs : List ℕ) → SpannedGroup g s ys ds (Ok tt) zs → Ended (set_span limited (Some at) g s) xs bs (Ok tt) zs ds
    unfolding answer_as and_then
    ended-done zs r =
        let b : BehindKept xs bs zs ds = record { numbers = r.behind ∙ a.behind.numbers; bytes = a.behind.bytes } in
        record {
          answers = ap Ok (behind-context xs bs zs ds b) ∙ sym (span-is ∙ rw (← r.rule));
          back = λ k q e. absurd (not-refused e);
          room = room-stays xs bs zs ds b;
          formed = record { groups = r.wf; rest = rest_wf xs bs zs ds b w.rest; waiting = room_wf xs bs zs ds (room-stays xs bs zs ds b) w.waiting };
        }
      where
        not-refused : {k : Cause} {q : _} → ◌≡◌ {A = Result (Unit {0})} (Ok tt) (Err (record { cause = k; place = q })) → ⊥
        not-refused e = let z : ◌≡◌ {A = ℕ} 0 1 = cc in omega arith
