-- Groups staged one after the other, over any list of numbers that covers: the answer is that of the map that the groups' own results make.
-- Assumes nothing.
use Rattle.std.specs.Prelude.{◌≡◌, refl, Bool, false, cond, not, ◌&&◌, ◌||◌, ℕ, ◌≤◌, leb, ltb, eqb, length}
use Rattle.std.proofs.Math.Path.{sym, ap}
use Rattle.std.proofs.Common.{◌∙◌, true≢false, arith, leb-true, le-leb, lt-ltb, ltb-true, eqb-true}
use Rattle.std.proofs.Math.Bool.{true, or-true}
use Rattle.std.proofs.lemmas.Bool.{false≢true}
use mathlib.Core.List.{List, [], ◌∷◌, ◌++◌}
use Rattle.std.specs.Prelude.{Option, None, Some}
use Rattle.std.proofs.lemmas.Option.{none-some}
use Rattle.maps.specs.ListLaws.{some-none}
use Rattle.maps.specs.Lists.{any, every, or_else}
use Rattle.maps.specs.Maps.{Pair, Map, lookup, insert, numbers}
use Rattle.maps.specs.BoolLaws.{both, both_left, both_right}
use Rattle.maps.specs.ListLaws.{any_append, every-from}
use Rattle.maps.specs.OrderLaws.{split, numbers_lawful}
use Rattle.maps.specs.MapLaws.{Ascending, ascending-nil, ascending-insert, lookup-insert_same, lookup-insert-other, ext, length-insert-none, every-insert, every-lookup, length-sub}
use Rattle.rules.specs.Limits.{max_groups}
use Rattle.rules.specs.Causes.{Cause, Refusal, Result, Ok, Err, refuse, and_then, LimitPassed}
use Rattle.rules.specs.Items.{LogItem}
use Rattle.rules.specs.Table.{Table}
use Rattle.rules.specs.Context.{Context, with_groups, table_fits, waiting_fits, fits, limited}
use Rattle.rules_by_group.specs.Stage.{Staged, none_staged, stage_result, stage_one, stage_all, rest_fits, answer, is_in, Covers}
use Rattle.rules_by_group.proofs.ResultLaws.{ok_inj, refusal_of, refused_not_ok, by_option, by_result}
use Rattle.rules_by_group.proofs.DeedLaws.{ByGroup}

-- the limits of the groups
unfoldable pub groups_fit : Map ℕ Table → Bool
groups_fit m = leb (length m) max_groups && every (λ (p : Pair ℕ Table). table_fits p.val) m

few-groups : (m : Map ℕ Table) → groups_fit m ≡ true → length m ≤ max_groups
unfolding groups_fit
few-groups m e = leb-true (length m) max_groups (both_left (leb (length m) max_groups) (every (λ (p : Pair ℕ Table). table_fits p.val) m) e)

small-tables : (m : Map ℕ Table) → groups_fit m ≡ true → every (λ (p : Pair ℕ Table). table_fits p.val) m ≡ true
unfolding groups_fit
small-tables m e = both_right (leb (length m) max_groups) (every (λ (p : Pair ℕ Table). table_fits p.val) m) e

fits_split : (m : Map ℕ Table) (rest : Context) → fits (with_groups m rest) ≡ (groups_fit m && rest_fits rest)
unfolding fits with_groups groups_fit rest_fits
fits_split m rest = regroup (leb (length m) max_groups && every (λ (p : Pair ℕ Table). table_fits p.val) m) _ _ (waiting_fits rest.waiting)
  where
    regroup : (a b c d : Bool) → (a && b && c && d) ≡ (a && (b && c && d))
    regroup true b c d = refl
    regroup false b c d = refl

cond-not : {A : Type 0} (b : Bool) (x y : A) → cond b x y ≡ cond (not b) y x
cond-not true x y = refl
cond-not false x y = refl

-- ---- one group's result

pub stage-fits : (g : ℕ) (s : Staged) (t : Table) → (table_fits t && ltb (length s.groups) max_groups) ≡ true → stage_result g (Ok (Some t)) s ≡ record { groups = insert numbers g t s.groups; clashed = s.clashed; passed = s.passed }
unfolding stage_result
stage-fits g s t e = rw e

pub stage-passes : (g : ℕ) (s : Staged) (t : Table) → (table_fits t && ltb (length s.groups) max_groups) ≡ false → stage_result g (Ok (Some t)) s ≡ record { groups = s.groups; clashed = s.clashed; passed = true }
unfolding stage_result
stage-passes g s t e = rw e

pub stage-none : (g : ℕ) (s : Staged) → stage_result g (Ok None) s ≡ s
unfolding stage_result
stage-none g s = refl

pub stage-refused : (g : ℕ) (s : Staged) (x : Refusal) → stage_result g (Err x) s ≡ record { groups = s.groups; clashed = true; passed = s.passed }
unfolding stage_result
stage-refused g s x = refl

fits-insert : (g : ℕ) (t : Table) (s : Staged) → lookup numbers g s.groups ≡ None → groups_fit s.groups ≡ true → (table_fits t && ltb (length s.groups) max_groups) ≡ true → groups_fit (insert numbers g t s.groups) ≡ true
unfolding groups_fit
fits-insert g t s n w f =
    let l = ltb-true (length s.groups) max_groups (both_right (table_fits t) (ltb (length s.groups) max_groups) f) in
    let more = length-insert-none numbers numbers_lawful g t s.groups n in
    both (le-leb (length (insert numbers g t s.groups)) max_groups (omega (arith, l, more)))
    (every-insert numbers numbers_lawful (λ (p : Pair ℕ Table). table_fits p.val) g t s.groups (small-tables s.groups w) (both_left (table_fits t) (ltb (length s.groups) max_groups) f))

module _ (at : ℕ → Result (Option Table)) where
  -- ---- one number

  pub stage-again : (g : ℕ) (s : Staged) (t : Table) → lookup numbers g s.groups ≡ Some t → stage_one at g s ≡ s
  unfolding stage_one or_else
  stage-again g s t e = rw e

  pub stage-new : (g : ℕ) (s : Staged) (r : Result (Option Table)) → lookup numbers g s.groups ≡ None → at g ≡ r → stage_one at g s ≡ stage_result g r s
  unfolding stage_one or_else
  stage-new g s r e h = rw (e, h)

  -- the four ways of a number: nothing changes, a refusal, a table that fits, a limit passed
  stage_cases :
      {P : Type 0} (g : ℕ) (s : Staged)
      → (stage_one at g s ≡ s → ((t : Table) → at g ≡ Ok (Some t) → lookup numbers g s.groups ≡ None → ⊥) → P)
      → ((x : Refusal) → at g ≡ Err x → stage_one at g s ≡ record { groups = s.groups; clashed = true; passed = s.passed } → P)
      → ((t : Table) → at g ≡ Ok (Some t) → lookup numbers g s.groups ≡ None → (table_fits t && ltb (length s.groups) max_groups) ≡ true → stage_one at g s ≡ record { groups = insert numbers g t s.groups; clashed = s.clashed; passed = s.passed } → P)
      → ((t : Table) → at g ≡ Ok (Some t) → lookup numbers g s.groups ≡ None → (table_fits t && ltb (length s.groups) max_groups) ≡ false → stage_one at g s ≡ record { groups = s.groups; clashed = s.clashed; passed = true } → P)
      → P
  stage_cases g s same refuses stages passes =
      by_option (lookup numbers g s.groups)
      (λ e. by_result (at g)
      (λ o h. by_option o
      (λ z. same (stage-new g s (Ok None) e (h ∙ ap Ok z) ∙ stage-none g s) (λ t k n. none-some t (ok_inj (sym (h ∙ ap Ok z) ∙ k))))
      (λ t z. split (table_fits t && ltb (length s.groups) max_groups)
      (λ f. stages t (h ∙ ap Ok z) e f (stage-new g s (Ok (Some t)) e (h ∙ ap Ok z) ∙ stage-fits g s t f))
      (λ f. passes t (h ∙ ap Ok z) e f (stage-new g s (Ok (Some t)) e (h ∙ ap Ok z) ∙ stage-passes g s t f))))
      (λ x h. refuses x h (stage-new g s (Err x) e h ∙ stage-refused g s x)))
      (λ t e. same (stage-again g s t e) (λ u k n. some-none t (sym e ∙ n)))

  -- ---- what is staged is each group's own result, and fits

  pub record Own (s : Staged) : Type 0 where
    pub ascend : Ascending numbers s.groups
    pub within : groups_fit s.groups ≡ true
    pub results : (g : ℕ) (t : Table) → lookup numbers g s.groups ≡ Some t → at g ≡ Ok (Some t)

  pub own-none : Own none_staged
  unfolding none_staged lookup groups_fit every
  own-none = record { ascend = ascending-nil Table numbers; within = refl; results = λ g t e. absurd (none-some t e) }

  own-insert : (g : ℕ) (t : Table) (m : Map ℕ Table) → at g ≡ Ok (Some t) → ((k : ℕ) (u : Table) → lookup numbers k m ≡ Some u → at k ≡ Ok (Some u)) → (k : ℕ) (u : Table) → lookup numbers k (insert numbers g t m) ≡ Some u → at k ≡ Ok (Some u)
  own-insert g t m e h k u l =
      split (eqb k g)
      (λ s. rw (eqb-true k g s) (e ∙ ap Ok (sym (lookup-insert_same numbers numbers_lawful g t m) ∙ rw (eqb-true k g s) at l)))
      (λ s. h k u (sym (lookup-insert-other numbers numbers_lawful k g t m s) ∙ l))

  own_step : (g : ℕ) (s : Staged) → Own s → Own (stage_one at g s)
  own_step g s w =
      stage_cases g s
      (λ e n. rw e w)
      (λ x h e. rw e (record { ascend = w.ascend; within = w.within; results = w.results }))
      (λ t h n f e. rw e (record { ascend = ascending-insert numbers numbers_lawful g t s.groups w.ascend; within = fits-insert g t s n w.within f; results = own-insert g t s.groups h w.results }))
      (λ t h n f e. rw e (record { ascend = w.ascend; within = w.within; results = w.results }))

  pub own_all : (gs : List ℕ) (s : Staged) → Own s → Own (stage_all at gs s)
  unfolding stage_all
  own_all [] s w = w
  own_all (g ∷ gs) s w = own_all gs (stage_one at g s) (own_step g s w)

  -- ---- a refusal

  clashed_step : (g : ℕ) (s : Staged) → s.clashed ≡ true → (stage_one at g s).clashed ≡ true
  clashed_step g s h =
      stage_cases g s
      (λ e n. rw e h)
      (λ x k e. rw e)
      (λ t k n f e. rw e h)
      (λ t k n f e. rw e h)

  -- a refusal stays, so that it may end the work
  pub clashed_all : (gs : List ℕ) (s : Staged) → s.clashed ≡ true → (stage_all at gs s).clashed ≡ true
  unfolding stage_all
  clashed_all [] s h = h
  clashed_all (g ∷ gs) s h = clashed_all gs (stage_one at g s) (clashed_step g s h)

  clashes_here : (g : ℕ) (s : Staged) (x : Refusal) → Own s → at g ≡ Err x → (stage_one at g s).clashed ≡ true
  clashes_here g s x w h =
      by_option (lookup numbers g s.groups)
      (λ e. rw (stage-new g s (Err x) e h ∙ stage-refused g s x))
      (λ t e. absurd (refused_not_ok (sym h ∙ w.results g t e)))

  in-cons : {P : Type 0} (g k : ℕ) (ks : List ℕ) → is_in g (k ∷ ks) ≡ true → (eqb g k ≡ true → P) → (is_in g ks ≡ true → P) → P
  unfolding is_in any
  in-cons g k ks e f h = split (eqb g k) (λ s. f s) (λ s. h (rw s at e))

  clashes_all : (g : ℕ) (x : Refusal) → at g ≡ Err x → (gs : List ℕ) (s : Staged) → is_in g gs ≡ true → Own s → (stage_all at gs s).clashed ≡ true
  unfolding stage_all
  clashes_all g x h [] s i w = absurd (false≢true (unfold is_in any in i))
  clashes_all g x h (k ∷ ks) s i w =
      in-cons g k ks i
      (λ e. clashed_all ks (stage_one at k s) (clashes_here k s x w (rw (← (eqb-true g k e)) h)))
      (λ j. clashes_all g x h ks (stage_one at k s) j (own_step k s w))

  -- ---- no refusal: the groups make the map m

  module _ (m : Map ℕ Table) (asc : Ascending numbers m) (is : (g : ℕ) → at g ≡ Ok (lookup numbers g m)) where
    pub record SoFar (s : Staged) : Type 0 where
      pub own-results : Own s
      pub unclashed : s.clashed ≡ false
      pub over : s.passed ≡ true → groups_fit m ≡ false

    at_map : (g : ℕ) (t : Table) → at g ≡ Ok (Some t) → lookup numbers g m ≡ Some t
    at_map g t e = ok_inj (sym (is g) ∙ e)

    -- a table that does not fit, or a ninth group, is one of the map's
    passes-map : (g : ℕ) (t : Table) (s : Staged) → Own s → lookup numbers g s.groups ≡ None → at g ≡ Ok (Some t) → (table_fits t && ltb (length s.groups) max_groups) ≡ false → groups_fit m ≡ false
    passes-map g t s w n h f =
        split (groups_fit m)
        (λ e.
        let few = few-groups m e in
        let small = every-lookup numbers numbers_lawful (λ (p : Pair ℕ Table). table_fits p.val) g t m (small-tables m e) (at_map g t h) in
        let more = length-insert-none numbers numbers_lawful g t s.groups n in
        let sub = length-sub numbers numbers_lawful (insert numbers g t s.groups) m (ascending-insert numbers numbers_lawful g t s.groups w.ascend) none-there in
        absurd (true≢false (sym (both small (lt-ltb (length s.groups) max_groups (omega (arith, few, more, sub)))) ∙ f)))
        (λ e. e)
      where
        none-there : (k : ℕ) → lookup numbers k m ≡ None → lookup numbers k (insert numbers g t s.groups) ≡ None
        none-there k z =
            by_option (lookup numbers k (insert numbers g t s.groups))
            (λ e. e)
            (λ u e. absurd (some-none u (sym (at_map k u (own-insert g t s.groups h w.results k u e)) ∙ z)))

    so_far-none : SoFar none_staged
    so_far-none = record { own-results = own-none; unclashed = unfold none_staged in refl; over = unfold none_staged in (λ e. absurd (false≢true e)) }

    so_far_step : (g : ℕ) (s : Staged) → SoFar s → SoFar (stage_one at g s)
    so_far_step g s w =
        stage_cases g s
        (λ e n. rw e w)
        (λ x h e. absurd (refused_not_ok (sym h ∙ is g)))
        (λ t h n f e. record {
          own-results = own_step g s w.own-results;
          unclashed = rw e w.unclashed;
          over = rw e w.over;
        })
        (λ t h n f e. record {
          own-results = own_step g s w.own-results;
          unclashed = rw e w.unclashed;
          over = λ z. passes-map g t s w.own-results n h f;
        })

    so_far_all : (gs : List ℕ) (s : Staged) → SoFar s → SoFar (stage_all at gs s)
    unfolding stage_all
    so_far_all [] s w = w
    so_far_all (g ∷ gs) s w = so_far_all gs (stage_one at g s) (so_far_step g s w)

    -- group k is as in the map, unless a limit was passed
    unfoldable pub Done : ℕ → Staged → Type 0
    Done k s = s.passed ≡ false → lookup numbers k s.groups ≡ lookup numbers k m

    done-is : (k : ℕ) (s : Staged) → Done k s → s.passed ≡ false → lookup numbers k s.groups ≡ lookup numbers k m
    unfolding Done
    done-is k s d = d

    done-insert : (k g : ℕ) (t : Table) (s : Staged) → at g ≡ Ok (Some t) → lookup numbers k s.groups ≡ lookup numbers k m → lookup numbers k (insert numbers g t s.groups) ≡ lookup numbers k m
    done-insert k g t s h l =
        split (eqb k g)
        (λ e. rw (eqb-true k g e) (lookup-insert_same numbers numbers_lawful g t s.groups ∙ sym (at_map g t h)))
        (λ e. lookup-insert-other numbers numbers_lawful k g t s.groups e ∙ l)

    done_step : (k g : ℕ) (s : Staged) → Done k s → Done k (stage_one at g s)
    unfolding Done
    done_step k g s d =
        stage_cases g s
        (λ e n. rw e d)
        (λ x h e. absurd (refused_not_ok (sym h ∙ is g)))
        (λ t h n f e. rw e (λ z. done-insert k g t s h (d z)))
        (λ t h n f e. rw e (λ z. absurd (true≢false z)))

    done-keep : (k : ℕ) (gs : List ℕ) (s : Staged) → Done k s → Done k (stage_all at gs s)
    unfolding stage_all
    done-keep k [] s d = d
    done-keep k (g ∷ gs) s d = done-keep k gs (stage_one at g s) (done_step k g s d)

    done_here : (g : ℕ) (s : Staged) → Own s → Done g (stage_one at g s)
    unfolding Done
    done_here g s w =
        stage_cases g s
        (λ e n. rw e (λ z. same n))
        (λ x h e. absurd (refused_not_ok (sym h ∙ is g)))
        (λ t h n f e. rw e (λ z. lookup-insert_same numbers numbers_lawful g t s.groups ∙ sym (at_map g t h)))
        (λ t h n f e. rw e (λ z. absurd (true≢false z)))
      where
        same : ((t : Table) → at g ≡ Ok (Some t) → lookup numbers g s.groups ≡ None → ⊥) → lookup numbers g s.groups ≡ lookup numbers g m
        same n =
            by_option (lookup numbers g s.groups)
            (λ e. by_option (lookup numbers g m) (λ z. e ∙ sym z) (λ t z. absurd (n t (is g ∙ ap Ok z) e)))
            (λ t e. e ∙ sym (at_map g t (w.results g t e)))

    done_all : (k : ℕ) (gs : List ℕ) (s : Staged) → is_in k gs ≡ true → Own s → Done k (stage_all at gs s)
    unfolding stage_all
    done_all k [] s i w = absurd (false≢true (unfold is_in any in i))
    done_all k (g ∷ gs) s i w =
        in-cons k g gs i
        (λ e. done-keep k gs (stage_one at g s) (rw (eqb-true k g e) (done_here g s w)))
        (λ j. done_all k gs (stage_one at g s) j (own_step g s w))

    module _ (gs : List ℕ) (covers : (g : ℕ) → is_in g gs ≡ false → at g ≡ Ok None) where
      abbrev last : Staged
      last = stage_all at gs none_staged

      last-so_far : SoFar last
      last-so_far = so_far_all gs none_staged so_far-none

      last-groups : last.passed ≡ false → last.groups ≡ m
      last-groups p = ext numbers numbers_lawful last.groups m last-so_far.own-results.ascend asc each
        where
          out : (g : ℕ) → is_in g gs ≡ false → lookup numbers g last.groups ≡ lookup numbers g m
          out g i =
              by_option (lookup numbers g last.groups)
              (λ e. e ∙ ok_inj (sym (covers g i) ∙ is g))
              (λ t e. e ∙ sym (at_map g t (last-so_far.own-results.results g t e)))

          each : (g : ℕ) → lookup numbers g last.groups ≡ lookup numbers g m
          each g = split (is_in g gs) (λ i. done-is g last (done_all g gs none_staged i own-none) p) (λ i. out g i)

      answered : (n : Cause) (rest : Context) → limited None (with_groups m rest) ≡ answer n rest last
      unfolding limited answer
      answered n rest =
          split last.passed
          (λ p. rw (fits_split m rest, last-so_far.over p, last-so_far.unclashed, p))
          (λ p. rw (fits_split m rest, last-so_far.unclashed, p, last-groups p, rw (last-groups p) at last-so_far.own-results.within) (cond-not (rest_fits rest) (Ok (with_groups m rest)) (refuse LimitPassed)))

-- the answer of a map by group is that of its groups, staged over any list that covers, if every refusal of a group is n
pub staged :
    (at : ℕ → Result (Option Table)) (r : Result (Map ℕ Table)) (gs : List ℕ) (n : Cause) (rest : Context)
    → ByGroup at r
    → ((g : ℕ) (x : Refusal) → at g ≡ Err x → x ≡ refusal_of n)
    → ((g : ℕ) → is_in g gs ≡ false → at g ≡ Ok None)
    → and_then r (λ m. limited None (with_groups m rest)) ≡ answer n rest (stage_all at gs none_staged)
unfolding ByGroup and_then
staged at (Ok m) gs n rest by only covers = answered at m by.0 by.1 gs covers n rest
staged at (Err x) gs n rest by only covers =
    ap (λ y. Err y) (only by.0 x by.1) ∙ (unfold answer in rw (clashes_all at by.0 x by.1 gs none_staged in_list_lem (own-none at)))
  where
    in_list_lem : is_in by.0 gs ≡ true
    in_list_lem = split (is_in by.0 gs) (λ e. e) (λ e. absurd (refused_not_ok (sym by.1 ∙ covers by.0 e)))

-- ---- the answer

-- a group met the refusal, whatever else was passed
pub answer-clashed : (n : Cause) (rest : Context) (s : Staged) → s.clashed ≡ true → answer n rest s ≡ refuse n
unfolding answer
answer-clashed n rest s e = rw e

pub answer-passed : (n : Cause) (rest : Context) (s : Staged) → s.clashed ≡ false → (s.passed || not (rest_fits rest)) ≡ true → answer n rest s ≡ refuse LimitPassed
unfolding answer
answer-passed n rest s e p = rw (e, p)

pub answer_ok : (n : Cause) (rest : Context) (s : Staged) → s.clashed ≡ false → (s.passed || not (rest_fits rest)) ≡ false → answer n rest s ≡ Ok (with_groups s.groups rest)
unfolding answer
answer_ok n rest s e p = rw (e, p)

-- a list in two parts is staged part by part
pub stage-append : (at : ℕ → Result (Option Table)) (gs hs : List ℕ) (s : Staged) → stage_all at (gs ++ hs) s ≡ stage_all at hs (stage_all at gs s)
unfolding stage_all
stage-append at [] hs s = refl
stage-append at (g ∷ gs) hs s = stage-append at gs hs (stage_one at g s)

-- ---- lists that cover

in_left : (g : ℕ) (gs hs : List ℕ) → is_in g gs ≡ true → is_in g (gs ++ hs) ≡ true
unfolding is_in
in_left g gs hs e = any_append (eqb g) gs hs ∙ rw e

in_right : (g : ℕ) (gs hs : List ℕ) → is_in g hs ≡ true → is_in g (gs ++ hs) ≡ true
unfolding is_in
in_right g gs hs e = any_append (eqb g) gs hs ∙ rw e (or-true (any (eqb g) gs))

-- the numbers of the older groups, of the newer groups, of the newer tombstones and of the newer waiting parts, one list behind the other
pub covers-lists :
    (newer c : Context) (older groups tombs waiting : List ℕ)
    → every (λ p. is_in p.key older) c.groups ≡ true
    → every (λ p. is_in p.key groups) newer.groups ≡ true
    → every (λ (it : LogItem). is_in it.group tombs) newer.tombstones ≡ true
    → every (λ p. is_in p.key waiting) newer.waiting ≡ true
    → Covers (older ++ (groups ++ (tombs ++ waiting))) newer c
covers-lists newer c older groups tombs waiting o g t w =
    record {
      older-groups = every-from _ _ c.groups (λ p e. in_left p.key older (groups ++ (tombs ++ waiting)) e) o;
      newer-groups = every-from _ _ newer.groups (λ p e. in_right p.key older (groups ++ (tombs ++ waiting)) (in_left p.key groups (tombs ++ waiting) e)) g;
      newer-tombstones = every-from _ _ newer.tombstones (λ it e. in_right it.group older (groups ++ (tombs ++ waiting)) (in_right it.group groups (tombs ++ waiting) (in_left it.group tombs waiting e))) t;
      newer-waiting = every-from _ _ newer.waiting (λ p e. in_right p.key older (groups ++ (tombs ++ waiting)) (in_right p.key groups (tombs ++ waiting) (in_right p.key tombs waiting e))) w;
    }
