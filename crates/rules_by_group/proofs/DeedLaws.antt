-- Deeds: a group's number with what becomes of what a map has for it. A list of deeds on a map is, group by group, each group's own deeds in order.
-- Assumes nothing.
use Rattle.std.specs.Prelude.{◌≡◌, cond, ℕ, eqb}
use Rattle.std.proofs.Math.Path.{refl, sym, ap, subst}
use Rattle.std.proofs.Common.{◌∙◌, eqb-true, eq-eqb}
use mathlib.Core.List.{List, [], ◌∷◌, ◌++◌}
use Rattle.std.specs.Prelude.{Option}
use Rattle.maps.specs.Lists.{or_else}
use Rattle.maps.specs.Maps.{Pair, Map, lookup, store, numbers}
use Rattle.maps.specs.OrderLaws.{split, numbers_lawful}
use Rattle.maps.specs.MapLaws.{AllBelow, Ascending, ascending-head, ascending-tail, ascending-store, lookup_below, lookup-store_same, lookup-store-other, ext}
use Rattle.rules.specs.Causes.{Refusal, Result, Ok, Err, and_then, in_order}
use Rattle.rules_by_group.proofs.ResultLaws.{ok_inj, refused_not_ok, by_result, and_then_same, and_then-unit, and_then-assoc, and_then_of, and_then-refused, in_order-append, eqb_comm}

pub record Deed (A : Type 0) : Type 0 where
  pub group : ℕ
  pub by : Option A → Result (Option A)

module _ {A : Type 0} where
  unfoldable pub do_deed : Deed A → Map ℕ A → Result (Map ℕ A)
  do_deed d m = and_then (d.by (lookup numbers d.group m)) (λ t. Ok (store numbers d.group t m))

  unfoldable pub do_all : List (Deed A) → Map ℕ A → Result (Map ℕ A)
  do_all ds = in_order do_deed ds

  -- the deeds of group g, in order
  unfoldable pub own : ℕ → List (Deed A) → Option A → Result (Option A)
  own g [] o = Ok o
  own g (d ∷ ds) o = cond (eqb d.group g) (and_then (d.by o) (own g ds)) (own g ds o)

  -- a result of a map is what its groups' own results say; if it is refused, some group's own result has that refusal
  unfoldable pub ByGroup : (ℕ → Result (Option A)) → Result (Map ℕ A) → Type 0
  ByGroup at (Ok m) = Ascending numbers m × ((g : ℕ) → at g ≡ Ok (lookup numbers g m))
  ByGroup at (Err r) = (g : ℕ) × (at g ≡ Err r)

  pub by_group-ext : (at bt : ℕ → Result (Option A)) (r : Result (Map ℕ A)) → ((g : ℕ) → at g ≡ bt g) → ByGroup bt r → ByGroup at r
  unfolding ByGroup
  by_group-ext at bt (Ok m) e h = (h.0, λ g. e g ∙ h.1 g)
  by_group-ext at bt (Err x) e h = (h.0, e h.0 ∙ h.1)

  module _ (d : Deed A) (ds : List (Deed A)) (m : Map ℕ A) where
    abbrev before : Option A
    before = lookup numbers d.group m

    pub deed_ok : (t : Option A) → d.by before ≡ Ok t → do_all (d ∷ ds) m ≡ do_all ds (store numbers d.group t m)
    unfolding do_all in_order do_deed
    deed_ok t e = rw e (unfold and_then in refl)

    pub deed-refused : (x : Refusal) → d.by before ≡ Err x → do_all (d ∷ ds) m ≡ Err x
    unfolding do_all in_order do_deed
    deed-refused x e = rw e (unfold and_then in refl)

  module _ (d : Deed A) (ds : List (Deed A)) (m : Map ℕ A) (asc : Ascending numbers m) where
    at_next : (t : Option A) → d.by (before d ds m) ≡ Ok t → (g : ℕ) → own g (d ∷ ds) (lookup numbers g m) ≡ own g ds (lookup numbers g (store numbers d.group t m))
    unfolding own
    at_next t e g =
        let P : ℕ → Type 0 = λ h. own h (d ∷ ds) (lookup numbers h m) ≡ own h ds (lookup numbers h (store numbers d.group t m)) in
        split (eqb d.group g)
        (λ s. subst P (eqb-true d.group g s)
        (rw (eq-eqb d.group d.group refl) (and_then_of (d.by (before d ds m)) (own d.group ds) t e ∙ ap (own d.group ds) (sym (lookup-store_same numbers numbers_lawful d.group t m asc)))))
        (λ s. rw s (ap (own g ds) (sym (lookup-store-other numbers numbers_lawful g d.group t m (eqb_comm g d.group ∙ s)))))

    own-refused : (x : Refusal) → d.by (before d ds m) ≡ Err x → own d.group (d ∷ ds) (before d ds m) ≡ Err x
    unfolding own
    own-refused x e = rw (eq-eqb d.group d.group refl) (and_then-refused (d.by (before d ds m)) (own d.group ds) x e)

    by-group-cons :
        ((t : Option A) → ByGroup (λ g. own g ds (lookup numbers g (store numbers d.group t m))) (do_all ds (store numbers d.group t m)))
        → ByGroup (λ g. own g (d ∷ ds) (lookup numbers g m)) (do_all (d ∷ ds) m)
    by-group-cons ih =
        by_result (d.by (before d ds m))
        (λ t e. rw (deed_ok d ds m t e) (by_group-ext (λ g. own g (d ∷ ds) (lookup numbers g m)) (λ g. own g ds (lookup numbers g (store numbers d.group t m))) (do_all ds (store numbers d.group t m)) (at_next t e) (ih t)))
        (λ x e. rw (deed-refused d ds m x e) (unfold ByGroup in (d.group, own-refused x e)))

  pub deeds_by-group : (ds : List (Deed A)) (m : Map ℕ A) → Ascending numbers m → ByGroup (λ g. own g ds (lookup numbers g m)) (do_all ds m)
  deeds_by-group [] m asc = unfold do_all in_order ByGroup own in (asc, λ g. refl)
  deeds_by-group (d ∷ ds) m asc =
      by-group-cons d ds m asc (λ t. deeds_by-group ds (store numbers d.group t m) (ascending-store numbers numbers_lawful d.group t m asc))

  pub by-group_at : (at : ℕ → Result (Option A)) (r : Result (Map ℕ A)) (n : Map ℕ A) → ByGroup at r → r ≡ Ok n → Ascending numbers n × ((g : ℕ) → at g ≡ Ok (lookup numbers g n))
  unfolding ByGroup
  by-group_at at r n h e = rw e at h

  pub do-ascends : (ds : List (Deed A)) (m n : Map ℕ A) → Ascending numbers m → do_all ds m ≡ Ok n → Ascending numbers n
  do-ascends ds m n asc e = (by-group_at (λ g. own g ds (lookup numbers g m)) (do_all ds m) n (deeds_by-group ds m asc) e).0

  pub do-append : (ds es : List (Deed A)) (m : Map ℕ A) → do_all (ds ++ es) m ≡ and_then (do_all ds m) (do_all es)
  unfolding do_all
  do-append ds es m = in_order-append do_deed ds es m

  pub own-append : (g : ℕ) (ds es : List (Deed A)) (o : Option A) → own g (ds ++ es) o ≡ and_then (own g ds o) (own g es)
  unfolding own
  own-append g [] es o = unfold and_then in refl
  own-append g (d ∷ ds) es o =
      split (eqb d.group g)
      (λ e. rw e
      (and_then_same (d.by o) (own g (ds ++ es)) (λ t. and_then (own g ds t) (own g es)) (λ t. own-append g ds es t)
      ∙ sym (and_then-assoc (d.by o) (own g ds) (own g es))))
      (λ e. rw e (own-append g ds es o))

  -- a map that has every group's own result is the result
  pub by-group-is : (at : ℕ → Result (Option A)) (r : Result (Map ℕ A)) (m : Map ℕ A) → ByGroup at r → Ascending numbers m → ((g : ℕ) → at g ≡ Ok (lookup numbers g m)) → r ≡ Ok m
  unfolding ByGroup
  by-group-is at (Ok n) m h asc e = ap (λ k. Ok k) (ext numbers numbers_lawful n m h.0 asc (λ g. ok_inj (sym (h.1 g) ∙ e g)))
  by-group-is at (Err x) m h asc e = absurd (refused_not_ok (sym h.1 ∙ e h.0))

-- ---- the deeds of a map, one for each number

module _ {A B : Type 0} (f : ℕ → B → Option A → Result (Option A)) where
  unfoldable pub deeds_of : Map ℕ B → List (Deed A)
  deeds_of [] = []
  deeds_of (x ∷ xs) = record { group = x.key; by = f x.key x.val } ∷ deeds_of xs

  none-later : (x : Pair ℕ B) (xs : Map ℕ B) (t : Option A) → AllBelow numbers x.key xs → own x.key (deeds_of xs) t ≡ or_else (Ok t) (λ a. f x.key a t) (lookup numbers x.key xs) → own x.key (deeds_of xs) t ≡ Ok t
  none-later x xs t b e = e ∙ ap (or_else (Ok t) (λ a. f x.key a t)) (lookup_below numbers numbers_lawful x.key xs b) ∙ (unfold or_else in refl)

  pub own-map : (g : ℕ) (xs : Map ℕ B) (o : Option A) → Ascending numbers xs → own g (deeds_of xs) o ≡ or_else (Ok o) (λ a. f g a o) (lookup numbers g xs)
  unfolding own deeds_of lookup or_else
  own-map g [] o asc = refl
  own-map g (x ∷ xs) o asc =
      let later = ascending-tail numbers x xs asc in
      let P : ℕ → Type 0 = λ h. own h (deeds_of (x ∷ xs)) o ≡ or_else (Ok o) (λ a. f h a o) (lookup numbers h (x ∷ xs)) in
      split (eqb x.key g)
      (λ e. subst P (eqb-true x.key g e)
      (rw (eq-eqb x.key x.key refl)
      (and_then_same (f x.key x.val o) (own x.key (deeds_of xs)) (λ t. Ok t) (λ t. none-later x xs t (ascending-head numbers x xs asc) (own-map x.key xs t later))
      ∙ and_then-unit (f x.key x.val o))))
      (λ e. rw (e, eqb_comm g x.key ∙ e) (own-map g xs o later))
