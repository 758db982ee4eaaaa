-- Newer tables laid over a map of tables, as deeds; and what the numbers of a list cover.
-- Assumes nothing.
use Rattle.std.specs.Prelude.{◌≡◌, Bool, true, false, cond, ℕ}
use Rattle.std.proofs.Math.Path.{refl}
use Rattle.std.proofs.Common.{sym, ◌∙◌, true≢false}
use mathlib.Core.List.{List, [], ◌∷◌}
use Rattle.std.specs.Prelude.{Option, None, Some}
use Rattle.maps.specs.Lists.{any, every}
use Rattle.maps.specs.Maps.{Pair, Map, lookup, insert, store, merge_with, numbers}
use Rattle.maps.specs.OrderLaws.{split, numbers_lawful, above-differs}
use Rattle.maps.specs.MapLaws.{AllBelow, Ascending, ascending-head, ascending-tail, lookup-insert-other, every-lookup}
use Rattle.rules.specs.Causes.{Refusal, Result, Ok, Err, in_order}
use Rattle.rules.specs.Table.{Table}
use Rattle.rules_by_group.specs.Stage.{is_in}
use Rattle.rules_by_group.proofs.ResultLaws.{by_option}
use Rattle.rules_by_group.proofs.DeedLaws.{do_all, deeds_of, deed_ok, deed-refused}

-- each newer table is laid over by f, or refused where it is bad
module _ (bad : Option Table → Table → Bool) (x : Refusal) (f : Option Table → Table → Table) where
  unfoldable pub lay_by : ℕ → Table → Option Table → Result (Option Table)
  lay_by g t o = cond (bad o t) (Err x) (Ok (Some (f o t)))

  -- a table laid at a lower number does not show at a later one
  any-later : (k : ℕ) (a : Table) (m xs : Map ℕ Table) → AllBelow numbers k xs → any (λ p. bad (lookup numbers p.key (insert numbers k a m)) p.val) xs ≡ any (λ p. bad (lookup numbers p.key m) p.val) xs
  unfolding any AllBelow
  any-later k a m [] b = refl
  any-later k a m (y ∷ ys) b = rw (lookup-insert-other numbers numbers_lawful y.key k a m (above-differs numbers numbers_lawful k y.key b.0), any-later k a m ys b.1)

  abbrev bad_in : Map ℕ Table → Map ℕ Table → Bool
  bad_in m xs = any (λ p. bad (lookup numbers p.key m) p.val) xs

  lay_bad : (g : ℕ) (t : Table) (o : Option Table) → bad o t ≡ true → lay_by g t o ≡ Err x
  unfolding lay_by
  lay_bad g t o e = rw e

  lay-good : (g : ℕ) (t : Table) (o : Option Table) → bad o t ≡ false → lay_by g t o ≡ Ok (Some (f o t))
  unfolding lay_by
  lay-good g t o e = rw e

  abbrev answer_of : Map ℕ Table → Map ℕ Table → Result (Map ℕ Table)
  answer_of m xs = cond (bad_in m xs) (Err x) (Ok (merge_with numbers f m xs))

  module _ (y : Pair ℕ Table) (ys m : Map ℕ Table) (h : Ascending numbers (y ∷ ys)) where
    abbrev laid_here : Map ℕ Table
    laid_here = insert numbers y.key (f (lookup numbers y.key m) y.val) m

    lay-first : bad (lookup numbers y.key m) y.val ≡ false → do_all (deeds_of lay_by (y ∷ ys)) m ≡ do_all (deeds_of lay_by ys) laid_here
    unfolding deeds_of
    lay-first e = deed_ok (record { group = y.key; by = lay_by y.key y.val }) (deeds_of lay_by ys) m (Some (f (lookup numbers y.key m) y.val)) (lay-good y.key y.val (lookup numbers y.key m) e) ∙ (unfold store in refl)

    lay-none : bad (lookup numbers y.key m) y.val ≡ true → do_all (deeds_of lay_by (y ∷ ys)) m ≡ Err x
    unfolding deeds_of
    lay-none e = deed-refused (record { group = y.key; by = lay_by y.key y.val }) (deeds_of lay_by ys) m x (lay_bad y.key y.val (lookup numbers y.key m) e)

    answer-first : bad (lookup numbers y.key m) y.val ≡ false → answer_of laid_here ys ≡ answer_of m (y ∷ ys)
    unfolding any merge_with
    answer-first e = rw (e, any-later y.key (f (lookup numbers y.key m) y.val) m ys (ascending-head numbers y ys h))

    answer-none : bad (lookup numbers y.key m) y.val ≡ true → Err x ≡ answer_of m (y ∷ ys)
    unfolding any
    answer-none e = rw e

    lay-cons : do_all (deeds_of lay_by ys) laid_here ≡ answer_of laid_here ys → do_all (deeds_of lay_by (y ∷ ys)) m ≡ answer_of m (y ∷ ys)
    lay-cons ih =
        split (bad (lookup numbers y.key m) y.val)
        (λ e. lay-none e ∙ answer-none e)
        (λ e. lay-first e ∙ ih ∙ answer-first e)

  pub lay_all : (xs m : Map ℕ Table) → Ascending numbers xs → do_all (deeds_of lay_by xs) m ≡ answer_of m xs
  lay_all [] m h = unfold deeds_of do_all in_order any merge_with in refl
  lay_all (y ∷ ys) m h = lay-cons y ys m h (lay_all ys (insert numbers y.key (f (lookup numbers y.key m) y.val) m) (ascending-tail numbers y ys h))

-- ---- numbers that a list covers

-- a number outside the list is not in a map whose numbers the list has
pub lookup_uncovered : {A : Type 0} (gs : List ℕ) (g : ℕ) (m : Map ℕ A) → every (λ p. is_in p.key gs) m ≡ true → is_in g gs ≡ false → lookup numbers g m ≡ None
lookup_uncovered gs g m h n =
    by_option (lookup numbers g m)
    (λ e. e)
    (λ a e. absurd (true≢false (sym (every-lookup numbers numbers_lawful (λ p. is_in p.key gs) g a m h e) ∙ n)))
