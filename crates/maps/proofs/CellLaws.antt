-- The laws of a map that is kept in cells: what is looked up in it, and what becomes of it when one cell is set.
-- Assumes nothing.
use Rattle.std.specs.Prelude.{Bool, true, false, ◌≡◌, length, get_or, set}
use Rattle.std.proofs.Common.{true≢false, ◌∙◌}
use Rattle.std.proofs.lemmas.Bool.{false≢true}
use mathlib.Core.List.{List, [], ◌∷◌}
use Rattle.std.specs.Prelude.{Option, None, Some}
use Rattle.std.proofs.lemmas.Option.{same_Some, none-some}
use Rattle.maps.specs.ListLaws.{some-none}
use Rattle.std.proofs.Math.Path.{refl, sym, ap}
use Prim.Native.Nat.{ℕ, zero, suc, ◌≤◌, ◌<◌}
use native.Mathlib.Omega.{arith}
use Rattle.maps.specs.Lists.{every, map_option}
use Rattle.maps.specs.Maps.{Pair, Map, lookup, insert, remove, store, numbers}
use Rattle.maps.specs.OrderLaws.{split, same_sym, numbers_lawful}
use Rattle.maps.specs.MapLaws.{pair, Ascending, ascending-nil, ascending-insert, lookup-insert_same, lookup-insert-other, lookup-store-other, remove_absent, store-store, store_comm, insert_comm, length-insert-none, length-insert-most, every-insert, every-lookup}
use Rattle.maps.specs.Cells.{Cell, map_of, holds, is_free_cell, Distinct}

module _ {A : Type 0} where
  -- ---- what a passed test says of a cell

  pub is_free-none : (c : Cell A) → is_free_cell c ≡ true → c ≡ None
  unfolding is_free_cell
  is_free-none None t = refl
  is_free-none (Some p) t = absurd (false≢true t)

  pub holds-some : (g : ℕ) (c : Cell A) → holds g c ≡ true → (b : A) × (c ≡ Some (pair g b))
  unfolding holds
  holds-some g None t = absurd (false≢true t)
  holds-some g (Some p) t = (p.val, λ i. Some (pair (sym (numbers_lawful.same-eq g p.key t) i) p.val))

  -- ---- numbers that are absent

  -- a number that is absent differs from one that is there
  differ : (k g : ℕ) (b : A) (m : Map ℕ A) → lookup numbers k m ≡ None → lookup numbers g m ≡ Some b → numbers.same k g ≡ false
  differ k g b m n e =
      split (numbers.same k g)
      (λ s. let t : lookup numbers k m ≡ Some b = rw (numbers_lawful.same-eq k g s) e in absurd (none-some _ (sym n ∙ t)))
      (λ s. s)

  -- a number that is absent after an insert is another one
  absent-other : (k g : ℕ) (a : A) (m : Map ℕ A) → lookup numbers g (insert numbers k a m) ≡ None → numbers.same g k ≡ false
  absent-other k g a m e = differ g k a (insert numbers k a m) e (lookup-insert_same numbers numbers_lawful k a m)

  -- and was absent before
  absent-before : (k g : ℕ) (a : A) (m : Map ℕ A) → lookup numbers g (insert numbers k a m) ≡ None → lookup numbers g m ≡ None
  absent-before k g a m e = sym (lookup-insert-other numbers numbers_lawful g k a m (absent-other k g a m e)) ∙ e

  -- ---- lookups

  pub lookup_at : (cs : List (Cell A)) (i g : ℕ) (a : A) → Distinct cs → i < length cs → get_or cs i None ≡ Some (pair g a) → lookup numbers g (map_of cs) ≡ Some a
  unfolding map_of Distinct
  lookup_at [] i g a d l e = absurd (omega arith)
  lookup_at (None ∷ cs) zero g a d l e = absurd (none-some _ e)
  lookup_at (None ∷ cs) (suc i) g a d l e = lookup_at cs i g a d (omega arith) e
  lookup_at (Some p ∷ cs) zero g a d l e =
      let q = same_Some p (pair g a) e in
      rw (ap (λ z. z.key) q, ap (λ z. z.val) q) (lookup-insert_same numbers numbers_lawful g a (map_of cs))
  lookup_at (Some p ∷ cs) (suc i) g a d l e =
      let h = lookup_at cs i g a d.1 (omega arith) e in
      lookup-insert-other numbers numbers_lawful g p.key p.val (map_of cs) (same_sym numbers numbers_lawful p.key g (differ p.key g a (map_of cs) d.0 h)) ∙ h

  pub lookup_absent : (cs : List (Cell A)) (g : ℕ) → ((i : ℕ) → i < length cs → holds g (get_or cs i None) ≡ false) → lookup numbers g (map_of cs) ≡ None
  unfolding map_of holds
  lookup_absent [] g f = unfold lookup in refl
  lookup_absent (None ∷ cs) g f = lookup_absent cs g (λ i l. f (suc i) (omega arith))
  lookup_absent (Some p ∷ cs) g f =
      lookup-insert-other numbers numbers_lawful g p.key p.val (map_of cs) (f 0 (omega arith))
      ∙ lookup_absent cs g (λ i l. f (suc i) (omega arith))

  pub absent-holds : (cs : List (Cell A)) (g i : ℕ) → lookup numbers g (map_of cs) ≡ None → i < length cs → holds g (get_or cs i None) ≡ false
  unfolding map_of holds
  absent-holds [] g i n l = absurd (omega arith)
  absent-holds (None ∷ cs) g zero n l = refl
  absent-holds (None ∷ cs) g (suc i) n l = absent-holds cs g i n (omega arith)
  absent-holds (Some p ∷ cs) g zero n l = absent-other p.key g p.val (map_of cs) n
  absent-holds (Some p ∷ cs) g (suc i) n l = absent-holds cs g i (absent-before p.key g p.val (map_of cs) n) (omega arith)

  -- ---- the keys ascend

  pub map_of-ascending : (cs : List (Cell A)) → Ascending numbers (map_of cs)
  unfolding map_of
  map_of-ascending [] = ascending-nil A numbers
  map_of-ascending (None ∷ cs) = map_of-ascending cs
  map_of-ascending (Some p ∷ cs) = ascending-insert numbers numbers_lawful p.key p.val (map_of cs) (map_of-ascending cs)

  -- ---- a free cell is taken

  pub map-store-free : (cs : List (Cell A)) (i g : ℕ) (a : A) → i < length cs → get_or cs i None ≡ None → lookup numbers g (map_of cs) ≡ None → map_of (set cs i (Some (pair g a))) ≡ insert numbers g a (map_of cs)
  unfolding map_of
  map-store-free [] i g a l e n = absurd (omega arith)
  map-store-free (None ∷ cs) zero g a l e n = refl
  map-store-free (None ∷ cs) (suc i) g a l e n = map-store-free cs i g a (omega arith) e n
  map-store-free (Some p ∷ cs) zero g a l e n = absurd (some-none _ e)
  map-store-free (Some p ∷ cs) (suc i) g a l e n =
      rw (map-store-free cs i g a (omega arith) e (absent-before p.key g p.val (map_of cs) n))
      (sym (insert_comm numbers numbers_lawful g p.key a p.val (map_of cs) (absent-other p.key g p.val (map_of cs) n) (map_of-ascending cs)))

  pub distinct-store-free : (cs : List (Cell A)) (i g : ℕ) (a : A) → Distinct cs → i < length cs → get_or cs i None ≡ None → lookup numbers g (map_of cs) ≡ None → Distinct (set cs i (Some (pair g a)))
  unfolding map_of Distinct
  distinct-store-free [] i g a d l e n = absurd (omega arith)
  distinct-store-free (None ∷ cs) zero g a d l e n = (n, d)
  distinct-store-free (None ∷ cs) (suc i) g a d l e n = distinct-store-free cs i g a d (omega arith) e n
  distinct-store-free (Some p ∷ cs) zero g a d l e n = absurd (some-none _ e)
  distinct-store-free (Some p ∷ cs) (suc i) g a d l e n =
      let b = absent-before p.key g p.val (map_of cs) n in
      let s = same_sym numbers numbers_lawful g p.key (absent-other p.key g p.val (map_of cs) n) in (
        rw (map-store-free cs i g a (omega arith) e b) (lookup-insert-other numbers numbers_lawful p.key g a (map_of cs) s ∙ d.0),
        distinct-store-free cs i g a d.1 (omega arith) e b,
      )

  -- ---- the cell that holds g gets another value, or becomes free

  map_first : (g : ℕ) (x : Option A) (cs : List (Cell A)) → lookup numbers g (map_of cs) ≡ None → map_of (map_option (pair g) x ∷ cs) ≡ store numbers g x (map_of cs)
  unfolding map_of store map_option
  map_first g None cs n = sym (remove_absent numbers numbers_lawful g (map_of cs) n)
  map_first g (Some a) cs n = refl

  distinct-first : (g : ℕ) (x : Option A) (cs : List (Cell A)) → lookup numbers g (map_of cs) ≡ None → Distinct cs → Distinct (map_option (pair g) x ∷ cs)
  unfolding Distinct map_option
  distinct-first g None cs n d = d
  distinct-first g (Some a) cs n d = (n, d)

  map_at : (cs : List (Cell A)) (i g : ℕ) (x : Option A) (b : A) → Distinct cs → i < length cs → get_or cs i None ≡ Some (pair g b) → map_of (set cs i (map_option (pair g) x)) ≡ store numbers g x (map_of cs)
  unfolding map_of Distinct store
  map_at [] i g x b d l e = absurd (omega arith)
  map_at (None ∷ cs) zero g x b d l e = absurd (none-some _ e)
  map_at (None ∷ cs) (suc i) g x b d l e = map_at cs i g x b d (omega arith) e
  map_at (Some p ∷ cs) zero g x b d l e =
      let q = same_Some p (pair g b) e in
      let n : lookup numbers g (map_of cs) ≡ None = rw (ap (λ z. z.key) q) at d.0 in
      rw (ap (λ z. z.key) q, ap (λ z. z.val) q)
      (map_first g x cs n ∙ sym (store-store numbers numbers_lawful g x (Some b) (map_of cs) (map_of-ascending cs)))
  map_at (Some p ∷ cs) (suc i) g x b d l e =
      let s = differ p.key g b (map_of cs) d.0 (lookup_at cs i g b d.1 (omega arith) e) in
      rw (map_at cs i g x b d.1 (omega arith) e)
      (store_comm numbers numbers_lawful p.key g (Some p.val) x (map_of cs) s (map_of-ascending cs))

  distinct_at : (cs : List (Cell A)) (i g : ℕ) (x : Option A) (b : A) → Distinct cs → i < length cs → get_or cs i None ≡ Some (pair g b) → Distinct (set cs i (map_option (pair g) x))
  unfolding Distinct
  distinct_at [] i g x b d l e = absurd (omega arith)
  distinct_at (None ∷ cs) zero g x b d l e = absurd (none-some _ e)
  distinct_at (None ∷ cs) (suc i) g x b d l e = distinct_at cs i g x b d (omega arith) e
  distinct_at (Some p ∷ cs) zero g x b d l e =
      distinct-first g x cs (rw (ap (λ z. z.key) (same_Some p (pair g b) e)) at d.0) d.1
  distinct_at (Some p ∷ cs) (suc i) g x b d l e =
      let s = differ p.key g b (map_of cs) d.0 (lookup_at cs i g b d.1 (omega arith) e) in (
        rw (map_at cs i g x b d.1 (omega arith) e) (lookup-store-other numbers numbers_lawful p.key g x (map_of cs) s ∙ d.0),
        distinct_at cs i g x b d.1 (omega arith) e,
      )

  pub map-store_at : (cs : List (Cell A)) (i g : ℕ) (a b : A) → Distinct cs → i < length cs → get_or cs i None ≡ Some (pair g b) → map_of (set cs i (Some (pair g a))) ≡ insert numbers g a (map_of cs)
  unfolding store map_option
  map-store_at cs i g a b d l e = map_at cs i g (Some a) b d l e

  pub distinct-store_at : (cs : List (Cell A)) (i g : ℕ) (a b : A) → Distinct cs → i < length cs → get_or cs i None ≡ Some (pair g b) → Distinct (set cs i (Some (pair g a)))
  unfolding map_option
  distinct-store_at cs i g a b d l e = distinct_at cs i g (Some a) b d l e

  pub map-free : (cs : List (Cell A)) (i g : ℕ) (b : A) → Distinct cs → i < length cs → get_or cs i None ≡ Some (pair g b) → map_of (set cs i None) ≡ remove numbers g (map_of cs)
  unfolding store map_option
  map-free cs i g b d l e = map_at cs i g None b d l e

  pub distinct-free : (cs : List (Cell A)) (i g : ℕ) (b : A) → Distinct cs → i < length cs → get_or cs i None ≡ Some (pair g b) → Distinct (set cs i None)
  unfolding map_option
  distinct-free cs i g b d l e = distinct_at cs i g None b d l e

  -- ---- lengths

  pub length-le : (cs : List (Cell A)) → length (map_of cs) ≤ length cs
  unfolding map_of
  length-le [] = omega arith
  length-le (None ∷ cs) = let ih = length-le cs in omega arith
  length-le (Some p ∷ cs) =
      let ih = length-le cs in
      let s = length-insert-most numbers numbers_lawful p.key p.val (map_of cs) in
      omega arith

  pub length-free : (cs : List (Cell A)) (i : ℕ) → i < length cs → get_or cs i None ≡ None → length (map_of cs) < length cs
  unfolding map_of
  length-free [] i l e = absurd (omega arith)
  length-free (None ∷ cs) i l e = let le = length-le cs in omega arith
  length-free (Some p ∷ cs) zero l e = absurd (some-none _ e)
  length-free (Some p ∷ cs) (suc i) l e =
      let ih = length-free cs i (omega arith) e in
      let s = length-insert-most numbers numbers_lawful p.key p.val (map_of cs) in
      omega arith

  pub length-full : (cs : List (Cell A)) → Distinct cs → ((i : ℕ) → i < length cs → is_free_cell (get_or cs i None) ≡ false) → length (map_of cs) ≡ length cs
  unfolding map_of Distinct is_free_cell
  length-full [] d f = refl
  length-full (None ∷ cs) d f = absurd (true≢false (f 0 (omega arith)))
  length-full (Some p ∷ cs) d f =
      length-insert-none numbers numbers_lawful p.key p.val (map_of cs) d.0
      ∙ ap suc (length-full cs d.1 (λ i l. f (suc i) (omega arith)))

  -- ---- every pair

  pub every-map_of : (P : Pair ℕ A → Bool) (cs : List (Cell A)) → ((i : ℕ) (p : Pair ℕ A) → i < length cs → get_or cs i None ≡ Some p → P p ≡ true) → every P (map_of cs) ≡ true
  unfolding map_of
  every-map_of P [] f = unfold every in refl
  every-map_of P (None ∷ cs) f = every-map_of P cs (λ i p l e. f (suc i) p (omega arith) e)
  every-map_of P (Some p ∷ cs) f =
      every-insert numbers numbers_lawful P p.key p.val (map_of cs)
      (every-map_of P cs (λ i q l e. f (suc i) q (omega arith) e))
      (f 0 p (omega arith) refl)

  pub every_at : (P : Pair ℕ A → Bool) (cs : List (Cell A)) (i : ℕ) (p : Pair ℕ A) → Distinct cs → every P (map_of cs) ≡ true → i < length cs → get_or cs i None ≡ Some p → P p ≡ true
  every_at P cs i p d h l e = every-lookup numbers numbers_lawful P p.key p.val (map_of cs) h (lookup_at cs i p.key p.val d l e)

  -- ---- cells that are all free

  pub all-free : (cs : List (Cell A)) → ((i : ℕ) → i < length cs → get_or cs i None ≡ None) → (map_of cs ≡ []) × Distinct cs
  unfolding map_of Distinct
  all-free [] f = (refl, tt)
  all-free (None ∷ cs) f = all-free cs (λ i l. f (suc i) (omega arith))
  all-free (Some p ∷ cs) f = absurd (some-none _ (f 0 (omega arith)))
