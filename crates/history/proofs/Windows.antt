-- Laws of windows of entries: how one is laid over another, compacted, and stays consecutive.
-- Assumes nothing.
use mathlib.Core.Path.{◌≡◌, refl, sym, ap, ◌∙◌}
use mathlib.Core.Logic.{◌⊎◌, inl, inr}
use mathlib.Core.Bool.{true, false}
use mathlib.Core.List.{List, [], ◌∷◌, ◌++◌, append_assoc, append-nil}
use Prim.Native.Nat.{ℕ, suc, ◌≤◌, ◌<◌}
use native.Mathlib.Omega.{arith}
use lib.Dec.{ltb, eqb}
use lib.ListN.{length, length-append}
use borrow.Author.Tests.{ltb-true, ltb-false, eqb-true, eq-eqb, lt-ltb, le-ltb, le-leb, lt-leb}
use Rattle.maps.specs.Lists.{select, last, map_option, or_else}
use Rattle.maps.specs.OrderLaws.{split}
use Rattle.rules.specs.Items.{EntryIndex}
use Rattle.rules.specs.Checks.{consecutive}
use Rattle.rules.specs.Table.{last_index, is_above_last, entries_below, entries_from, over}
use Rattle.maps.specs.BoolLaws.{both_left, both_right, both}
use Rattle.history.proofs.Basics.{cons-not-nil}

-- by the place of an index
pub either : {P : Type 0} (a b : ℕ) → (a < b → P) → (b ≤ a → P) → P
either a b f g = split (ltb a b) (λ e. f (ltb-true a b e)) (λ e. g (ltb-false a b e))

-- ---- one element more

module _ (x : ℕ) (e : EntryIndex) (es : List EntryIndex) where
  pub below-take : e.index < x → entries_below x (e ∷ es) ≡ e ∷ entries_below x es
  unfolding entries_below select
  below-take h = rw (lt-ltb e.index x h)

  pub below-skip : x ≤ e.index → entries_below x (e ∷ es) ≡ entries_below x es
  unfolding entries_below select
  below-skip h = rw (le-ltb e.index x h)

  pub from-take : x ≤ e.index → entries_from x (e ∷ es) ≡ e ∷ entries_from x es
  unfolding entries_from select
  from-take h = rw (le-leb x e.index h)

  pub from-skip : e.index < x → entries_from x (e ∷ es) ≡ entries_from x es
  unfolding entries_from select
  from-skip h = rw (lt-leb x e.index h)

pub below-nil : (x : ℕ) → entries_below x [] ≡ []
unfolding entries_below select
below-nil x = refl

pub from-nil : (x : ℕ) → entries_from x [] ≡ []
unfolding entries_from select
from-nil x = refl

-- ---- selections of selections

pub below-append : (x : ℕ) (a b : List EntryIndex) → entries_below x (a ++ b) ≡ entries_below x a ++ entries_below x b
below-append x [] b = ap (λ l. l ++ entries_below x b) (sym (below-nil x))
below-append x (e ∷ a) b =
    either e.index x
    (λ h. below-take x e (a ++ b) h ∙ ap (λ l. e ∷ l) (below-append x a b) ∙ ap (λ l. l ++ entries_below x b) (sym (below-take x e a h)))
    (λ h. below-skip x e (a ++ b) h ∙ below-append x a b ∙ ap (λ l. l ++ entries_below x b) (sym (below-skip x e a h)))

pub from-append : (x : ℕ) (a b : List EntryIndex) → entries_from x (a ++ b) ≡ entries_from x a ++ entries_from x b
from-append x [] b = ap (λ l. l ++ entries_from x b) (sym (from-nil x))
from-append x (e ∷ a) b =
    either e.index x
    (λ h. from-skip x e (a ++ b) h ∙ from-append x a b ∙ ap (λ l. l ++ entries_from x b) (sym (from-skip x e a h)))
    (λ h. from-take x e (a ++ b) h ∙ ap (λ l. e ∷ l) (from-append x a b) ∙ ap (λ l. l ++ entries_from x b) (sym (from-take x e a h)))

-- of two bounds the lower one counts
pub below-lower : (x f : ℕ) (a : List EntryIndex) → x ≤ f → entries_below x (entries_below f a) ≡ entries_below x a
below-lower x f [] h = ap (entries_below x) (below-nil f)
below-lower x f (e ∷ a) h =
    either e.index f
    (λ u. ap (entries_below x) (below-take f e a u)
    ∙ either e.index x
    (λ v. below-take x e (entries_below f a) v ∙ ap (λ l. e ∷ l) (below-lower x f a h) ∙ sym (below-take x e a v))
    (λ v. below-skip x e (entries_below f a) v ∙ below-lower x f a h ∙ sym (below-skip x e a v)))
    (λ u. ap (entries_below x) (below-skip f e a u) ∙ below-lower x f a h ∙ sym (below-skip x e a (omega arith)))

pub below-higher : (x f : ℕ) (a : List EntryIndex) → f ≤ x → entries_below x (entries_below f a) ≡ entries_below f a
below-higher x f [] h = ap (entries_below x) (below-nil f) ∙ below-nil x ∙ sym (below-nil f)
below-higher x f (e ∷ a) h =
    either e.index f
    (λ u. ap (entries_below x) (below-take f e a u)
    ∙ below-take x e (entries_below f a) (omega arith)
    ∙ ap (λ l. e ∷ l) (below-higher x f a h)
    ∙ sym (below-take f e a u))
    (λ u. ap (entries_below x) (below-skip f e a u) ∙ below-higher x f a h ∙ sym (below-skip f e a u))

-- nothing below f lies from i up, and nothing from i up below f, if f ≤ i
pub from_below-none : (i f : ℕ) (a : List EntryIndex) → f ≤ i → entries_from i (entries_below f a) ≡ []
from_below-none i f [] h = ap (entries_from i) (below-nil f) ∙ from-nil i
from_below-none i f (e ∷ a) h =
    either e.index f
    (λ u. ap (entries_from i) (below-take f e a u) ∙ from-skip i e (entries_below f a) (omega arith) ∙ from_below-none i f a h)
    (λ u. ap (entries_from i) (below-skip f e a u) ∙ from_below-none i f a h)

pub below-from-none : (i f : ℕ) (a : List EntryIndex) → f ≤ i → entries_below f (entries_from i a) ≡ []
below-from-none i f [] h = ap (entries_below f) (from-nil i) ∙ below-nil f
below-from-none i f (e ∷ a) h =
    either e.index i
    (λ u. ap (entries_below f) (from-skip i e a u) ∙ below-from-none i f a h)
    (λ u. ap (entries_below f) (from-take i e a u) ∙ below-skip f e (entries_from i a) (omega arith) ∙ below-from-none i f a h)

pub from_below : (i f : ℕ) (a : List EntryIndex) → entries_from i (entries_below f a) ≡ entries_below f (entries_from i a)
from_below i f [] =
    ap (entries_from i) (below-nil f) ∙ from-nil i ∙ sym (below-nil f) ∙ ap (entries_below f) (sym (from-nil i))
from_below i f (e ∷ a) =
    either e.index f
    (λ u. ap (entries_from i) (below-take f e a u)
    ∙ either e.index i
    (λ v. from-skip i e (entries_below f a) v ∙ from_below i f a ∙ ap (entries_below f) (sym (from-skip i e a v)))
    (λ v. from-take i e (entries_below f a) v
    ∙ ap (λ l. e ∷ l) (from_below i f a)
    ∙ sym (below-take f e (entries_from i a) u)
    ∙ ap (entries_below f) (sym (from-take i e a v))))
    (λ u. ap (entries_from i) (below-skip f e a u)
    ∙ from_below i f a
    ∙ either e.index i
    (λ v. ap (entries_below f) (sym (from-skip i e a v)))
    (λ v. sym (below-skip f e (entries_from i a) u) ∙ ap (entries_below f) (sym (from-take i e a v))))

-- ---- consecutive windows

pub consecutive-nil : consecutive [] ≡ true
unfolding consecutive
consecutive-nil = refl

pub consecutive-one : (e : EntryIndex) → consecutive (e ∷ []) ≡ true
unfolding consecutive
consecutive-one e = refl

module _ (e f : EntryIndex) (es : List EntryIndex) where
  pub consecutive-next : consecutive (e ∷ (f ∷ es)) ≡ true → f.index ≡ suc e.index
  unfolding consecutive
  consecutive-next h = eqb-true f.index (suc e.index) (both_left (eqb f.index (suc e.index)) (consecutive (f ∷ es)) h)

  pub consecutive-cons : f.index ≡ suc e.index → consecutive (f ∷ es) ≡ true → consecutive (e ∷ (f ∷ es)) ≡ true
  unfolding consecutive
  consecutive-cons n h = both (eq-eqb f.index (suc e.index) n) h

pub consecutive-tail : (e : EntryIndex) (es : List EntryIndex) → consecutive (e ∷ es) ≡ true → consecutive es ≡ true
unfolding consecutive
consecutive-tail e [] h = refl
consecutive-tail e (f ∷ es) h = both_right (eqb f.index (suc e.index)) (consecutive (f ∷ es)) h

-- nothing of a window lies below its first index, and all of it lies from there up
pub window-none : (x : ℕ) (e : EntryIndex) (es : List EntryIndex) → consecutive (e ∷ es) ≡ true → x ≤ e.index → entries_below x (e ∷ es) ≡ []
window-none x e [] c h = below-skip x e [] h ∙ below-nil x
window-none x e (f ∷ es) c h =
    let n = consecutive-next e f es c in
    below-skip x e (f ∷ es) h ∙ window-none x f es (consecutive-tail e (f ∷ es) c) (omega arith)

pub window_all : (x : ℕ) (e : EntryIndex) (es : List EntryIndex) → consecutive (e ∷ es) ≡ true → x ≤ e.index → entries_from x (e ∷ es) ≡ e ∷ es
window_all x e [] c h = from-take x e [] h ∙ ap (λ l. e ∷ l) (from-nil x)
window_all x e (f ∷ es) c h =
    let n = consecutive-next e f es c in
    from-take x e (f ∷ es) h ∙ ap (λ l. e ∷ l) (window_all x f es (consecutive-tail e (f ∷ es) c) (omega arith))

-- what is left of a window from an index up is a window
pub consecutive-from : (i : ℕ) (es : List EntryIndex) → consecutive es ≡ true → consecutive (entries_from i es) ≡ true
consecutive-from i [] c = ap consecutive (from-nil i) ∙ c
consecutive-from i (e ∷ es) c =
    either e.index i
    (λ h. ap consecutive (from-skip i e es h) ∙ consecutive-from i es (consecutive-tail e es c))
    (λ h. ap consecutive (window_all i e es c h) ∙ c)

-- ---- laying over

pub over-nil : (a : List EntryIndex) → over a [] ≡ a
unfolding over
over-nil a = refl

pub over-cons : (a : List EntryIndex) (e : EntryIndex) (es : List EntryIndex) → over a (e ∷ es) ≡ entries_below e.index a ++ (e ∷ es)
unfolding over
over-cons a e es = refl

pub nil-over : (t : List EntryIndex) → over [] t ≡ t
nil-over [] = over-nil []
nil-over (e ∷ es) = over-cons [] e es ∙ ap (λ l. l ++ (e ∷ es)) (below-nil e.index)

-- laying over is associative
pub over-assoc : (a t es : List EntryIndex) → consecutive t ≡ true → over (over a t) es ≡ over a (over t es)
over-assoc a t [] c = over-nil (over a t) ∙ ap (over a) (sym (over-nil t))
over-assoc a [] (e ∷ es) c = ap (λ l. over l (e ∷ es)) (over-nil a) ∙ ap (over a) (sym (nil-over (e ∷ es)))
over-assoc a (h ∷ t) (e ∷ es) c = whole ∙ either h.index e.index kept dropped
  where
    whole : over (over a (h ∷ t)) (e ∷ es) ≡ entries_below e.index (entries_below h.index a) ++ (entries_below e.index (h ∷ t) ++ (e ∷ es))
    whole =
        ap (λ l. over l (e ∷ es)) (over-cons a h t)
        ∙ over-cons (entries_below h.index a ++ (h ∷ t)) e es
        ∙ ap (λ l. l ++ (e ∷ es)) (below-append e.index (entries_below h.index a) (h ∷ t))
        ∙ append_assoc (entries_below e.index (entries_below h.index a)) (entries_below e.index (h ∷ t)) (e ∷ es)

    kept : h.index < e.index → entries_below e.index (entries_below h.index a) ++ (entries_below e.index (h ∷ t) ++ (e ∷ es)) ≡ over a (over (h ∷ t) (e ∷ es))
    kept l =
        ap (λ m. m ++ (entries_below e.index (h ∷ t) ++ (e ∷ es))) (below-higher e.index h.index a (omega arith))
        ∙ ap (λ m. entries_below h.index a ++ (m ++ (e ∷ es))) (below-take e.index h t l)
        ∙ sym (over-cons a h (entries_below e.index t ++ (e ∷ es)))
        ∙ ap (λ m. over a (m ++ (e ∷ es))) (sym (below-take e.index h t l))
        ∙ ap (over a) (sym (over-cons (h ∷ t) e es))

    dropped : e.index ≤ h.index → entries_below e.index (entries_below h.index a) ++ (entries_below e.index (h ∷ t) ++ (e ∷ es)) ≡ over a (over (h ∷ t) (e ∷ es))
    dropped l =
        ap (λ m. m ++ (entries_below e.index (h ∷ t) ++ (e ∷ es))) (below-lower e.index h.index a l)
        ∙ ap (λ m. entries_below e.index a ++ (m ++ (e ∷ es))) (window-none e.index h t c l)
        ∙ sym (over-cons a e es)
        ∙ ap (λ m. over a (m ++ (e ∷ es))) (sym (window-none e.index h t c l))
        ∙ ap (over a) (sym (over-cons (h ∷ t) e es))

-- what is left of a window that starts at or below i, laid over what is from i up, covers it
covers : (i : ℕ) (a : List EntryIndex) (h : EntryIndex) (t : List EntryIndex) → consecutive (h ∷ t) ≡ true → h.index ≤ i → (entries_from i (h ∷ t) ≡ [] → ⊥) → over (entries_from i a) (entries_from i (h ∷ t)) ≡ entries_from i (h ∷ t)
covers i a h [] c l p =
    either h.index i
    (λ u. absurd (p (from-skip i h [] u ∙ from-nil i)))
    (λ u. ap (over (entries_from i a)) (window_all i h [] c u)
    ∙ over-cons (entries_from i a) h []
    ∙ ap (λ m. m ++ (h ∷ [])) (below-from-none i h.index a l)
    ∙ sym (window_all i h [] c u))
covers i a h (g ∷ t) c l p =
    either h.index i
    (λ u. let n = consecutive-next h g t c in
    ap (over (entries_from i a)) (from-skip i h (g ∷ t) u)
    ∙ covers i a g t (consecutive-tail h (g ∷ t) c) (omega arith) (λ e. p (from-skip i h (g ∷ t) u ∙ e))
    ∙ sym (from-skip i h (g ∷ t) u))
    (λ u. ap (over (entries_from i a)) (window_all i h (g ∷ t) c u)
    ∙ over-cons (entries_from i a) h (g ∷ t)
    ∙ ap (λ m. m ++ (h ∷ (g ∷ t))) (below-from-none i h.index a l)
    ∙ sym (window_all i h (g ∷ t) c u))

-- compaction goes through laying over, if it leaves the newer window an entry or finds none there
pub from-over : (i : ℕ) (a t : List EntryIndex) → consecutive t ≡ true → (t ≡ []) ⊎ (entries_from i t ≡ [] → ⊥) → entries_from i (over a t) ≡ over (entries_from i a) (entries_from i t)
from-over i a [] c p =
    ap (entries_from i) (over-nil a) ∙ sym (over-nil (entries_from i a)) ∙ ap (over (entries_from i a)) (sym (from-nil i))
from-over i a (h ∷ t) c (inl p) = absurd (cons-not-nil p)
from-over i a (h ∷ t) c (inr p) =
    ap (entries_from i) (over-cons a h t)
    ∙ from-append i (entries_below h.index a) (h ∷ t)
    ∙ either h.index i
    (λ u. ap (λ m. m ++ entries_from i (h ∷ t)) (from_below-none i h.index a (omega arith)) ∙ sym (covers i a h t c (omega arith) p))
    (λ u. ap (λ m. m ++ entries_from i (h ∷ t)) (from_below i h.index a)
    ∙ ap (λ m. entries_below h.index (entries_from i a) ++ m) (window_all i h t c u)
    ∙ sym (over-cons (entries_from i a) h t)
    ∙ ap (over (entries_from i a)) (sym (window_all i h t c u)))

-- the premise passes from the laid window to the newer one
pub premise-over : (i : ℕ) (a t : List EntryIndex) → (over a t ≡ []) ⊎ (entries_from i (over a t) ≡ [] → ⊥) → consecutive t ≡ true → (t ≡ []) ⊎ (entries_from i t ≡ [] → ⊥)
premise-over i a [] p c = inl refl
premise-over i a (h ∷ t) (inl p) c = absurd (append-not-nil (entries_below h.index a) (sym (over-cons a h t) ∙ p))
  where
    append-not-nil : (l : List EntryIndex) → l ++ (h ∷ t) ≡ [] → ⊥
    append-not-nil [] q = cons-not-nil q
    append-not-nil (x ∷ l) q = cons-not-nil q
premise-over i a (h ∷ t) (inr p) c = inr (λ e. p (ap (entries_from i) (over-cons a h t) ∙ from-append i (entries_below h.index a) (h ∷ t) ∙ ap (λ m. entries_from i (entries_below h.index a) ++ m) e ∙ append-nil (entries_from i (entries_below h.index a)) ∙ lower e))
  where
    lower : entries_from i (h ∷ t) ≡ [] → entries_from i (entries_below h.index a) ≡ []
    lower e = either h.index i (λ u. from_below-none i h.index a (omega arith)) (λ u. absurd (cons-not-nil (sym (window_all i h t c u) ∙ e)))

-- ---- the last index

pub last_cons : (e f : EntryIndex) (es : List EntryIndex) (x : ℕ) → is_above_last x (e ∷ (f ∷ es)) ≡ is_above_last x (f ∷ es)
unfolding is_above_last last_index last
last_cons e f es x = refl

pub last_one : (e : EntryIndex) (x : ℕ) → is_above_last x (e ∷ []) ≡ ltb (suc e.index) x
unfolding is_above_last last_index last map_option or_else
last_one e x = refl

pub last-nil : (x : ℕ) → is_above_last x [] ≡ false
unfolding is_above_last last_index last map_option or_else
last-nil x = refl

pub last-append : (a : List EntryIndex) (h : EntryIndex) (t : List EntryIndex) (x : ℕ) → is_above_last x (a ++ (h ∷ t)) ≡ is_above_last x (h ∷ t)
last-append [] h t x = refl
last-append (e ∷ []) h t x = last_cons e h t x
last-append (e ∷ (f ∷ a)) h t x = last_cons e f (a ++ (h ∷ t)) x ∙ last-append (f ∷ a) h t x

-- a list that starts above last + 1 of the newer window starts so of the laid one
pub above-over : (x : ℕ) (a t : List EntryIndex) → is_above_last x (over a t) ≡ false → is_above_last x t ≡ false
above-over x a [] h = last-nil x
above-over x a (e ∷ t) h = sym (last-append (entries_below e.index a) e t x) ∙ ap (is_above_last x) (sym (over-cons a e t)) ∙ h

-- a window with a list laid over it that does not start above last + 1 is a window
pub consecutive-over : (a es : List EntryIndex) (e : EntryIndex) → consecutive a ≡ true → consecutive (e ∷ es) ≡ true → is_above_last e.index a ≡ false → consecutive (over a (e ∷ es)) ≡ true
consecutive-over a es e ca ce h = ap consecutive (over-cons a e es) ∙ joined a ca h
  where
    joined : (a : List EntryIndex) → consecutive a ≡ true → is_above_last e.index a ≡ false → consecutive (entries_below e.index a ++ (e ∷ es)) ≡ true
    joined [] ca h = ap (λ m. consecutive (m ++ (e ∷ es))) (below-nil e.index) ∙ ce
    joined (f ∷ []) ca h =
        either f.index e.index
        (λ u. let n = ltb-false (suc f.index) e.index (sym (last_one f e.index) ∙ h) in
        ap (λ m. consecutive (m ++ (e ∷ es))) (below-take e.index f [] u ∙ ap (λ m. f ∷ m) (below-nil e.index)) ∙ consecutive-cons f e es (omega arith) ce)
        (λ u. ap (λ m. consecutive (m ++ (e ∷ es))) (below-skip e.index f [] u ∙ below-nil e.index) ∙ ce)
    joined (f ∷ (g ∷ a)) ca h =
        let n = consecutive-next f g a ca in
        let below = joined (g ∷ a) (consecutive-tail f (g ∷ a) ca) (sym (last_cons f g a e.index) ∙ h) in
        either f.index e.index
        (λ u. ap (λ m. consecutive (m ++ (e ∷ es))) (below-take e.index f (g ∷ a) u)
        ∙ either g.index e.index
        (λ v. ap (λ m. consecutive (f ∷ (m ++ (e ∷ es)))) (below-take e.index g a v)
        ∙ consecutive-cons f g (entries_below e.index a ++ (e ∷ es)) n (sym (ap (λ m. consecutive (m ++ (e ∷ es))) (below-take e.index g a v)) ∙ below))
        (λ v. ap (λ m. consecutive (f ∷ (m ++ (e ∷ es)))) (window-none e.index g a (consecutive-tail f (g ∷ a) ca) v) ∙ consecutive-cons f e es (omega arith) ce))
        (λ u. ap (λ m. consecutive (m ++ (e ∷ es))) (window-none e.index f (g ∷ a) ca u) ∙ ce)

-- a laid window that is consecutive has no gap in it
pub no_gap : (a t : List EntryIndex) (h : EntryIndex) → consecutive (over a (h ∷ t)) ≡ true → is_above_last h.index a ≡ false
no_gap a t h c = within a (sym (ap consecutive (over-cons a h t)) ∙ c)
  where
    within : (a : List EntryIndex) → consecutive (entries_below h.index a ++ (h ∷ t)) ≡ true → is_above_last h.index a ≡ false
    within [] c = last-nil h.index
    within (e ∷ []) c =
        last_one e h.index
        ∙ either e.index h.index
        (λ u. let n = consecutive-next e h t (sym (ap (λ m. consecutive (m ++ (h ∷ t))) (below-take h.index e [] u ∙ ap (λ m. e ∷ m) (below-nil h.index))) ∙ c) in
        le-ltb (suc e.index) h.index (omega arith))
        (λ u. le-ltb (suc e.index) h.index (omega arith))
    within (e ∷ (f ∷ a)) c =
        last_cons e f a h.index
        ∙ within (f ∷ a)
        (either e.index h.index
        (λ u. consecutive-tail e (entries_below h.index (f ∷ a) ++ (h ∷ t)) (sym (ap (λ m. consecutive (m ++ (h ∷ t))) (below-take h.index e (f ∷ a) u)) ∙ c))
        (λ u. sym (ap (λ m. consecutive (m ++ (h ∷ t))) (below-skip h.index e (f ∷ a) u)) ∙ c))

-- the newer window is no longer than the laid one
pub length_over : (a t : List EntryIndex) → length t ≤ length (over a t)
length_over a [] = omega arith
length_over a (e ∷ t) = rw (over-cons a e t, length-append (entries_below e.index a) (e ∷ t)) (omega arith)
