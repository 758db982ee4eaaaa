-- Laws of results and of steps in order.
-- Assumes nothing.
use Rattle.std.specs.Prelude.{◌≡◌, Bool, true, List, [], ◌∷◌, ◌++◌, ℕ, eqb}
use Rattle.std.proofs.Math.Path.{refl}
use Rattle.std.proofs.Common.{sym, ◌∙◌, arith, eqb-true, eq-eqb, ne_eqb}
use Rattle.std.specs.Prelude.{Option, None, Some}
use Rattle.std.proofs.lemmas.Bool.{eqb-false}
use Rattle.maps.specs.Lists.{every}
use Rattle.maps.specs.ListLaws.{every-head, every-tail}
use Rattle.maps.specs.OrderLaws.{split}
use Rattle.rules.specs.Causes.{Cause, number_of, Refusal, Result, Ok, Err, and_then, in_order}

pub ok_inj : {A : Type 0} {a b : A} → ◌≡◌ {A = Result A} (Ok a) (Ok b) → a ≡ b
ok_inj p = cc

-- a result has one refusal
pub one-refusal : {A : Type 0} (r : Result A) (x y : Refusal) → r ≡ Err x → r ≡ Err y → x ≡ y
one-refusal r x y p q = cc

-- the refusal by a cause without a place
abbrev pub refusal_of : Cause → Refusal
refusal_of n = record { cause = n; place = None }

pub refused_not_ok : {A : Type 0} {a : A} {r : Refusal} → Err r ≡ Ok a → ⊥
refused_not_ok p = let z : ◌≡◌ {A = ℕ} 0 1 = cc in omega arith

-- by the two kinds of a result
pub by_result : {A P : Type 0} (r : Result A) → ((a : A) → r ≡ Ok a → P) → ((x : Refusal) → r ≡ Err x → P) → P
by_result (Ok a) f g = f a refl
by_result (Err x) f g = g x refl

pub by_option : {A P : Type 0} (o : Option A) → (o ≡ None → P) → ((a : A) → o ≡ Some a → P) → P
by_option None f g = f refl
by_option (Some a) f g = g a refl

-- what follows an accepted step
pub and_then_ok : {A B : Type 0} (r : Result A) (f : A → Result B) (b : B) → and_then r f ≡ Ok b → (a : A) × (r ≡ Ok a) × (f a ≡ Ok b)
unfolding and_then
and_then_ok (Ok a) f b h = (a, refl, h)
and_then_ok (Err r) f b h = absurd (refused_not_ok h)

pub and_then_of : {A B : Type 0} (r : Result A) (f : A → Result B) (a : A) → r ≡ Ok a → and_then r f ≡ f a
unfolding and_then
and_then_of r f a h = rw h

pub and_then-refused : {A B : Type 0} (r : Result A) (f : A → Result B) (x : Refusal) → r ≡ Err x → and_then r f ≡ Err x
unfolding and_then
and_then-refused r f x h = rw h

pub and_then_same : {A B : Type 0} (r : Result A) (f g : A → Result B) → ((a : A) → f a ≡ g a) → and_then r f ≡ and_then r g
unfolding and_then
and_then_same (Ok a) f g e = e a
and_then_same (Err x) f g e = refl

-- where only what was accepted matters
pub and_then_same_at : {A B : Type 0} (r : Result A) (f g : A → Result B) → ((a : A) → r ≡ Ok a → f a ≡ g a) → and_then r f ≡ and_then r g
unfolding and_then
and_then_same_at (Ok a) f g e = e a refl
and_then_same_at (Err x) f g e = refl

pub and_then-unit : {A : Type 0} (r : Result A) → and_then r (λ a. Ok a) ≡ r
unfolding and_then
and_then-unit (Ok a) = refl
and_then-unit (Err x) = refl

pub and_then-assoc : {A B C : Type 0} (r : Result A) (f : A → Result B) (g : B → Result C) → and_then (and_then r f) g ≡ and_then r (λ a. and_then (f a) g)
unfolding and_then
and_then-assoc (Ok a) f g = refl
and_then-assoc (Err x) f g = refl

pub and_then-map : {A B C : Type 0} (r : Result A) (f : A → B) (g : B → Result C) → and_then (and_then r (λ a. Ok (f a))) g ≡ and_then r (λ a. g (f a))
unfolding and_then
and_then-map (Ok a) f g = refl
and_then-map (Err x) f g = refl

pub in_order-append : {A C : Type 0} (f : A → C → Result C) (xs ys : List A) (c : C) → in_order f (xs ++ ys) c ≡ and_then (in_order f xs c) (in_order f ys)
unfolding in_order
in_order-append f [] ys c = unfold and_then in refl
in_order-append f (x ∷ xs) ys c =
    and_then_same (f x c) (in_order f (xs ++ ys)) (λ d. and_then (in_order f xs d) (in_order f ys)) (λ d. in_order-append f xs ys d)
    ∙ sym (and_then-assoc (f x c) (in_order f xs) (in_order f ys))

-- what each accepted step keeps
pub in_order-kept : {A C : Type 0} (f : A → C → Result C) (good : A → Bool) (P : C → Type 0) → ((a : A) (c d : C) → good a ≡ true → P c → f a c ≡ Ok d → P d) → (xs : List A) (c d : C) → every good xs ≡ true → P c → in_order f xs c ≡ Ok d → P d
unfolding in_order
in_order-kept f good P keep [] c d h p e = rw (ok_inj e) at p
in_order-kept f good P keep (x ∷ xs) c d h p e =
    let s = and_then_ok (f x c) (in_order f xs) d e in
    in_order-kept f good P keep xs s.0 d (every-tail good x xs h) (keep x c s.0 (every-head good x xs h) p s.1) s.2

-- the one refusal of every step
pub in_order-refused : {A C : Type 0} (f : A → C → Result C) (y : Refusal) → ((a : A) (c : C) (x : Refusal) → f a c ≡ Err x → x ≡ y) → (xs : List A) (c : C) (x : Refusal) → in_order f xs c ≡ Err x → x ≡ y
unfolding in_order
in_order-refused f y each [] c x e = absurd (refused_not_ok (sym e))
in_order-refused f y each (a ∷ bs) c x e =
    by_result (f a c)
    (λ d h. in_order-refused f y each bs d x (sym (and_then_of (f a c) (in_order f bs) d h) ∙ e))
    (λ z h. one-refusal (and_then (f a c) (in_order f bs)) x z e (and_then-refused (f a c) (in_order f bs) z h) ∙ each a c z h)

-- numbers are compared either way round
pub eqb_comm : (a b : ℕ) → eqb a b ≡ eqb b a
eqb_comm a b =
    split (eqb b a)
    (λ e. rw (e, eqb-true b a e) (eq-eqb a a refl))
    (λ e. rw e (ne_eqb a b (λ z. eqb-false b a e (sym z))))
