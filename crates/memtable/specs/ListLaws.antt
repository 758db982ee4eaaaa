-- Laws of the functions of `maps` on lists. They belong to that crate's laws, and stand here until those are there.
use Rattle.std.specs.Prelude.{Bool, true, false, cond, ◌≡◌}
use mathlib.Core.List.{List, [], ◌∷◌, ◌++◌}
use Rattle.std.proofs.Math.Path.{refl}
use Rattle.std.proofs.Common.{ap}
use Rattle.maps.specs.Lists.{select, front, rest}

module _ {A : Type 0} (p : A → Bool) where
  -- p is b of each element
  pub data All (b : Bool) : List A → Type 0 where
    none : All b []
    more : {x : A} {xs : List A} → p x ≡ b → All b xs → All b (x ∷ xs)

  cond-append : (b : Bool) (x : A) (u v : List A) → cond b (x ∷ (u ++ v)) (u ++ v) ≡ cond b (x ∷ u) u ++ v
  cond-append true x u v = refl
  cond-append false x u v = refl

  pub select-append : (xs ys : List A) → select p (xs ++ ys) ≡ select p xs ++ select p ys
  unfolding select
  select-append [] ys = refl
  select-append (x ∷ xs) ys = rw (select-append xs ys) (cond-append (p x) x (select p xs) (select p ys))

  pub select_all : {xs : List A} → All true xs → select p xs ≡ xs
  unfolding select
  select_all none = refl
  select_all (more {x = x} h t) = rw h (ap (λ (l : List A). x ∷ l) (select_all t))

  pub select-none : {xs : List A} → All false xs → select p xs ≡ []
  unfolding select
  select-none none = refl
  select-none (more h t) = rw h (select-none t)

  pub front_all : {xs : List A} (ys : List A) → All true xs → front p (xs ++ ys) ≡ xs ++ front p ys
  unfolding front
  front_all ys none = refl
  front_all ys (more {x = x} h t) = rw h (ap (λ (l : List A). x ∷ l) (front_all ys t))

  pub front-none : {xs : List A} → All false xs → front p xs ≡ []
  unfolding front
  front-none none = refl
  front-none (more h t) = rw h

  pub rest_all : {xs : List A} (ys : List A) → All true xs → rest p (xs ++ ys) ≡ rest p ys
  unfolding rest
  rest_all ys none = refl
  rest_all ys (more h t) = rw h (rest_all ys t)

  pub rest-none : {xs : List A} → All false xs → rest p xs ≡ xs
  unfolding rest
  rest-none none = refl
  rest-none (more h t) = rw h
