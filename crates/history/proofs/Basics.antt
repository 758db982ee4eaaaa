-- Facts of options and lists that the proofs below share.
-- Assumes nothing.
use mathlib.Core.Path.{◌≡◌, refl}
use mathlib.Core.Bool.{Bool, true, false, cond}
use mathlib.Core.List.{List, [], ◌∷◌}
use Rattle.std.specs.Prelude.{None, Some}
use Prim.Native.Nat.{ℕ}
use native.Mathlib.Omega.{arith}

pub cons-not-nil : {A : Type 0} {x : A} {xs : List A} → x ∷ xs ≡ [] → ⊥
cons-not-nil p = let z : ◌≡◌ {A = ℕ} 0 1 = cc in omega arith

pub some-not-none : {A : Type 0} {a : A} → Some a ≡ None → ⊥
some-not-none p = let z : ◌≡◌ {A = ℕ} 0 1 = cc in omega arith

pub cond_same : {A : Type 0} (b : Bool) (a : A) → cond b a a ≡ a
cond_same true a = refl
cond_same false a = refl
