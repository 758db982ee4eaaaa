-- The byte order of `cells` against that of the maps. Assumes nothing.
use Rattle.std.specs.Prelude.{◌≡◌, refl, List, [], ◌∷◌, ℕ, ltb}
use Rattle.std.proofs.Common.{arith, ltb-true, ltb-false, eq-eqb, ne_eqb}
use Rattle.std.specs.Ordering.{is_lt, is_eq}
use Rattle.cells.specs.Bytes.{byte_order}
use Rattle.maps.specs.Maps.{equal_bytes, bytes_below}
use Rattle.maps.specs.OrderLaws.{split}

pub below_by-order : (a b : List ℕ) → bytes_below a b ≡ is_lt (byte_order a b)
unfolding bytes_below byte_order
below_by-order [] [] = refl
below_by-order [] (y ∷ ys) = refl
below_by-order (x ∷ xs) [] = refl
below_by-order (x ∷ xs) (y ∷ ys) =
    split (ltb x y)
    (λ p. rw p)
    (λ p. split (ltb y x)
    (λ q. rw (p, q, ne_eqb x y (λ e. omega (arith, ltb-true y x q))))
    (λ q. rw (p, q, eq-eqb x y (omega (arith, ltb-false x y p, ltb-false y x q))) (below_by-order xs ys)))

pub same_by-order : (a b : List ℕ) → equal_bytes a b ≡ is_eq (byte_order a b)
unfolding equal_bytes byte_order
same_by-order [] [] = refl
same_by-order [] (y ∷ ys) = refl
same_by-order (x ∷ xs) [] = refl
same_by-order (x ∷ xs) (y ∷ ys) =
    split (ltb x y)
    (λ p. rw (p, ne_eqb x y (λ e. omega (arith, ltb-true x y p))))
    (λ p. split (ltb y x)
    (λ q. rw (p, q, ne_eqb x y (λ e. omega (arith, ltb-true y x q))))
    (λ q. rw (p, q, eq-eqb x y (omega (arith, ltb-false x y p, ltb-false y x q))) (same_by-order xs ys)))
