-- What is printed behind what was printed. Assumes nothing.
use mathlib.Core.List.{List, ◌++◌}
use mathlib.Core.Path.{◌≡◌, sym, ap, ◌∙◌}
use Prim.Native.Nat.{ℕ, ◌+◌, ◌-◌, ◌≤◌}
use native.Mathlib.Nat.{zero-add}
use native.Mathlib.Omega.{arith}
use lib.ListN.{length, take, drop, length-append, length-take, length-drop}
use borrow.Rule.Slice.PartMut.{put_mid}
use Rattle.cells.specs.Part.{part, put}
use Rattle.cells.specs.PartLaws.{part-front, part-append, part-is, part_left, length_part, loan-put, take_put, from-put, length-put}

take-both : (n m : ℕ) (l : List ℕ) → take n l ++ take m (drop n l) ≡ take (n + m) l
take-both n m l =
    ap (λ x. x ++ take m (drop n l)) (part-front n l)
    ∙ ap (λ x. part 0 n l ++ x) (part-is n m l)
    ∙ ap (λ k. part 0 n l ++ part k m l) (sym (zero-add n))
    ∙ part-append 0 n m l
    ∙ sym (part-front (n + m) l)

pub take-front : (m : ℕ) (s t : List ℕ) → m ≤ length s → take m (s ++ t) ≡ take m s
take-front m s t h = part-front m (s ++ t) ∙ part_left 0 m s t (omega arith) ∙ sym (part-front m s)

-- p was lent from place a of out on, n bytes
module _ (a n : ℕ) (out p : List ℕ) (fits : length p ≡ n) (inside : a + n ≤ length out) where
  pub length_lent : length (put_mid a n out p) ≡ length out
  length_lent = ap length (loan-put a n out p fits) ∙ length-put out a p (omega arith)

  pub printed-behind : (m : ℕ) → m ≤ n → take (a + m) (put_mid a n out p) ≡ take a out ++ take m p
  printed-behind m h =
      ap (take (a + m)) (loan-put a n out p fits)
      ∙ sym (take-both a m (put out a p))
      ∙ ap (λ x. x ++ take m (drop a (put out a p))) (take_put a out a p (omega arith) (omega arith))
      ∙ ap (λ x. take a out ++ take m x) (from-put out a p (omega arith))
      ∙ ap (λ x. take a out ++ x) (take-front m p (drop (a + length p) out) (omega arith))

-- a part that is lent
pub lent_length : (a n : ℕ) (l : List ℕ) → a + n ≤ length l → length (take (a + n - a) (drop a l)) ≡ n
lent_length a n l h =
    let e : a + n - a ≡ n = omega arith in
    ap (λ k. length (take k (drop a l))) e ∙ ap length (part-is a n l) ∙ length_part a n l h

-- the first n bytes of out were lent, and came back as front
module _ (n : ℕ) (out front : List ℕ) (same : length front ≡ length (take n out)) (fits : n ≤ length out) where
  pub front_length : length front ≡ n
  front_length = omega (arith, same, length-take n out)

  pub whole_length : length (front ++ drop n out) ≡ length out
  whole_length = omega (arith, front_length, length-append front (drop n out), length-drop n out)
