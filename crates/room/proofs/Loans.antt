-- Parts of a room that are lent and come back. Assumes nothing.
use mathlib.Core.List.{List}
use mathlib.Core.Path.{◌≡◌, refl, ◌∙◌}
use Prim.Native.Nat.{ℕ, ◌+◌, ◌-◌, ◌≤◌}
use native.Mathlib.Omega.{arith}
use lib.ListN.{length, take, drop}
use borrow.Rule.Slice.PartMut.{put_mid}
use Rattle.cells.specs.Part.{part, put}
use Rattle.cells.specs.PartLaws.{length_part, loan-put-in}

module _ (a m : ℕ) (d : List ℕ) (k : a + m ≤ length d) where
  -- the lent part by its start and end
  pub lent_is : take (a + m - a) (drop a d) ≡ part a m d
  unfolding part
  lent_is = let e : a + m - a ≡ m = omega arith in rw e

  pub lent_length : length (take (a + m - a) (drop a d)) ≡ m
  lent_length = rw lent_is (length_part a m d k)

  -- a list is laid into the lent part
  pub lent-put : (l : List ℕ) (i : ℕ) (s : List ℕ) → l ≡ put (take (a + m - a) (drop a d)) i s → i + length s ≤ m → put_mid a (a + m - a) d l ≡ put d (a + i) s
  lent-put l i s e h = loan-put-in a (a + m - a) d l i (a + i) s e refl (omega arith) (omega arith)

  -- one that depends on the part itself
  pub lent-moved : (f : List ℕ → List ℕ) (l : List ℕ) (i : ℕ) → l ≡ put (take (a + m - a) (drop a d)) i (f (take (a + m - a) (drop a d))) → i + length (f (part a m d)) ≤ m → put_mid a (a + m - a) d l ≡ put d (a + i) (f (part a m d))
  lent-moved f l i e h = lent-put l i (f (part a m d)) (rw lent_is at e ∙ rw lent_is) h
