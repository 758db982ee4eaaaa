-- Places within slices, and rows. Assumes nothing.
use mathlib.Core.Path.{◌≡◌, sym, ◌∙◌}
use mathlib.Core.List.{List}
use Prim.Native.Nat.{ℕ, ◌+◌, ◌-◌, ◌≤◌}
use native.Mathlib.Decide.{dec_le}
use native.Mathlib.Omega.{arith}
use lib.Dec.{leb}
use lib.ListN.{length, take, drop}
use borrow.Author.Tests.{le-leb, lt-leb}
use Rattle.cells.specs.Part.{part}
use Rattle.cells.specs.PartLaws.{part-is, part_back, length_part}

-- n places from a on end by e
pub leb-after : (a n e : ℕ) → a ≤ e → leb n (e - a) ≡ leb (a + n) e
leb-after a n e h =
    elim (dec_le (a + n) e) [
      | yes l ↦ le-leb n (e - a) (omega arith) ∙ sym (le-leb (a + n) e l)
      | no l ↦ lt-leb n (e - a) (omega arith) ∙ sym (lt-leb (a + n) e (omega arith))
    ]

-- `&s[a..a + n]`
module _ {A : Type 0} (a n : ℕ) (l : List A) where
  pub lent-part : take (a + n - a) (drop a l) ≡ part a n l
  lent-part = let e : a + n - a ≡ n = omega arith in rw e (part-is a n l)

  pub lent_length : a + n ≤ length l → length (take (a + n - a) (drop a l)) ≡ n
  lent_length h = rw lent-part (length_part a n l h)

-- `&s[a..]`
pub lent_back : {A : Type 0} (a : ℕ) (l : List A) → take (length l - a) (drop a l) ≡ drop a l
lent_back a l = rw (part-is a (length l - a) l) (sym (part_back a l))
