-- What the moves of a slice say, as a put. Assumes nothing.
use Prim.Native.Nat.{ℕ, ◌+◌, ◌-◌, ◌≤◌}
use native.Mathlib.Omega.{arith}
use mathlib.Core.Path.{◌≡◌}
use mathlib.Core.List.{List}
use lib.ListN.{length}
use borrow.Rule.Slice.PartMut.{put_mid}
use Rattle.std.specs.List.{copy_within}
use Rattle.cells.specs.Part.{part, put}
use Rattle.cells.specs.PartLaws.{length_part, loan-put}

module _ {A : Type 0} where
  pub shifted : (s t : List A) (from to count : ℕ) → from + count ≤ length s → t ≡ copy_within s from (from + count) to → t ≡ put s to (part from count s)
  unfolding put part
  shifted s t from to count h e =
      let k : from + count - from ≡ count = omega arith in
      rw (e, length_part from count s h, k)

  pub copied : (d s : List A) (a n : ℕ) → length s ≡ n - a → put_mid a (n - a) d s ≡ put d a s
  copied d s a n e = loan-put a (n - a) d s e
