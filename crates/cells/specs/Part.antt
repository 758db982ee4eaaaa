-- A stretch of a list, and a list with a stretch laid in: what the contracts of the moves cite. Assumes nothing.
use Rattle.std.specs.Prelude.{ℕ, ◌+◌, List, ◌++◌, length, take, drop}

module _ {A : Type 0} where
  -- the n elements of l from place a
  unfoldable pub part : ℕ → ℕ → List A → List A
  part a n l = take n (drop a l)

  -- d with s laid in from place at
  unfoldable pub put : List A → ℕ → List A → List A
  put d at s = take at d ++ s ++ drop (at + length s) d
