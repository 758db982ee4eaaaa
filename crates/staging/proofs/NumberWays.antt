-- The ways through the functions that find a number. Assumes nothing.
use Rattle.std.specs.Prelude.{Option}
use mathlib.Core.List.{List}
use mathlib.Core.Path.{◌≡◌}
use Prim.Native.Nat.{ℕ, ◌+◌, ◌-◌, ◌*◌, ◌≤◌, ◌<◌}
use native.Mathlib.Nat.{add-zero}
use native.Mathlib.Omega.{arith}
use lib.ListN.{length, get_or, take, drop}
use borrow.Author.Tests.{lt-ltb, le-ltb}
use borrow.Author.Rules.{part_to_end}
use Rattle.cells.specs.PartLaws.{part-is, get_or-part}
use Rattle.stretch.specs.Layout.{stretch_width}
use Rattle.groups.specs.Area.{stretch_at}
use Rattle.staging.specs.Modes.{stretch_number, tombstone_number, waiting_number, number_at, numbers_of}

-- a number of stretch k
pub in-stretch : (k i : ℕ) (xs : List ℕ) → i < stretch_width → get_or (stretch_at k xs) i 0 ≡ get_or xs (k * stretch_width + i) 0
unfolding stretch_at
in-stretch k i xs l = get_or-part (k * stretch_width) stretch_width xs i 0 l

pub first_is : (k : ℕ) (xs : List ℕ) → get_or (stretch_at k xs) 0 0 ≡ get_or xs (k * stretch_width) 0
first_is k xs = rw (add-zero (k * stretch_width)) at (in-stretch k 0 xs (omega arith))

pub second_is : (k : ℕ) (xs : List ℕ) → get_or (stretch_at k xs) 1 0 ≡ get_or xs (k * stretch_width + 1) 0
second_is k xs = in-stretch k 1 xs (omega arith)

module _ (xs ys : List ℕ) (i : ℕ) (r : Option ℕ) where
  pub older_number : i < 8 → numbers_of r ≡ stretch_number i xs → numbers_of r ≡ number_at xs ys i
  unfolding number_at
  older_number l e = rw (lt-ltb i 8 l) e

  pub newer_number : 8 ≤ i → i < 16 → numbers_of r ≡ stretch_number (i - 8) ys → numbers_of r ≡ number_at xs ys i
  unfolding number_at
  newer_number h l e = rw (le-ltb i 8 h, lt-ltb i 16 l) e

  pub of_tombstone : 16 ≤ i → i < 80 → numbers_of r ≡ tombstone_number (i - 16) (take (length ys - 9376) (drop 9376 ys)) → numbers_of r ≡ number_at xs ys i
  unfolding number_at
  of_tombstone h l e = rw (le-ltb i 8 (omega arith), le-ltb i 16 h, lt-ltb i 80 l) (rw (part_to_end ys 9376) at e)

  pub of_waiting : 80 ≤ i → numbers_of r ≡ waiting_number (i - 80) (take 3490 (drop 10019 ys)) → numbers_of r ≡ number_at xs ys i
  unfolding number_at
  of_waiting h e = rw (le-ltb i 8 (omega arith), le-ltb i 16 (omega arith), le-ltb i 80 h) (rw (part-is 10019 3490 ys) at e)
