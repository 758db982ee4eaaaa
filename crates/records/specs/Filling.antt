-- Rows that are stored as records into a lent list.
use Rattle.std.specs.Prelude.{List, ℕ, ◌+◌, ◌*◌, ◌≤◌, ◌<◌, ◌^◌, length, drop}
use Rattle.memtable.specs.Views.{AnyRow, AnyRows}

-- row i of those from place `at` on is a record, whose index is in range if the first one's is `first`
pub record Readable (at first i : ℕ) (xs : List ℕ) : Type 0 where
  pub inside : at + (i * 8 + 8) ≤ length xs
  pub index : first + i < 2 ^ 63
  pub row : AnyRow (drop at xs) i

-- so are `count` of them, and the list has room for them
pub record Fillable (at first count : ℕ) (xs : List ℕ) (room : ℕ) : Type 0 where
  pub inside : at + count * 8 ≤ length xs
  pub index : first + count ≤ 2 ^ 63
  pub rows : AnyRows 0 count (drop at xs)
  pub fits : count ≤ room
