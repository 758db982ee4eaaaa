-- What `record_at` asks of `entry_at` and gets from it. Assumes nothing.
use mathlib.Core.List.{List}
use mathlib.Core.Path.{◌≡◌}
use Prim.Native.Nat.{ℕ, ◌+◌, ◌-◌, ◌*◌, ◌≤◌}
use native.Mathlib.Omega.{arith}
use lib.ListN.{length, take, drop, length-drop}
use Rattle.pipe_log.specs.Rows.{entry_of, with_index}
use Rattle.rules.specs.Items.{EntryIndex}
use Rattle.memtable.specs.Views.{row_at, AnyRow}
use Rattle.records.specs.Filling.{Readable}
use Rattle.records.specs.FillingLaws.{all-behind}

module _ (at first i : ℕ) (xs : List ℕ) where
  abbrev rows : List ℕ
  rows = take (length xs - at) (drop at xs)

  pub row-asked : Readable at first i xs → (i * 8 + 8 ≤ length rows) × AnyRow rows i
  row-asked h =
      let n = length-drop at xs in
      rw (all-behind at xs) (omega (arith, h.inside, n), h.row)

  pub row_is : (r : EntryIndex) → r ≡ with_index (first + i) (entry_of (drop (i * 8) rows)) → r ≡ row_at first (drop at xs) i
  unfolding row_at
  row_is r e = rw (all-behind at xs) at e
