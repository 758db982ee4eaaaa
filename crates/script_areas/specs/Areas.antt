-- The first n of eight areas are well formed.
use Rattle.std.specs.Prelude.{List, ◌≡◌, ℕ, ◌*◌, ◌<◌, length}
use Rattle.cells.specs.Part.{part}
use Rattle.contexts.specs.Contexts.{area_numbers, area_bytes, Wf}

pub record Areas (n : ℕ) (xs bs : List ℕ) : Type 0 where
  pub numbers-are : length xs ≡ 8 * area_numbers
  pub bytes-are : length bs ≡ 8 * area_bytes
  pub each : (k : ℕ) → k < n → Wf (part (k * area_numbers) area_numbers xs) (part (k * area_bytes) area_bytes bs)
