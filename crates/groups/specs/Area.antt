-- The eight stretches at the front of an area, each with its bytes, read as the rules' map of groups. Behind them stand
-- eight spare stretches.
use Rattle.std.specs.Prelude.{Bool, true, false, ◌&&◌, List, [], ◌∷◌, ◌≡◌, ℕ, zero, suc, ◌*◌, ◌≤◌, ◌<◌, eqb, length}
use Rattle.cells.specs.Part.{part, put}
use Rattle.maps.specs.Maps.{Map}
use Rattle.maps.specs.Cells.{Cell, map_of, Distinct}
use Rattle.rules.specs.Table.{Table}
use Rattle.stretch.specs.Layout.{stretch_width, bytes_width}
use Rattle.stretch.specs.Stretch.{is_used, group_in, cell_of}
use Rattle.stretch.specs.Stretch as stretch
use Rattle.cells.specs.declared.Slot.{Slot}
use Rattle.cells.specs.declared.Slot.TheVariants.{At, Free, Full}

-- how many groups there can be: 01's 8
abbrev pub slots : ℕ
slots = 8

-- the numbers and the bytes of the stretches and of the spare ones
abbrev pub numbers_in_use : ℕ
numbers_in_use = 9376

abbrev pub bytes_in_use : ℕ
bytes_in_use = 16384

-- stretch k, its bytes, and the cell that they are
unfoldable pub stretch_at : ℕ → List ℕ → List ℕ
stretch_at k xs = part (k * stretch_width) stretch_width xs

unfoldable pub bytes_at : ℕ → List ℕ → List ℕ
bytes_at k bs = part (k * bytes_width) bytes_width bs

unfoldable pub cell_at : ℕ → List ℕ → List ℕ → Cell Table
cell_at k xs bs = cell_of (stretch_at k xs) (bytes_at k bs)

-- the n cells that f gives from k on
unfoldable pub cells_by : (ℕ → Cell Table) → ℕ → ℕ → List (Cell Table)
cells_by f k zero = []
cells_by f k (suc n) = f k ∷ cells_by f (suc k) n

unfoldable pub cells : List ℕ → List ℕ → List (Cell Table)
cells xs bs = cells_by (λ k. cell_at k xs bs) 0 slots

-- the rules' map of groups
unfoldable pub groups_of : List ℕ → List ℕ → Map ℕ Table
groups_of xs bs = map_of (cells xs bs)

-- what holds of the stretches between calls: the lengths, the used ones, and no two of one group
pub record Wf (xs bs : List ℕ) : Type 0 where
  pub numbers_fit : numbers_in_use ≤ length xs
  pub bytes_fit : bytes_in_use ≤ length bs
  pub used : (k : ℕ) → k < slots → is_used (stretch_at k xs) ≡ true → stretch.Wf (stretch_at k xs) (bytes_at k bs)
  pub distinct : Distinct (cells xs bs)

-- stretch k alone is changed: all others are as they were, and what lies behind them
pub record Only (k : ℕ) (xs bs xs' bs' : List ℕ) : Type 0 where
  pub numbers : xs' ≡ put xs (k * stretch_width) (stretch_at k xs')
  pub bytes : bs' ≡ put bs (k * bytes_width) (bytes_at k bs')

-- ---- where a group stands

-- whether a stretch is that of group g
unfoldable pub is_of : ℕ → List ℕ → Bool
is_of g p = is_used p && eqb (group_in p) g

pub record AtSlot (g : ℕ) (xs : List ℕ) (k : ℕ) : Type 0 where
  pub inside : k < slots
  pub used : is_used (stretch_at k xs) ≡ true
  pub number : group_in (stretch_at k xs) ≡ g

pub record FreeSlot (g : ℕ) (xs : List ℕ) (k : ℕ) : Type 0 where
  pub inside : k < slots
  pub free : is_used (stretch_at k xs) ≡ false
  pub absent : (j : ℕ) → j < slots → is_of g (stretch_at j xs) ≡ false

pub record NoSlot (g : ℕ) (xs : List ℕ) : Type 0 where
  pub full : (j : ℕ) → j < slots → is_used (stretch_at j xs) ≡ true
  pub absent : (j : ℕ) → j < slots → is_of g (stretch_at j xs) ≡ false

-- group g stands at a stretch, or is absent and has a free one, or has none
unfoldable pub Found : ℕ → List ℕ → Slot → Type 0
Found g xs (At k) = AtSlot g xs k
Found g xs (Free k) = FreeSlot g xs k
Found g xs Full = NoSlot g xs

-- the stretch of a slot alone is changed; where there is none, nothing
unfoldable pub OnlySlot : Slot → List ℕ → List ℕ → List ℕ → List ℕ → Type 0
OnlySlot (At k) xs bs xs' bs' = Only k xs bs xs' bs'
OnlySlot (Free k) xs bs xs' bs' = Only k xs bs xs' bs'
OnlySlot Full xs bs xs' bs' = (xs' ≡ xs) × (bs' ≡ bs)
