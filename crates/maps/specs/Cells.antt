-- A map from numbers that is kept in places: each place holds a number with its value, or is free.
use Rattle.std.specs.Prelude.{Bool, true, false, List, [], ◌∷◌, ◌≡◌, ℕ, eqb}
use Rattle.std.specs.Prelude.{Option, None, Some}
use Rattle.maps.specs.Maps.{Pair, Map, lookup, insert, numbers}

abbrev pub Cell : Type 0 → Type 0
Cell A = Option (Pair ℕ A)

module _ {A : Type 0} where
  -- the map of what the cells hold
  unfoldable pub map_of : List (Cell A) → Map ℕ A
  map_of [] = []
  map_of (None ∷ cs) = map_of cs
  map_of (Some p ∷ cs) = insert numbers p.key p.val (map_of cs)

  -- the cell's number is g
  unfoldable pub holds : ℕ → Cell A → Bool
  holds g None = false
  holds g (Some p) = eqb g p.key

  unfoldable pub is_free_cell : Cell A → Bool
  is_free_cell None = true
  is_free_cell (Some p) = false

  -- no two cells hold one number
  unfoldable pub Distinct : List (Cell A) → Type 0
  Distinct [] = Unit {0}
  Distinct (None ∷ cs) = Distinct cs
  Distinct (Some p ∷ cs) = (lookup numbers p.key (map_of cs) ≡ None) × Distinct cs
