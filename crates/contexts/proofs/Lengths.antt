-- How long the slices of an area are, for the proofs that take parts of them. Assumes nothing.
use mathlib.Core.List.{List}
use mathlib.Core.Path.{◌≡◌}
use Prim.Native.Nat.{ℕ}
use lib.ListN.{length}
use Rattle.contexts.specs.Contexts.{Wf}
use Rattle.contexts.specs.AreaLaws.{formed_of, area-length}

pub area_numbers : (xs bs : List ℕ) → Wf xs bs → length xs ≡ 17231
area_numbers xs bs w = area-length xs bs (formed_of xs bs w)
