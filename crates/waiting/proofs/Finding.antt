-- The search for the cell of a group, or for a free one. Assumes nothing.
use mathlib.Core.Bool.{Bool, true, false}
use mathlib.Core.List.{List}
use mathlib.Core.Path.{◌≡◌, ◌∙◌}
use Prim.Native.Nat.{ℕ, ◌+◌, ◌*◌, ◌≤◌, ◌<◌}
use native.Mathlib.Nat.{add-zero}
use native.Mathlib.Omega.{arith}
use lib.Dec.{eqb}
use lib.ListN.{get_or}
use borrow.Author.Tests.{ne_eqb}
use Rattle.std.specs.Option.{MatchOption}
use Rattle.std.specs.Prelude.{Option, Some, None}
use Rattle.cells.specs.Part.{part}
use Rattle.rules.specs.Items.{Status, status_of}
use Rattle.room.specs.Rooms.{head_at, count_in, group_in}
use Rattle.room.specs.HeadLaws.{head_number}
use Rattle.waiting.specs.declared.PartHead.{PartHead}
use Rattle.waiting.specs.Steps.{is_of, is_free_cell, FirstOf, step_by, step_of}

module _ (n : ℕ) (ws : List ℕ) (k : ℕ) (l : k < n) where
  count-is : count_in (head_at k (part 2 (n * 10) ws)) ≡ get_or ws (2 + k * 10) 0
  unfolding count_in
  count-is = head_number n ws k 0 l (omega arith) ∙ rw (add-zero (2 + k * 10))

  group-is : group_in (head_at k (part 2 (n * 10) ws)) ≡ get_or ws (2 + k * 10 + 1) 0
  unfolding group_in
  group-is = head_number n ws k 1 l (omega arith)

  pub free_is : eqb (get_or ws (2 + k * 10) 0) 0 ≡ is_free_cell (head_at k (part 2 (n * 10) ws))
  unfolding is_free_cell
  free_is = rw count-is

  pub is_of_used : (g : ℕ) → (get_or ws (2 + k * 10) 0 ≡ 0 → ⊥) → eqb (get_or ws (2 + k * 10 + 1) 0) g ≡ is_of g (head_at k (part 2 (n * 10) ws))
  unfolding is_of
  is_of_used g d = rw (count-is, group-is, ne_eqb (get_or ws (2 + k * 10) 0) 0 d)

  pub is_of_free : (g : ℕ) → get_or ws (2 + k * 10) 0 ≡ 0 → false ≡ is_of g (head_at k (part 2 (n * 10) ws))
  unfolding is_of
  is_of_free g e = rw (count-is, e)

  pub step_is : (new : PartHead) (st old : Status) → st ≡ status_of new.status → old ≡ status_of (get_or ws (2 + k * 10 + 3) 0) → step_by st new.start old (get_or ws (2 + k * 10 + 5) 0) ≡ step_of new (head_at k (part 2 (n * 10) ws))
  unfolding step_of
  step_is new st old f e = rw (f, e, head_number n ws k 3 l (omega arith), head_number n ws k 5 l (omega arith))

-- what `find` over the cells tells
pub first-of : (p : List ℕ → Bool) (n : ℕ) (hs : List ℕ) (r : Option ℕ) → MatchOption r ((k : ℕ) → 0 ≤ k → k < n → p (head_at k hs) ≡ false) (λ i. (0 ≤ i) × (i < n) × (p (head_at i hs) ≡ true) × ((k : ℕ) → 0 ≤ k → k < i → p (head_at k hs) ≡ false)) → FirstOf p n hs r
first-of p n hs None m = λ k l. m k (omega arith) l
first-of p n hs (Some i) m = record { inside = m.1; here = m.2; before = λ k l. m.3 k (omega arith) l }
