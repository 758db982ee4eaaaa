-- The laws of the cells of a room. Assumes nothing.
use Rattle.std.specs.Prelude.{List, ◌∷◌, ◌≡◌, length, get_or, set}
use Rattle.std.specs.Prelude.{None}
use Rattle.std.proofs.Math.Path.{refl, ap}
use Rattle.std.proofs.Common.{◌∙◌, zero-add, add-zero, arith}
use Prim.Native.Nat.{ℕ, zero, suc, ◌+◌, ◌*◌, ◌≤◌, ◌<◌}
use Rattle.std.proofs.Math.Nat.{add-suc, suc-add}
use Rattle.cells.specs.PartLaws.{get_or-part}
use Rattle.maps.specs.Cells.{Cell}
use Rattle.stores.specs.Tags.{Tagged}
use Rattle.room.specs.Rooms.{head_at, count_in, cell_of, cells_by, cell_count, cells_of}

-- ---- cells that a function of the place gives

module _ {A : Type 0} where
  pub length-cells_by : (f : ℕ → Cell A) (k n : ℕ) → length (cells_by f k n) ≡ n
  unfolding cells_by
  length-cells_by f k zero = refl
  length-cells_by f k (suc n) = ap suc (length-cells_by f (suc k) n)

  pub get_or-cells_by : (f : ℕ → Cell A) (k n i : ℕ) → i < n → get_or (cells_by f k n) i None ≡ f (k + i)
  unfolding cells_by
  get_or-cells_by f k zero i h = absurd (omega arith)
  get_or-cells_by f k (suc n) zero h = rw (add-zero k)
  get_or-cells_by f k (suc n) (suc i) h = get_or-cells_by f (suc k) n i (omega arith) ∙ rw (suc-add k i, add-suc k i)

  pub same-cells_by : (f g : ℕ → Cell A) (k n : ℕ) → ((i : ℕ) → k ≤ i → i < k + n → f i ≡ g i) → cells_by f k n ≡ cells_by g k n
  unfolding cells_by
  same-cells_by f g k zero h = refl
  same-cells_by f g k (suc n) h = rw (h k (omega arith) (omega arith), same-cells_by f g (suc k) n (λ i a b. h i (omega arith) (omega arith)))

  -- the cells differ at place i alone
  pub set-cells_by : (f g : ℕ → Cell A) (k n i : ℕ) → i < n → ((j : ℕ) → j < k + n → (j ≡ k + i → ⊥) → g j ≡ f j) → cells_by g k n ≡ set (cells_by f k n) i (g (k + i))
  unfolding cells_by
  set-cells_by f g k zero i l h = absurd (omega arith)
  set-cells_by f g k (suc n) zero l h =
      rw (add-zero k, same-cells_by g f (suc k) n (λ j a b. h j (omega arith) (λ e. omega arith)))
  set-cells_by f g k (suc n) (suc i) l h =
      rw (h k (omega arith) (λ e. omega arith), add-suc k i, ← suc-add k i)
      (ap (◌∷◌ (f k)) (set-cells_by f g (suc k) n i (omega arith) (λ j b d. h j (omega arith) (λ e. d (omega arith)))))

-- ---- the cells of a room

pub length-cells : (hs : List ℕ) (xs : List Tagged) → length (cells_of hs xs) ≡ cell_count hs
unfolding cells_of
length-cells hs xs = length-cells_by (λ k. cell_of (head_at k hs) xs) 0 (cell_count hs)

pub get_or-cells : (k : ℕ) (hs : List ℕ) (xs : List Tagged) → k < cell_count hs → get_or (cells_of hs xs) k None ≡ cell_of (head_at k hs) xs
unfolding cells_of
get_or-cells k hs xs l = rw (zero-add k) at (get_or-cells_by (λ j. cell_of (head_at j hs) xs) 0 (cell_count hs) k l)

-- a cell with no part is free
pub free-cell : (h : List ℕ) (xs : List Tagged) → count_in h ≡ 0 → cell_of h xs ≡ None
unfolding cell_of
free-cell h xs e = rw e

-- the number of parts of cell k, as it is read
pub count_at : (k : ℕ) (hs : List ℕ) → count_in (head_at k hs) ≡ get_or hs (k * 10) 0
unfolding count_in head_at
count_at k hs = get_or-part (k * 10) 10 hs 0 0 (omega arith) ∙ rw (add-zero (k * 10))
