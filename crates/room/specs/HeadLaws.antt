-- The numbers of a cell, as they are read in a room. Assumes nothing.
use Rattle.std.specs.Prelude.{List, ◌≡◌, refl, ℕ, ◌+◌, ◌*◌, ◌<◌, get_or}
use Rattle.std.proofs.Common.{ap, ◌∙◌, arith}
use Rattle.cells.specs.Part.{part}
use Rattle.cells.specs.PartLaws.{get_or-part}
use Rattle.room.specs.Rooms.{head_at}
use Rattle.room.specs.Layout.{room_of}

pub heads-are : (n : ℕ) (ws vs : List ℕ) → (room_of n ws vs).heads ≡ part 2 (n * 10) ws
unfolding room_of
heads-are n ws vs = refl

-- number i of cell k
pub head_number : (n : ℕ) (ws : List ℕ) (k i : ℕ) → k < n → i < 10 → get_or (head_at k (part 2 (n * 10) ws)) i 0 ≡ get_or ws (2 + k * 10 + i) 0
unfolding head_at
head_number n ws k i l h =
    let e : 2 + (k * 10 + i) ≡ 2 + k * 10 + i = omega arith in
    get_or-part (k * 10) 10 (part 2 (n * 10) ws) i 0 h ∙ get_or-part 2 (n * 10) ws (k * 10 + i) 0 (omega arith) ∙ ap (λ (x : ℕ). get_or ws x 0) e
