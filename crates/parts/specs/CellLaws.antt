-- The cells of a context's room. Assumes nothing.
use Rattle.std.specs.Prelude.{List, ◌≡◌, ℕ, ◌+◌, ◌*◌, ◌<◌, eqb, length, get_or, None, Some}
use Rattle.std.proofs.lemmas.Option.{none-some, same_Some}
use Rattle.std.proofs.Common.{sym, ap, ◌∙◌, add-zero, arith, eq-eqb}
use Rattle.cells.specs.Part.{part}
use Rattle.maps.specs.BoolLaws.{clash}
use Rattle.maps.specs.Maps.{Pair}
use Rattle.maps.specs.OrderLaws.{split}
use Rattle.rules.specs.Context.{Part}
use Rattle.stores.specs.Tags.{Tagged}
use Rattle.room.specs.Rooms.{head_at, count_in, group_in, cell_of, cells_of}
use Rattle.room.specs.RoomLaws.{length-cells, get_or-cells}
use Rattle.room.specs.Layout.{room_of, tagged, RoomWf}
use Rattle.room.specs.LayoutLaws.{cell-count}
use Rattle.room.specs.HeadLaws.{head_number}

-- number i of cell j of a room
pub in_cell : (us : List ℕ) (j i : ℕ) → j < 16 → i < 10 → get_or (head_at j (part 2 160 us)) i 0 ≡ get_or us (2 + j * 10 + i) 0
in_cell us j i l h = head_number 16 us j i l h

pub count-is : (us : List ℕ) (j : ℕ) → j < 16 → count_in (head_at j (part 2 160 us)) ≡ get_or us (2 + j * 10) 0
unfolding count_in
count-is us j l = rw (add-zero (2 + j * 10)) at (in_cell us j 0 l (omega arith))

-- a cell with parts
pub some-cell : (h : List ℕ) (ts : List Tagged) (p : Pair ℕ (List Part)) → cell_of h ts ≡ Some p → (count_in h ≡ 0 → ⊥) × (group_in h ≡ p.key)
unfolding cell_of
some-cell h ts p e =
    split (eqb (count_in h) 0)
    (λ z. absurd (none-some p (rw z at e)))
    (λ z. ((λ n. clash (sym z ∙ eq-eqb (count_in h) 0 n)), ap (λ (q : Pair ℕ (List Part)). q.key) (same_Some _ p (rw z at e))))

module _ (ws vs : List ℕ) (w : RoomWf 16 ws vs) where
  abbrev heads : List ℕ
  heads = part 2 160 ws

  pub cells_count : length (cells_of heads (tagged ws vs)) ≡ 16
  unfolding room_of
  cells_count = length-cells heads (tagged ws vs) ∙ cell-count 16 ws vs w.numbers-are w.bytes-are

  pub cell_at_lem : (k : ℕ) → k < 16 → get_or (cells_of heads (tagged ws vs)) k None ≡ cell_of (head_at k heads) (tagged ws vs)
  unfolding room_of
  cell_at_lem k l = let n = cell-count 16 ws vs w.numbers-are w.bytes-are in get_or-cells k heads (tagged ws vs) (omega (arith, n))
