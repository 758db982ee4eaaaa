-- A room is cleared cell by cell. Assumes nothing.
use mathlib.Core.List.{List}
use mathlib.Core.Path.{◌≡◌, ◌∙◌}
use Prim.Native.Nat.{ℕ, ◌+◌, ◌*◌, ◌≤◌, ◌<◌}
use native.Mathlib.Decide.{dec_lt}
use native.Mathlib.Omega.{arith}
use lib.ListN.{length, get_or, set, length-set}
use lib.Seq.{get_or-set_same, get_or-set_other}
use Rattle.room.specs.Layout.{Empty}
use Rattle.room.specs.LayoutLaws.{empty-room}

-- the two counts and the first k cells are cleared
pub record Cleared (k n : ℕ) (ws : List ℕ) : Type 0 where
  pub numbers-are : length ws ≡ 2 + n * 218
  pub items : get_or ws 0 0 ≡ 0
  pub entries : get_or ws 1 0 ≡ 0
  pub cells : (j : ℕ) → j < k → get_or ws (2 + j * 10) 0 ≡ 0

pub cleared_more : (k n : ℕ) (ws : List ℕ) → k < n → Cleared k n ws → Cleared (k + 1) n (set ws (2 + k * 10) 0)
cleared_more k n ws h c =
    let e = c.numbers-are in
    let at = 2 + k * 10 in
    record {
      numbers-are = length-set ws at 0 ∙ e;
      items = get_or-set_other ws at 0 0 0 (λ z. omega arith) ∙ c.items;
      entries = get_or-set_other ws at 1 0 0 (λ z. omega arith) ∙ c.entries;
      cells =
          λ j l. elim (dec_lt j k) [
            | yes m ↦ get_or-set_other ws at (2 + j * 10) 0 0 (λ z. omega arith) ∙ c.cells j m
            | no m ↦ let same : j ≡ k = omega arith in rw same (get_or-set_same ws at 0 0 (omega arith))
          ];
    }

pub cleared_all : (k n : ℕ) (ws : List ℕ) → n ≤ k → Cleared k n ws → (vs : List ℕ) → length vs ≡ n * 512 → Empty n ws vs
cleared_all k n ws h c vs f = empty-room n ws vs c.numbers-are f c.items c.entries (λ j l. c.cells j (omega arith))
