-- Row i of the parts: what a function of one row requires. Assumes nothing.
use Rattle.std.specs.Prelude.{ℕ, ◌+◌, ◌*◌, ◌-◌, ◌≤◌, ◌<◌, ◌≡◌, List, length, take, drop}
use Rattle.std.proofs.Math.Nat.{add-zero}
use native.Mathlib.Omega.{arith}
use Rattle.std.proofs.Math.ListN.{get_or, length-take}
use Rattle.cells.specs.PartLaws.{get_or-part, part-part, take_part, part-is}
use Rattle.kvs.specs.Rows.{row_at, key_of, value_of, RowOk, Wf}
use Rattle.kvs.specs.RowLaws.{ok_at}

-- both parts have row i, and its numbers are those of a key
pub record RowIn (i : ℕ) (rows bs : List ℕ) : Type 0 where
  pub rows_fit : i * 4 + 4 ≤ length rows
  pub bytes_fit : i * 64 + 64 ≤ length bs
  pub ok : RowOk (row_at i rows bs)

pub row_in : (n i : ℕ) (rows bs : List ℕ) → Wf n rows bs → i < n → RowIn i rows bs
row_in n i rows bs w h =
    record { rows_fit = omega arith; bytes_fit = omega arith; ok = ok_at rows bs n i h w.ok }

module _ (i : ℕ) (rows bs : List ℕ) where
  -- the numbers of row i where they stand
  pub number_at : (j : ℕ) → j < 4 → get_or (row_at i rows bs).numbers j 0 ≡ get_or rows (i * 4 + j) 0
  unfolding row_at
  number_at j h = get_or-part (i * 4) 4 rows j 0 h

  pub key-length : RowIn i rows bs → get_or rows (i * 4) 0 ≤ 32
  key-length r = rw (number_at 0 (omega arith), add-zero (i * 4)) at r.ok.key_fits

  pub value-length : RowIn i rows bs → get_or rows (i * 4 + 1) 0 ≤ 32
  value-length r = rw (number_at 1 (omega arith)) at r.ok.value-fits

  -- the key and the value as the parts `&bytes[a..e]`
  pub key-part : RowIn i rows bs → take (i * 64 + get_or rows (i * 4) 0 - i * 64) (drop (i * 64) bs) ≡ key_of (row_at i rows bs)
  unfolding key_of row_at
  key-part r =
      let l = get_or rows (i * 4) 0 in
      let b : l ≤ 32 = key-length r in
      let e : i * 64 + l - i * 64 ≡ l = omega arith in
      rw (
        number_at 0 (omega arith),
        add-zero (i * 4),
        part-part 0 32 (i * 64) 64 bs (omega arith),
        add-zero (i * 64),
        take_part l (i * 64) 32 bs b,
        e,
        part-is (i * 64) l bs,
      )

  pub value-part : RowIn i rows bs → take (i * 64 + 32 + get_or rows (i * 4 + 1) 0 - (i * 64 + 32)) (drop (i * 64 + 32) bs) ≡ value_of (row_at i rows bs)
  unfolding value_of row_at
  value-part r =
      let l = get_or rows (i * 4 + 1) 0 in
      let b : l ≤ 32 = value-length r in
      let e : i * 64 + 32 + l - (i * 64 + 32) ≡ l = omega arith in
      rw (number_at 1 (omega arith), part-part 32 32 (i * 64) 64 bs (omega arith), take_part l (i * 64 + 32) 32 bs b, e, part-is (i * 64 + 32) l bs)

  -- they have at most 32 bytes
  pub length_key : RowIn i rows bs → length (key_of (row_at i rows bs)) ≤ 32
  unfolding key_of
  length_key r = simp length-take (omega (arith, r.ok.key_fits))

  pub length-value : RowIn i rows bs → length (value_of (row_at i rows bs)) ≤ 32
  unfolding value_of
  length-value r = simp length-take (omega (arith, r.ok.value-fits))

-- what is known of the key and of the value of a row
pub ruleset key_rules = (key-length, key-part)

pub ruleset value_rules = (value-length, value-part)
