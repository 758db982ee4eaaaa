-- The keys depend on the rows in use alone. Assumes nothing.
use Rattle.std.specs.Prelude.{List, ◌≡◌, ℕ, ◌*◌, ◌/◌, ◌≤◌, length, take, refl}
use Rattle.std.proofs.Common.{◌∙◌, arith, take_all, length-take-le}
use Rattle.cells.specs.Part.{part}
use Rattle.kvs.specs.Rows.{rows_from, keys_in, Wf}
use Rattle.kvs.specs.RowLaws.{Same, rows_same}

-- the second pair of parts has the n rows of the first
module _ (n : ℕ) (rows bs rows' bs' : List ℕ) (s : Same 0 0 n rows' bs' rows bs) where
  rows_are : rows_from 0 n rows' bs' ≡ rows_from 0 n rows bs
  rows_are = rows_same n 0 0 rows' bs' rows bs s.numbers s.bytes

  pub keys_same : keys_in n rows' bs' ≡ keys_in n rows bs
  unfolding keys_in
  keys_same = rw rows_are

  pub wf_same : n * 4 ≤ length rows' → n * 64 ≤ length bs' → Wf n rows bs → Wf n rows' bs'
  wf_same p q w = record { rows_fit = p; bytes_fit = q; ok = rw rows_are w.ok; ascending = rw keys_same w.ascending }

-- the rows in use are those of as many keys as they have whole rows
pub keys_used : (n : ℕ) (rows bs used : List ℕ) → n * 4 ≤ length rows → used ≡ take (n * 4) rows → keys_in (length used / 4) used bs ≡ keys_in n rows bs
unfolding part
keys_used n rows bs used h e =
    let l : length used ≡ n * 4 = rw e (length-take-le (n * 4) rows h) in
    let c : length used / 4 ≡ n = omega arith in
    let front : part (0 * 4) (n * 4) used ≡ part (0 * 4) (n * 4) rows = take_all (n * 4) used (omega arith) ∙ e in
    rw c (keys_same n rows bs used bs (record { numbers = front; bytes = refl }))
