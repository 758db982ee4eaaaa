-- What a change leaves of a group's stretch. Assumes nothing.
use Rattle.std.specs.Prelude.{Bool, List, ◌≡◌, ℕ, length}
use Rattle.std.proofs.Common.{◌∙◌}
use Rattle.stretch.specs.Stretch.{entry_rows_at, key_rows_at, entry_rows, key_rows}
use Rattle.stretch.specs.Reach.{LeavesAt, Leaves}

pub leaves-short : {n : ℕ} {written : Bool} {p b p' b' : List ℕ} → length p ≡ 586 → length p' ≡ length p → LeavesAt 522 n written p b p' b' → Leaves n written p b p' b'
unfolding entry_rows_at key_rows_at entry_rows key_rows
leaves-short l m a = record { rows = a.rows; keys = λ e. (rw (m ∙ l, l) at (a.keys e).0, (a.keys e).1) }
