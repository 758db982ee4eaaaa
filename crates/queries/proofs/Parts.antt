-- The parts of stretch k that are lent: its head, its rows and its bytes. Assumes nothing.
use mathlib.Core.List.{List}
use mathlib.Core.Path.{◌≡◌, sym, ◌∙◌}
use Prim.Native.Nat.{ℕ, ◌+◌, ◌-◌, ◌*◌}
use native.Mathlib.Omega.{arith}
use lib.ListN.{get_or, take, drop}
use Rattle.cells.specs.Part.{part}
use Rattle.cells.specs.PartLaws.{part-is, part-part, get_or-part}
use Rattle.memtable.specs.declared.Head.{Head}
use Rattle.stretch.specs.Stretch.{head_part, entry_rows, key_count, key_rows}
use Rattle.groups.specs.Area.{stretch_at, bytes_at}

-- the part from place a up to place e, which has n elements
lent : (a e n : ℕ) (l : List ℕ) → e - a ≡ n → take (e - a) (drop a l) ≡ part a n l
lent a e n l h = rw h (part-is a n l)

pub lent-head : (k : ℕ) (xs : List ℕ) (h : Head) → h ≡ head_part (take (k * 586 + 586 - k * 586) (drop (k * 586) xs)) → h ≡ head_part (stretch_at k xs)
unfolding stretch_at
lent-head k xs h e = rw (lent (k * 586) (k * 586 + 586) 586 xs (omega arith)) at e

pub lent-entries : (k : ℕ) (xs : List ℕ) → take (k * 586 + 522 - (k * 586 + 10)) (drop (k * 586 + 10) xs) ≡ entry_rows (stretch_at k xs)
unfolding stretch_at entry_rows
lent-entries k xs =
    lent (k * 586 + 10) (k * 586 + 522) 512 xs (omega arith) ∙ sym (part-part 10 512 (k * 586) 586 xs (omega arith))

pub lent-keys : (k : ℕ) (xs : List ℕ) → take (k * 586 + 586 - (k * 586 + 522)) (drop (k * 586 + 522) xs) ≡ key_rows (stretch_at k xs)
unfolding stretch_at key_rows
lent-keys k xs =
    lent (k * 586 + 522) (k * 586 + 586) 64 xs (omega arith) ∙ sym (part-part 522 64 (k * 586) 586 xs (omega arith))

pub lent-bytes : (k : ℕ) (bs : List ℕ) → take (k * 1024 + 1024 - k * 1024) (drop (k * 1024) bs) ≡ bytes_at k bs
unfolding bytes_at
lent-bytes k bs = lent (k * 1024) (k * 1024 + 1024) 1024 bs (omega arith)

pub count_at : (k : ℕ) (xs : List ℕ) → get_or xs (k * 586 + 8) 0 ≡ key_count (stretch_at k xs)
unfolding stretch_at key_count
count_at k xs = sym (get_or-part (k * 586) 586 xs 8 0 (omega arith))
