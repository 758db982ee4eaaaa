-- What a refused batch must be able to go back to. The spare stretch 8 + k has a mark in its first number: 0, stretch k is as it
-- was; 1, it was free; 2 + 2 low, the spare holds the rest of the header that it had, and its rows of entries from row `low` on;
-- one more, its keys too. What the spare does not hold of these is still in stretch k.
use Rattle.std.specs.Prelude.{Bool, cond, true, List, [], ◌∷◌, ◌≡◌, ℕ, ◌+◌, ◌-◌, ◌*◌, ◌/◌, ◌%◌, ◌≤◌, ◌<◌, eqb, length, get_or, take, drop}
use Rattle.std.specs.Prelude.{None}
use Rattle.cells.specs.Part.{part, put}
use Rattle.maps.specs.Cells.{Cell, Distinct}
use Rattle.rules.specs.Table.{Table}
use Rattle.stretch.specs.Layout.{stretch_width, bytes_width, entries_at, keys_at, key_numbers}
use Rattle.stretch.specs.Stretch.{is_used, head_part, key_count, cell_of}
use Rattle.stretch.specs.Stretch as stretch
use Rattle.stretch.specs.declared.Change.{Change}
use Rattle.stretch.specs.Reach.{entry_most, row_from, writes_keys}
use Rattle.cells.specs.declared.Slot.{Slot}
use Rattle.cells.specs.declared.Slot.TheVariants.{At, Free, Full}
use Rattle.groups.specs.Area.{slots, numbers_in_use, bytes_in_use, stretch_at, bytes_at, cell_at, cells_by, cells, Wf, Only}

-- the numbers and the bytes of the stretches without the spare ones
abbrev pub live_numbers : ℕ
live_numbers = 4688

abbrev pub live_bytes : ℕ
live_bytes = 8192

unfoldable pub mark_at : ℕ → List ℕ → ℕ
mark_at k xs = get_or xs ((slots + k) * stretch_width) 0

-- the first row of entries that a spare stretch with mark m holds, and whether it holds the keys
abbrev pub low_of : ℕ → ℕ
low_of m = m / 2 - 1

unfoldable pub has_keys : ℕ → Bool
has_keys m = eqb (m % 2) 1

-- the stretch that p goes back to by its spare s, and its bytes, by the bytes d of the spare
unfoldable pub back_numbers : ℕ → List ℕ → List ℕ → List ℕ
back_numbers m p s =
    put (put (put s 0 (1 ∷ [])) entries_at (part entries_at (low_of m * 8) p)) keys_at (part keys_at key_numbers (cond (has_keys m) s p))

unfoldable pub back_bytes : ℕ → List ℕ → List ℕ → List ℕ
back_bytes m b d = cond (has_keys m) d b

-- the stretch that stretch k goes back to, if it was used and was changed
unfoldable pub back_at : ℕ → List ℕ → List ℕ
back_at k xs = back_numbers (mark_at k xs) (stretch_at k xs) (stretch_at (slots + k) xs)

unfoldable pub back_bytes_at : ℕ → List ℕ → List ℕ → List ℕ
back_bytes_at k xs bs = back_bytes (mark_at k xs) (bytes_at k bs) (bytes_at (slots + k) bs)

-- the cell that stretch k goes back to
unfoldable pub undone_cell : ℕ → List ℕ → List ℕ → Cell Table
undone_cell k xs bs =
    cond (eqb (mark_at k xs) 0) (cell_at k xs bs) (cond (eqb (mark_at k xs) 1) None (cell_of (back_at k xs) (back_bytes_at k xs bs)))

unfoldable pub undone_cells : List ℕ → List ℕ → List (Cell Table)
undone_cells xs bs = cells_by (λ k. undone_cell k xs bs) 0 slots

-- stretch k goes back to a table
pub record Saved (k : ℕ) (xs bs : List ℕ) : Type 0 where
  pub rows : low_of (mark_at k xs) ≤ (head_part (stretch_at (slots + k) xs)).len
  pub room : (head_part (stretch_at (slots + k) xs)).len ≤ entry_most
  pub wf : stretch.Wf (back_at k xs) (back_bytes_at k xs bs)

-- the stretches can go back: what they go back to is well formed
pub record Undoable (xs bs : List ℕ) : Type 0 where
  pub saved : (k : ℕ) → k < slots → 2 ≤ mark_at k xs → Saved k xs bs
  pub distinct : Distinct (undone_cells xs bs)

-- the spare stretch with mark m holds what is needed for rows of entries from row n on to be written, and keys if `written`
pub record Covers (m n : ℕ) (written : Bool) : Type 0 where
  pub marked : 1 ≤ m
  pub rows : low_of m ≤ n
  pub keys : written ≡ true → m % 2 ≡ 1

-- the stretch of a slot may be written by a change: what it goes back to stays. A stretch that is made is written as a whole
unfoldable pub ReadyFor : Change → Slot → List ℕ → Type 0
ReadyFor c (At k) xs = Covers (mark_at k xs) (row_from c (head_part (stretch_at k xs))) (writes_keys c)
ReadyFor c (Free k) xs = Covers (mark_at k xs) 0 true
ReadyFor c Full xs = Unit {0}

-- the group at a slot may be removed, which writes the first number of its stretch alone
unfoldable pub ReadyToGo : Slot → List ℕ → Type 0
ReadyToGo (At k) xs = 1 ≤ mark_at k xs
ReadyToGo (Free k) xs = Unit {0}
ReadyToGo Full xs = Unit {0}

-- the marks are cleared: the stretches go back to what they are now
pub record Begun (xs bs xs' : List ℕ) : Type 0 where
  pub live : take live_numbers xs' ≡ take live_numbers xs
  pub behind : drop numbers_in_use xs' ≡ drop numbers_in_use xs
  pub undone : undone_cells xs' bs ≡ cells xs bs
  pub undoable : Undoable xs' bs
  pub wf : Wf xs' bs

-- a slot is secured, so that what is asked for may be written; what the stretches are and go back to is as it was
pub record Securing (asked : List ℕ → Type 0) (xs bs xs' bs' : List ℕ) : Type 0 where
  pub live : take live_numbers xs' ≡ take live_numbers xs
  pub live-bytes : take live_bytes bs' ≡ take live_bytes bs
  pub behind : drop numbers_in_use xs' ≡ drop numbers_in_use xs
  pub behind-bytes : drop bytes_in_use bs' ≡ drop bytes_in_use bs
  pub cells_stay : cells xs' bs' ≡ cells xs bs
  pub undone : undone_cells xs' bs' ≡ undone_cells xs bs
  pub secured : asked xs'
  pub undoable : Undoable xs' bs'
  pub wf : Wf xs' bs'

-- the stretches have gone back
pub record Undone (xs bs xs' bs' : List ℕ) : Type 0 where
  pub cells_are : cells xs' bs' ≡ undone_cells xs bs
  pub behind : drop numbers_in_use xs' ≡ drop numbers_in_use xs
  pub behind-bytes : drop bytes_in_use bs' ≡ drop bytes_in_use bs
  pub wf : Wf xs' bs'

-- ---- one stretch

-- stretch k can go back
pub record Restorable (k : ℕ) (xs bs : List ℕ) : Type 0 where
  pub inside : k < slots
  pub numbers_fit : numbers_in_use ≤ length xs
  pub bytes_fit : bytes_in_use ≤ length bs
  pub used : is_used (stretch_at k xs) ≡ true → stretch.Wf (stretch_at k xs) (bytes_at k bs)
  pub saved : 2 ≤ mark_at k xs → Saved k xs bs

-- the spare of stretch k alone is written, and what stretch k goes back to is as it was
pub record Kept (k : ℕ) (xs bs xs' bs' : List ℕ) : Type 0 where
  pub only : Only (slots + k) xs bs xs' bs'
  pub cell : undone_cell k xs' bs' ≡ undone_cell k xs bs
  pub saved : 2 ≤ mark_at k xs' → Saved k xs' bs'

-- the spare of stretch k has a mark
pub record Marking (k : ℕ) (xs bs xs' bs' : List ℕ) : Type 0 where
  pub kept : Kept k xs bs xs' bs'
  pub marked : 1 ≤ mark_at k xs'

-- the spare of stretch k holds the rows of entries from row n on
pub record Lowering (k n : ℕ) (xs bs xs' bs' : List ℕ) : Type 0 where
  pub kept : Kept k xs bs xs' bs'
  pub marked : 1 ≤ mark_at k xs → 1 ≤ mark_at k xs'
  pub rows : low_of (mark_at k xs') ≤ n
  pub keys : mark_at k xs' % 2 ≡ mark_at k xs % 2

-- the spare of stretch k holds the keys
pub record KeySaving (k : ℕ) (xs bs xs' bs' : List ℕ) : Type 0 where
  pub kept : Kept k xs bs xs' bs'
  pub rows : low_of (mark_at k xs') ≡ low_of (mark_at k xs)
  pub keys : mark_at k xs' % 2 ≡ 1

-- the spare of stretch k holds what is needed for rows of entries from row n on to be written, and keys if `written`
pub record Covering (k n : ℕ) (written : Bool) (xs bs xs' bs' : List ℕ) : Type 0 where
  pub kept : Kept k xs bs xs' bs'
  pub covers : Covers (mark_at k xs') n written

-- stretch k has the header and the rows of entries that it goes back to, and the keys that it had
pub record FrontBack (k : ℕ) (xs xs' : List ℕ) : Type 0 where
  pub laid : xs' ≡ put xs (k * stretch_width) (stretch_at k xs')
  pub used : part 0 1 (stretch_at k xs') ≡ 1 ∷ []
  pub header : part 1 9 (stretch_at k xs') ≡ part 1 9 (stretch_at (slots + k) xs)
  pub below : part entries_at (low_of (mark_at k xs) * 8) (stretch_at k xs') ≡ part entries_at (low_of (mark_at k xs) * 8) (stretch_at k xs)
  pub above :
      part (entries_at + low_of (mark_at k xs) * 8) (((head_part (stretch_at (slots + k) xs)).len - low_of (mark_at k xs)) * 8) (stretch_at k xs')
      ≡ part (entries_at + low_of (mark_at k xs) * 8) (((head_part (stretch_at (slots + k) xs)).len - low_of (mark_at k xs)) * 8) (stretch_at (slots + k) xs)
  pub keys : part keys_at key_numbers (stretch_at k xs') ≡ part keys_at key_numbers (stretch_at k xs)

-- the keys in use of the spare of stretch k are laid into stretch k
pub record KeysBack (k : ℕ) (xs bs xs' bs' : List ℕ) : Type 0 where
  pub numbers : xs' ≡ put xs (k * stretch_width + keys_at) (part ((slots + k) * stretch_width + keys_at) (key_count (stretch_at (slots + k) xs) * 4) xs)
  pub bytes : bs' ≡ put bs (k * bytes_width) (part ((slots + k) * bytes_width) (key_count (stretch_at (slots + k) xs) * 64) bs)

-- stretch k has gone back
pub record UndoneAt (k : ℕ) (xs bs xs' bs' : List ℕ) : Type 0 where
  pub cell : cell_at k xs' bs' ≡ undone_cell k xs bs
  pub wf : is_used (stretch_at k xs') ≡ true → stretch.Wf (stretch_at k xs') (bytes_at k bs')
  pub only : Only k xs bs xs' bs'
