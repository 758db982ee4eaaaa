-- What a change of a group's stretch may write besides the header: rows of entries from a row on, and keys. The rest stays.
use Rattle.std.specs.Prelude.{Bool, true, false, cond, List, ◌≡◌, ℕ, ◌+◌, ◌-◌, ◌*◌, leb, take}
use Rattle.memtable.specs.declared.Head.{Head}
use Rattle.stretch.specs.declared.Change.{Change}
use Rattle.stretch.specs.declared.Change.TheVariants as change
use Rattle.stretch.specs.Stretch.{entry_rows_at, key_rows_at, entry_rows, key_rows}

-- the rows of entries that a group's stretch has
abbrev pub entry_most : ℕ
entry_most = 64

-- how many entries stay before rows that start at s; where they leave a gap, none
unfoldable pub kept_before : Head → ℕ → ℕ
kept_before h s = cond (leb s (h.first_index + h.len)) (s - h.first_index) 0

-- the row from which on a change may write entries
unfoldable pub row_from : Change → Head → ℕ
row_from (change.Append first live) h = kept_before h first
row_from (change.ReplayRewrite first) h = kept_before h first
row_from (change.Rewrite first gate) h = first - h.first_index
row_from (change.Compact index) h = 0
row_from (change.Put queue seq) h = entry_most
row_from change.Delete h = entry_most
row_from (change.RewriteKey gate seq) h = entry_most
row_from change.Make h = entry_most

-- whether a change may write keys
unfoldable pub writes_keys : Change → Bool
writes_keys (change.Append first live) = false
writes_keys (change.ReplayRewrite first) = false
writes_keys (change.Rewrite first gate) = false
writes_keys (change.Compact index) = false
writes_keys (change.Put queue seq) = true
writes_keys change.Delete = true
writes_keys (change.RewriteKey gate seq) = true
writes_keys change.Make = false

-- of a stretch whose rows of keys begin at place w, the rows of entries below row n are as they were, and the rows of keys
pub record LeavesRows (w n : ℕ) (p p' : List ℕ) : Type 0 where
  pub rows : take (n * 8) (entry_rows_at w p') ≡ take (n * 8) (entry_rows_at w p)
  pub keys : key_rows_at w p' ≡ key_rows_at w p

-- the rows of entries below row n are as they were, and the keys unless they are written
pub record LeavesAt (w n : ℕ) (written : Bool) (p b p' b' : List ℕ) : Type 0 where
  pub rows : take (n * 8) (entry_rows_at w p') ≡ take (n * 8) (entry_rows_at w p)
  pub keys : written ≡ false → (key_rows_at w p' ≡ key_rows_at w p) × (b' ≡ b)

-- the same of a group's stretch
pub record Leaves (n : ℕ) (written : Bool) (p b p' b' : List ℕ) : Type 0 where
  pub rows : take (n * 8) (entry_rows p') ≡ take (n * 8) (entry_rows p)
  pub keys : written ≡ false → (key_rows p' ≡ key_rows p) × (b' ≡ b)
