-- `rewrite`: what its answers say.
use Rattle.std.specs.Prelude.{Bool, true, false, List, ◌≡◌, ℕ, ◌+◌, ◌-◌, ◌*◌, ◌/◌, ◌≤◌, ◌<◌, min, max, length, take, drop}
use Rattle.std.specs.Prelude.{Option, Some}
use Rattle.cells.specs.Part.{part, put}
use Rattle.maps.specs.Lists.{front}
use Rattle.maps.specs.Maps.{Map}
use Rattle.pipe_log.specs.Rows.{window}
use Rattle.rules.specs.Causes.{ByCause, Err, Result, Ok, refuse}
use Rattle.rules.specs.Items.{EntryIndex}
use Rattle.rules.specs.Table.{Held, Table, entries_from, replaces, meets_rewrite, rewritten}
use Rattle.memtable.specs.declared.Head.{Head}
use Rattle.memtable.specs.Scans.{count_before}
use Rattle.memtable.specs.Views.{table_of, row_at, Wf}

-- the rules' result for each answer
abbrev pub rewritten_of : ByCause Head → List ℕ → Map (List ℕ) Held → Bool → Result Table
rewritten_of (Ok h) xs keys counted = Ok (table_of h xs keys counted)
rewritten_of (Err e) xs keys counted = refuse e

-- the head after the call
abbrev pub rewritten_head : Head → ByCause Head → Head
rewritten_head h (Ok g) = g
rewritten_head h (Err e) = h

-- how many entries from the overlap's start the list from its start replaces
unfoldable pub moved : Option ℕ → List EntryIndex → List EntryIndex → ℕ
moved gate es rs = length (front (replaces gate) (take (length rs) es))

-- the part with the rows of the list that replace entries laid in at their places; s: the list's first index
unfoldable pub replaced_part : Option ℕ → Head → List ℕ → ℕ → List ℕ → List ℕ
replaced_part gate h xs s rows =
    put xs ((s - h.first_index) * 8)
    (part
    ((h.first_index - s) * 8)
    (moved gate (entries_from s (window h.first_index h.len xs)) (entries_from h.first_index (window s (length rows / 8) rows)) * 8)
    rows)

-- the part after the call
abbrev pub rewritten_part : Option ℕ → Head → List ℕ → ℕ → List ℕ → ByCause Head → List ℕ
rewritten_part gate h xs s rows (Ok g) = replaced_part gate h xs s rows
rewritten_part gate h xs s rows (Err e) = xs

-- of head h and part xs, rewritten by rows that start at s; ys is the part at exit
pub record Rewriting (gate : Option ℕ) (h : Head) (xs : List ℕ) (s : ℕ) (rows : List ℕ) (r : ByCause Head) (ys : List ℕ) : Type 0 where
  pub rule : (keys : Map (List ℕ) Held) (counted : Bool)
      → rewritten_of r ys keys counted ≡ rewritten gate (window s (length rows / 8) rows) (table_of h xs keys counted)
  pub laid : ys ≡ rewritten_part gate h xs s rows r
  pub first : (rewritten_head h r).first_index ≡ h.first_index
  pub wf : Wf (rewritten_head h r) ys

-- ---- how many entries are replaced

-- the first k of the entries from index a on are replaced, of c that can be, and no more
pub record Run (gate : Option ℕ) (a : ℕ) (ys : List ℕ) (c k : ℕ) : Type 0 where
  pub all : (i : ℕ) → i < k → replaces gate (row_at a ys i) ≡ true
  pub most : k ≤ c
  pub stop : k < c → replaces gate (row_at a ys k) ≡ false
  pub meets : k < c → meets_rewrite gate (Some (row_at a ys k)) ≡ false

-- the first entry from index a on is a Rewrite one that a gated rewrite meets
pub record Met (gate : Option ℕ) (a : ℕ) (ys : List ℕ) : Type 0 where
  pub stop : replaces gate (row_at a ys 0) ≡ false
  pub meets : meets_rewrite gate (Some (row_at a ys 0)) ≡ true

-- where a list that starts at s overlaps entries: from place p of the entries and place q of the list on, c of them
pub record Overlap (h : Head) (s : ℕ) (rows : List ℕ) (p q c : ℕ) : Type 0 where
  pub place : p ≡ s - h.first_index
  pub skipped : q ≡ h.first_index - s
  pub held : p < h.len
  pub listed : h.first_index - s < length rows / 8
  pub most : c ≡ min (h.len - p) (length rows / 8 - q)
  pub behind : p ≤ h.rewrite_count

-- k rows from row q on laid in at place p, before the first of c entries with a sequence number above the gate
pub record Passed (gate : ℕ) (xs rows : List ℕ) (p q c k : ℕ) (ys : List ℕ) : Type 0 where
  pub count : k ≡ count_before gate c (drop (p * 8) xs)
  pub most : k ≤ c
  pub laid : ys ≡ put xs (p * 8) (part (q * 8) (k * 8) rows)

-- the head with n Rewrite entries
abbrev pub counting : ℕ → Head → Head
counting n h = record { first_index = h.first_index; len = h.len; rewrite_count = n; atomic_group = h.atomic_group }

-- k rows from row q on laid in at place p
pub record Replaced (h : Head) (xs rows : List ℕ) (p q k : ℕ) (r : Head) (ys : List ℕ) : Type 0 where
  pub head : r ≡ counting (max h.rewrite_count (p + k)) h
  pub laid : ys ≡ put xs (p * 8) (part (q * 8) (k * 8) rows)
