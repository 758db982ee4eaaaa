-- A group's keys in two lent parts: rows of 4 numbers (key length, value length, queue, sequence number) and rows of 64 bytes
-- (32 for the key, then 32 for the value), in byte order of the keys from the front.
use Rattle.std.specs.Prelude.{Bool, ◌&&◌, List, [], ◌∷◌, map, ℕ, zero, suc, ◌*◌, ◌≤◌, ◌<◌, leb, length, get_or, take}
use Rattle.cells.specs.Part.{part}
use Rattle.pipe_log.specs.Rows.{queue_at}
use Rattle.maps.specs.Maps.{Pair, Map, bytes}
use Rattle.maps.specs.MapLaws.{Ascending}
use Rattle.rules.specs.Table.{Held}

-- one row of each part
pub record Row : Type 0 where
  pub numbers : List ℕ
  pub bytes : List ℕ

unfoldable pub row_at : ℕ → List ℕ → List ℕ → Row
row_at i rows bs = record { numbers = part (i * 4) 4 rows; bytes = part (i * 64) 64 bs }

-- n rows from row i on
unfoldable pub rows_from : ℕ → ℕ → List ℕ → List ℕ → List Row
rows_from i zero rows bs = []
rows_from i (suc n) rows bs = row_at i rows bs ∷ rows_from (suc i) n rows bs

-- what a row stands for
unfoldable pub key_of : Row → List ℕ
key_of r = take (get_or r.numbers 0 0) (part 0 32 r.bytes)

unfoldable pub value_of : Row → List ℕ
value_of r = take (get_or r.numbers 1 0) (part 32 32 r.bytes)

unfoldable pub held_of : Row → Held
held_of r = record { value = value_of r; file = record { queue = queue_at (get_or r.numbers 2 0); seq = get_or r.numbers 3 0 } }

unfoldable pub pair_of : Row → Pair (List ℕ) Held
pair_of r = record { key = key_of r; val = held_of r }

-- the keys that the first n rows stand for
unfoldable pub keys_in : ℕ → List ℕ → List ℕ → Map (List ℕ) Held
keys_in n rows bs = map pair_of (rows_from 0 n rows bs)

-- a row whose numbers are those of a key
pub record RowOk (r : Row) : Type 0 where
  pub key_fits : get_or r.numbers 0 0 ≤ 32
  pub value-fits : get_or r.numbers 1 0 ≤ 32
  pub queue-known : get_or r.numbers 2 0 < 2

unfoldable pub RowsOk : List Row → Type 0
RowsOk [] = Unit {0}
RowsOk (r ∷ rs) = RowOk r × RowsOk rs

-- what every function of a group's n keys requires of the parts and gives back
pub record Wf (n : ℕ) (rows bs : List ℕ) : Type 0 where
  pub rows_fit : n * 4 ≤ length rows
  pub bytes_fit : n * 64 ≤ length bs
  pub ok : RowsOk (rows_from 0 n rows bs)
  pub ascending : Ascending bytes (keys_in n rows bs)

-- whether n rows fit: the parts' capacity is the lesser number of whole rows that they have
unfoldable pub fits : ℕ → List ℕ → List ℕ → Bool
fits n rows bs = leb (n * 4) (length rows) && leb (n * 64) (length bs)
