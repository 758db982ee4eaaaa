-- The layout of a group's stretch: a header of 10 numbers, 64 rows of entries and 16 rows of keys; beside it 16 rows of bytes.
use Rattle.std.specs.Prelude.{ℕ}

abbrev pub header_width : ℕ
header_width = 10

-- where the rows of entries begin, and their numbers
abbrev pub entries_at : ℕ
entries_at = 10

abbrev pub entry_numbers : ℕ
entry_numbers = 512

-- where the rows of keys begin, and their numbers
abbrev pub keys_at : ℕ
keys_at = 522

abbrev pub key_numbers : ℕ
key_numbers = 64

-- the numbers and the bytes of a stretch
abbrev pub stretch_width : ℕ
stretch_width = 586

abbrev pub bytes_width : ℕ
bytes_width = 1024
