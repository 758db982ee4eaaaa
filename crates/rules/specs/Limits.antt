-- 01's limits and constants, by name.
use Rattle.std.specs.Prelude.{ℕ, ◌-◌, ◌^◌, List, [], ◌∷◌}

-- the bounds of cause 2: items of a batch, entries of a list, bytes of a key or value
abbrev pub max_items : ℕ
max_items = 32

abbrev pub max_list_entries : ℕ
max_list_entries = 32

abbrev pub max_bytes : ℕ
max_bytes = 32

-- the bounds of cause 4: an index or a compaction target, an entry length
abbrev pub max_index : ℕ
max_index = 2 ^ 63 - 1

abbrev pub max_entry_len : ℕ
max_entry_len = 2 ^ 25

-- the limits of cause 18
abbrev pub max_groups : ℕ
max_groups = 8

abbrev pub max_entries : ℕ
max_entries = 64

abbrev pub max_keys : ℕ
max_keys = 16

abbrev pub max_tombstones : ℕ
max_tombstones = 64

abbrev pub max_cleaned : ℕ
max_cleaned = 64

abbrev pub max_waiting_groups : ℕ
max_waiting_groups = 8

abbrev pub max_waiting_items : ℕ
max_waiting_items = 64

abbrev pub max_waiting_entries : ℕ
max_waiting_entries = 128

-- the highest status of a mark
abbrev pub max_status : ℕ
max_status = 2

-- the reserved key: "__" and then byte 1
abbrev pub reserved_key : List ℕ
reserved_key = 0x5f ∷ 0x5f ∷ 0x01 ∷ []
