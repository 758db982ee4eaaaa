-- An item with the places that it has in a store: its row, its rows of entries and its bytes.
use Rattle.pipe_log.specs.declared.FileId.{FileId}
use Rattle.log_batch.specs.declared.item.Bytes.{Bytes}
use Rattle.std.specs.Prelude.{Option, Some, None, List, [], ◌∷◌, ◌++◌, ℕ, ◌+◌, ◌*◌, ◌≤◌}
use Rattle.cells.specs.Part.{part}
use Rattle.pipe_log.specs.Numbers.{queue_number}
use Rattle.log_batch.specs.declared.item.Command as command
use Rattle.log_batch.specs.declared.item.OpType as op
use Rattle.log_batch.specs.declared.item.KeyValue.{KeyValue}
use Rattle.log_batch.specs.declared.item.LogItemContent as content
use Rattle.log_batch.specs.declared.item.LogItem.{LogItem}
use Rattle.log_batch.specs.Lent.{Within}

-- ---- the row

-- the numbers that tell a key's file
abbrev pub file_number : Option FileId → ℕ
file_number None = 2
file_number (Some f) = queue_number f.queue

abbrev pub file_seq : Option FileId → ℕ
file_seq None = 0
file_seq (Some f) = f.seq

-- the numbers that tell a value
abbrev pub value_told : Option Bytes → ℕ
value_told None = 0
value_told (Some b) = 1

abbrev pub value_length : Option Bytes → ℕ
value_length None = 0
value_length (Some b) = b.len

abbrev pub command_row : ℕ → command.Command → List ℕ
command_row g command.TheVariants.Clean = g ∷ 1 ∷ 0 ∷ 0 ∷ 0 ∷ 0 ∷ 0 ∷ 0 ∷ 0 ∷ []
command_row g (command.TheVariants.Compact i) = g ∷ 2 ∷ i ∷ 0 ∷ 0 ∷ 0 ∷ 0 ∷ 0 ∷ 0 ∷ []

-- a key change whose bytes stand from place b: the key, and the value behind it
abbrev pub put_row : ℕ → KeyValue → ℕ → List ℕ
put_row g k b =
    g ∷ 3 ∷ b ∷ k.key_len ∷ value_told k.value ∷ (b + k.key_len) ∷ value_length k.value ∷ file_number k.file_id ∷ file_seq k.file_id ∷ []

abbrev pub del_row : ℕ → KeyValue → ℕ → List ℕ
del_row g k b = g ∷ 4 ∷ b ∷ k.key_len ∷ 0 ∷ 0 ∷ 0 ∷ 2 ∷ 0 ∷ []

abbrev pub key_row : op.OpType → ℕ → KeyValue → ℕ → List ℕ
key_row op.TheVariants.Put = put_row
key_row op.TheVariants.Del = del_row

abbrev pub key_length : content.LogItemContent → ℕ
key_length (content.TheVariants.EntryIndexes x) = 0
key_length (content.TheVariants.Command c) = 0
key_length (content.TheVariants.Kv k) = k.key_len

abbrev pub content_row : ℕ → content.LogItemContent → ℕ → ℕ → List ℕ
content_row g (content.TheVariants.EntryIndexes x) r b = g ∷ 0 ∷ r ∷ x.count ∷ 0 ∷ 0 ∷ 0 ∷ 0 ∷ 0 ∷ []
content_row g (content.TheVariants.Command c) r b = command_row g c
content_row g (content.TheVariants.Kv k) r b = key_row k.op_type g k b

-- an item whose rows of entries stand from row r, and its bytes from place b
unfoldable pub row_for : LogItem → ℕ → ℕ → List ℕ
row_for it r b = content_row it.raft_group_id it.content r b

-- ---- the item with these places; a Del has neither value nor file

abbrev pub placed_value : Option Bytes → ℕ → Option Bytes
placed_value None b = None
placed_value (Some b') b = Some (record { at = b; len = b'.len })

abbrev pub placed_key : op.OpType → KeyValue → ℕ → KeyValue
placed_key op.TheVariants.Put k b =
    record { op_type = op.TheVariants.Put; key_at = b; key_len = k.key_len; value = placed_value k.value (b + k.key_len); file_id = k.file_id }
placed_key op.TheVariants.Del k b =
    record { op_type = op.TheVariants.Del; key_at = b; key_len = k.key_len; value = None; file_id = None }

abbrev pub placed_content : content.LogItemContent → ℕ → ℕ → content.LogItemContent
placed_content (content.TheVariants.EntryIndexes x) r b = content.TheVariants.EntryIndexes (record { at = r; count = x.count })
placed_content (content.TheVariants.Command c) r b = content.TheVariants.Command c
placed_content (content.TheVariants.Kv k) r b = content.TheVariants.Kv (placed_key k.op_type k b)

unfoldable pub placed : LogItem → ℕ → ℕ → LogItem
placed it r b = record { raft_group_id = it.raft_group_id; content = placed_content it.content r b }

-- ---- what is copied: the rows of its entries, and the bytes of its key and value

unfoldable pub value_bytes : Option Bytes → List ℕ → List ℕ
value_bytes None bs = []
value_bytes (Some b) bs = part b.at b.len bs

unfoldable pub key_bytes : KeyValue → List ℕ → List ℕ
key_bytes k bs = part k.key_at k.key_len bs ++ value_bytes k.value bs

unfoldable pub bytes_of : content.LogItemContent → List ℕ → List ℕ
bytes_of (content.TheVariants.EntryIndexes x) bs = []
bytes_of (content.TheVariants.Command c) bs = []
bytes_of (content.TheVariants.Kv k) bs = key_bytes k bs

unfoldable pub rows_of : content.LogItemContent → List ℕ → List ℕ
rows_of (content.TheVariants.EntryIndexes x) es = part (x.at * 8) (x.count * 8) es
rows_of (content.TheVariants.Command c) es = []
rows_of (content.TheVariants.Kv k) es = []

-- how many entries it has
abbrev pub count_of : content.LogItemContent → ℕ
count_of (content.TheVariants.EntryIndexes x) = x.count
count_of (content.TheVariants.Command c) = 0
count_of (content.TheVariants.Kv k) = 0

-- ---- what is asked of an item: its places are within its slices, and key and value have at most 32 bytes

abbrev pub ValueShort : Option Bytes → Type 0
ValueShort None = Unit
ValueShort (Some b) = b.len ≤ 32

abbrev pub ContentShort : content.LogItemContent → Type 0
ContentShort (content.TheVariants.EntryIndexes x) = Unit
ContentShort (content.TheVariants.Command c) = Unit
ContentShort (content.TheVariants.Kv k) = (k.key_len ≤ 32) × ValueShort k.value

pub record Lent (it : LogItem) (entries bytes : ℕ) : Type 0 where
  pub within : Within it.content entries bytes
  pub short : ContentShort it.content

-- ---- its places lie at or behind row r and place b; a value lies behind the key that moves there

abbrev pub ValueBehind : Option Bytes → ℕ → Type 0
ValueBehind None b = Unit
ValueBehind (Some b') b = b ≤ b'.at

abbrev pub BytesBehind : content.LogItemContent → ℕ → Type 0
BytesBehind (content.TheVariants.EntryIndexes x) b = Unit
BytesBehind (content.TheVariants.Command c) b = Unit
BytesBehind (content.TheVariants.Kv k) b = (b ≤ k.key_at) × ValueBehind k.value (b + k.key_len)

abbrev pub RowsBehind : content.LogItemContent → ℕ → Type 0
RowsBehind (content.TheVariants.EntryIndexes x) r = r ≤ x.at
RowsBehind (content.TheVariants.Command c) r = Unit
RowsBehind (content.TheVariants.Kv k) r = Unit

pub record Behind (c : content.LogItemContent) (r b : ℕ) : Type 0 where
  pub rows : RowsBehind c r
  pub places : BytesBehind c b
