-- 01's batch as it is lent: `items` in rows of 9 numbers, `entries` in rows of 8 (pipe_log's Rows), and `bytes` for keys and values.
-- Every content of the three slices stands for some batch.
use Rattle.log_batch.specs.declared.item.Bytes.{Bytes}
use Rattle.std.specs.Prelude.{Result, Ok, Err}
use Rattle.log_batch.specs.declared.open.Unopened.{Unopened}
use Rattle.std.specs.Prelude.{Bool, true, cond, ◌&&◌, List, [], ◌∷◌, ℕ, zero, suc, ◌+◌, ◌*◌, ◌/◌, ◌≤◌, eqb, leb, ltb, length, get_or, drop}
use Rattle.std.specs.Prelude.{Option, None, Some}
use Rattle.cells.specs.Part.{part}
use Rattle.pipe_log.specs.declared.LogQueue.{TheVariants.Append, TheVariants.Rewrite}
use Rattle.pipe_log.specs.declared.FileId.{FileId}
use Rattle.pipe_log.specs.declared.CompressionType.TheVariants as compression
use Rattle.pipe_log.specs.declared.EntryIndex.{EntryIndex}
use Rattle.pipe_log.specs.Rows.{entries_of, entry_width}
use Rattle.rules.specs.Items as rules
use Rattle.log_batch.specs.declared.item.Command as command
use Rattle.log_batch.specs.declared.item.OpType as op
use Rattle.log_batch.specs.declared.item.KeyValue.{KeyValue}
use Rattle.log_batch.specs.declared.item.LogItemContent as content
use Rattle.log_batch.specs.declared.item.LogItem.{LogItem}

-- numbers in a row of items
abbrev pub item_width : ℕ
item_width = 9

-- the number of items: a last row that is cut short counts
unfoldable pub row_count_of : List ℕ → ℕ
row_count_of xs = (length xs + 8) / item_width

-- what a row opens to
abbrev pub Opened : Type 0
Opened = Result LogItem Unopened

-- ---- a row [group, tag, a, b, c, d, e, f, g], opened into an item with places, or refused

unfoldable pub item_if : Bool → List ℕ → content.LogItemContent → Opened
item_if fits row c =
    cond fits (Ok (record { raft_group_id = get_or row 0 0; content = c })) (Err (record { raft_group_id = (get_or row 0 0) }))

-- tag 0: the b rows of entries from row a, of which there are so many rows
unfoldable pub opened_entries : List ℕ → ℕ → Opened
opened_entries row rows =
    item_if (leb (get_or row 2 0 + get_or row 3 0) rows) row
    (content.TheVariants.EntryIndexes (record { at = get_or row 2 0; count = get_or row 3 0 }))

-- c: 0 no value, 1 the e bytes from place d
unfoldable pub value_fits : List ℕ → ℕ → Bool
value_fits row bytes = cond (eqb (get_or row 4 0) 0) true (eqb (get_or row 4 0) 1 && leb (get_or row 5 0 + get_or row 6 0) bytes)

unfoldable pub value_at : List ℕ → Option Bytes
value_at row = cond (eqb (get_or row 4 0) 0) None (Some (record { at = (get_or row 5 0); len = (get_or row 6 0) }))

-- f: 0 a file of the Append queue, 1 of the Rewrite queue, with sequence number g; above 1 no file
unfoldable pub file_at : List ℕ → Option FileId
file_at row =
    cond (eqb (get_or row 7 0) 0) (Some (record { queue = Append; seq = get_or row 8 0 }))
    (cond (eqb (get_or row 7 0) 1) (Some (record { queue = Rewrite; seq = get_or row 8 0 })) None)

-- tags 3 and 4: the key is the b bytes from place a
unfoldable pub opened_put : List ℕ → ℕ → Opened
opened_put row bytes =
    item_if (leb (get_or row 2 0 + get_or row 3 0) bytes && value_fits row bytes) row
    (content.TheVariants.Kv (record { op_type = op.TheVariants.Put; key_at = get_or row 2 0; key_len = get_or row 3 0; value = value_at row; file_id = file_at row }))

unfoldable pub opened_del : List ℕ → ℕ → Opened
opened_del row bytes =
    item_if (leb (get_or row 2 0 + get_or row 3 0) bytes) row
    (content.TheVariants.Kv (record { op_type = op.TheVariants.Del; key_at = get_or row 2 0; key_len = get_or row 3 0; value = None; file_id = None }))

-- by the tag; a row that is cut short or has another tag is refused
unfoldable pub opened_row : List ℕ → ℕ → ℕ → Opened
opened_row row rows bytes =
    cond (ltb (length row) item_width) (Err (record { raft_group_id = (get_or row 0 0) }))
    (cond (eqb (get_or row 1 0) 0) (opened_entries row rows)
    (cond (eqb (get_or row 1 0) 1) (item_if true row (content.TheVariants.Command command.TheVariants.Clean))
    (cond (eqb (get_or row 1 0) 2) (item_if true row (content.TheVariants.Command (command.TheVariants.Compact (get_or row 2 0))))
    (cond (eqb (get_or row 1 0) 3) (opened_put row bytes)
    (cond (eqb (get_or row 1 0) 4) (opened_del row bytes) (Err (record { raft_group_id = (get_or row 0 0) })))))))

-- ---- what an item with places stands for

unfoldable pub command_of : command.Command → rules.Command
command_of command.TheVariants.Clean = rules.clean
command_of (command.TheVariants.Compact i) = rules.compact i

unfoldable pub value_of : Option Bytes → List ℕ → Option (List ℕ)
value_of None bytes = None
value_of (Some b) bytes = Some (part b.at b.len bytes)

unfoldable pub change_of : op.OpType → Option Bytes → Option FileId → List ℕ → rules.Change
change_of op.TheVariants.Put v f bytes = rules.put (value_of v bytes) f
change_of op.TheVariants.Del v f bytes = rules.del

unfoldable pub key_change : KeyValue → List ℕ → rules.Change
key_change k bytes = change_of k.op_type k.value k.file_id bytes

unfoldable pub key_content : KeyValue → List ℕ → rules.Content
key_content k bytes = rules.kv (part k.key_at k.key_len bytes) (key_change k bytes)

unfoldable pub content_of : content.LogItemContent → List ℕ → List ℕ → rules.Content
content_of (content.TheVariants.EntryIndexes e) entries bytes =
    rules.entries (entries_of e.count (part (e.at * entry_width) (e.count * entry_width) entries))
content_of (content.TheVariants.Command c) entries bytes = rules.command (command_of c)
content_of (content.TheVariants.Kv k) entries bytes = key_content k bytes

unfoldable pub item_of : LogItem → List ℕ → List ℕ → rules.LogItem
item_of it entries bytes = record { group = it.raft_group_id; content = content_of it.content entries bytes }

-- a refused row is an item with one entry without a file, which every call refuses by 3
unfoldable pub without_file : EntryIndex
without_file = record { index = 0; entries = None; compression_type = compression.None; entry_offset = 0; entry_len = 0 }

unfoldable pub opened_of : Opened → List ℕ → List ℕ → rules.LogItem
opened_of (Ok it) entries bytes = item_of it entries bytes
opened_of (Err u) entries bytes = record { group = u.raft_group_id; content = rules.entries (without_file ∷ []) }

-- ---- the batch

module _ (entries bytes : List ℕ) where
  -- the item of the row at the front
  unfoldable pub item_at : List ℕ → rules.LogItem
  item_at row = opened_of (opened_row row (length entries / entry_width) (length bytes)) entries bytes

  -- the items of the first n rows
  unfoldable pub items_from : ℕ → List ℕ → List rules.LogItem
  items_from zero xs = []
  items_from (suc n) xs = item_at xs ∷ items_from n (drop item_width xs)

unfoldable pub items_of : List ℕ → List ℕ → List ℕ → List rules.LogItem
items_of items entries bytes = items_from entries bytes (row_count_of items) items

unfoldable pub batch_of : FileId → List ℕ → List ℕ → List ℕ → rules.Batch
batch_of f items entries bytes = record { file = f; items = items_of items entries bytes }

-- ---- the places of an opened item are within the slices

abbrev pub RowsWithin : content.LogItemContent → ℕ → Type 0
RowsWithin (content.TheVariants.EntryIndexes e) entries = (e.at + e.count) * 8 ≤ entries
RowsWithin (content.TheVariants.Command c) entries = Unit
RowsWithin (content.TheVariants.Kv k) entries = Unit

abbrev pub ValueWithin : Option Bytes → ℕ → Type 0
ValueWithin None bytes = Unit
ValueWithin (Some b) bytes = b.at + b.len ≤ bytes

abbrev pub BytesWithin : content.LogItemContent → ℕ → Type 0
BytesWithin (content.TheVariants.EntryIndexes e) bytes = Unit
BytesWithin (content.TheVariants.Command c) bytes = Unit
BytesWithin (content.TheVariants.Kv k) bytes = (k.key_at + k.key_len ≤ bytes) × ValueWithin k.value bytes

pub record Within (c : content.LogItemContent) (entries bytes : ℕ) : Type 0 where
  pub rows : RowsWithin c entries
  pub places : BytesWithin c bytes

abbrev pub OpenedWithin : Opened → ℕ → ℕ → Type 0
OpenedWithin (Ok it) entries bytes = Within it.content entries bytes
OpenedWithin (Err u) entries bytes = Unit
