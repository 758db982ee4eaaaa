-- Files, entry records, items and batches.
use Rattle.std.specs.Prelude.{Bool, true, false, cond, List, [], ◌∷◌, map, ℕ, zero, suc}
use Rattle.std.specs.Prelude.{Option, None, Some}
pub use Rattle.pipe_log.specs.declared.LogQueue.{LogQueue, TheVariants.Append, TheVariants.Rewrite}
pub use Rattle.pipe_log.specs.declared.FileId.{FileId}
pub use Rattle.pipe_log.specs.declared.FileBlockHandle.{FileBlockHandle}
pub use Rattle.pipe_log.specs.declared.EntryIndex.{EntryIndex}
use Rattle.rules.specs.Limits.{reserved_key}
use Rattle.maps.specs.Lists.{or_else}
use Rattle.maps.specs.Maps.{equal_bytes}

unfoldable pub same_queue : LogQueue → LogQueue → Bool
same_queue Append Append = true
same_queue Append Rewrite = false
same_queue Rewrite Append = false
same_queue Rewrite Rewrite = true

-- whether an entry has a file, and the file; an entry without one is refused by 3 and never held
unfoldable pub has_file : Option FileBlockHandle → Bool
has_file None = false
has_file (Some block) = true

unfoldable pub block_file : Option FileBlockHandle → FileId
block_file None = record { queue = Append; seq = 0 }
block_file (Some block) = block.id

unfoldable pub file_of : EntryIndex → FileId
file_of e = block_file e.entries

unfoldable pub is_rewrite : EntryIndex → Bool
is_rewrite e = same_queue (file_of e).queue Rewrite

pub data Command : Type 0 where
  clean : Command
  compact : ℕ → Command

-- what a key change does: Put with its value and file, each of which may be missing, or Del
pub data Change : Type 0 where
  put : Option (List ℕ) → Option FileId → Change
  del : Change

pub data Content : Type 0 where
  entries : List EntryIndex → Content
  command : Command → Content
  kv : List ℕ → Change → Content

pub record LogItem : Type 0 where
  pub group : ℕ
  pub content : Content

-- 01's batch: a list of items with a file
pub record Batch : Type 0 where
  pub file : FileId
  pub items : List LogItem

-- an item of a reserved key is skipped
unfoldable pub is_reserved : Content → Bool
is_reserved (entries es) = false
is_reserved (command c) = false
is_reserved (kv k c) = equal_bytes k reserved_key

unfoldable pub is_clean : Content → Bool
is_clean (entries es) = false
is_clean (command clean) = true
is_clean (command (compact i)) = false
is_clean (kv k c) = false

-- Del, a reserved one too, Clean and Compact are tombstones
unfoldable pub is_tombstone : Content → Bool
is_tombstone (entries es) = false
is_tombstone (command c) = true
is_tombstone (kv k (put v f)) = false
is_tombstone (kv k del) = true

-- the status byte of a mark: a Put of a reserved key with one value byte
unfoldable pub one_byte : Option (List ℕ) → Option ℕ
one_byte None = None
one_byte (Some []) = None
one_byte (Some (b ∷ [])) = Some b
one_byte (Some (b ∷ (d ∷ ds))) = None

unfoldable pub mark_byte : Content → Option ℕ
mark_byte (entries es) = None
mark_byte (command c) = None
mark_byte (kv k del) = None
mark_byte (kv k (put v f)) = cond (equal_bytes k reserved_key) (one_byte v) None

unfoldable pub is_mark : LogItem → Bool
is_mark it = or_else false (λ (b : ℕ). true) (mark_byte it.content)

-- the status of a mark: 0 Begin, 1 Middle, 2 End (a higher byte is refused by 7)
pub data Status : Type 0 where
  begin middle end : Status

unfoldable pub status_of : ℕ → Status
status_of zero = begin
status_of (suc zero) = middle
status_of (suc (suc n)) = end

-- an item with the place that its refusal is given with
pub record Placed : Type 0 where
  pub item : LogItem
  pub place : Option ℕ

-- the items of a batch with their own positions, counted from i
unfoldable pub placed_from : ℕ → List LogItem → List Placed
placed_from i [] = []
placed_from i (x ∷ xs) = record { item = x; place = Some i } ∷ placed_from (suc i) xs

-- items that are all refused with one place
unfoldable pub placed_at : Option ℕ → List LogItem → List Placed
placed_at p xs = map (λ (x : LogItem). record { item = x; place = p }) xs

-- the four calls that take a batch; a live rewrite has its gate and the batch's sequence number
pub data Call : Type 0 where
  replay_append replay_rewrite live_append : Call
  live_rewrite : Option ℕ → ℕ → Call

-- the queue that a call writes
unfoldable pub writes : Call → LogQueue
writes replay_append = Append
writes replay_rewrite = Rewrite
writes live_append = Append
writes (live_rewrite g s) = Rewrite

unfoldable pub is_live_rewrite : Call → Bool
is_live_rewrite replay_append = false
is_live_rewrite replay_rewrite = false
is_live_rewrite live_append = false
is_live_rewrite (live_rewrite g s) = true
