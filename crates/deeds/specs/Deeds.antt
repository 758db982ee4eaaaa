-- What an item with places does to its group in a call.
use Rattle.pipe_log.specs.declared.FileId.{FileId}
use Rattle.log_batch.specs.declared.item.Bytes.{Bytes}
use mathlib.Core.Bool.{cond}
use Rattle.std.specs.Prelude.{Option, Some, None, List, [], ℕ, ◌*◌, get_or}
use Rattle.cells.specs.Part.{part}
use Rattle.maps.specs.Maps.{equal_bytes}
use Rattle.rules.specs.Limits.{reserved_key}
use Rattle.log_batch.specs.declared.causes.Call as call
use Rattle.log_batch.specs.declared.item.Command as command
use Rattle.log_batch.specs.declared.item.OpType as op
use Rattle.log_batch.specs.declared.item.KeyValue.{KeyValue}
use Rattle.log_batch.specs.declared.item.LogItemContent as content
use Rattle.rules.specs.Table.{Table}
use Rattle.stretch.specs.declared.Change as change
use Rattle.stretch.specs.Changes.{Ready}
use Rattle.deeds.specs.declared.Deed as deed

-- the rows of an item's entries, its key and its value; those that it does not have are empty
abbrev pub rows_in : content.LogItemContent → List ℕ → List ℕ
rows_in (content.TheVariants.EntryIndexes e) es = part (e.at * 8) (e.count * 8) es
rows_in (content.TheVariants.Command c) es = []
rows_in (content.TheVariants.Kv k) es = []

abbrev pub key_in : content.LogItemContent → List ℕ → List ℕ
key_in (content.TheVariants.EntryIndexes e) bs = []
key_in (content.TheVariants.Command c) bs = []
key_in (content.TheVariants.Kv k) bs = part k.key_at k.key_len bs

abbrev pub value_part : Option Bytes → List ℕ → List ℕ
value_part None bs = []
value_part (Some b) bs = part b.at b.len bs

abbrev pub value_in : content.LogItemContent → List ℕ → List ℕ
value_in (content.TheVariants.EntryIndexes e) bs = []
value_in (content.TheVariants.Command c) bs = []
value_in (content.TheVariants.Kv k) bs = value_part k.value bs

abbrev pub entries_change : call.Call → ℕ → change.Change
entries_change call.TheVariants.ReplayAppend first = change.TheVariants.Append first mathlib.Core.Bool.false
entries_change call.TheVariants.ReplayRewrite first = change.TheVariants.ReplayRewrite first
entries_change call.TheVariants.LiveAppend first = change.TheVariants.Append first mathlib.Core.Bool.true
entries_change (call.TheVariants.LiveRewrite gate seq) first = change.TheVariants.Rewrite first gate

-- in a live rewrite Clean only makes the group
abbrev pub clean_deed : call.Call → deed.Deed
clean_deed call.TheVariants.ReplayAppend = deed.TheVariants.Clean
clean_deed call.TheVariants.ReplayRewrite = deed.TheVariants.Clean
clean_deed call.TheVariants.LiveAppend = deed.TheVariants.Clean
clean_deed (call.TheVariants.LiveRewrite gate seq) = deed.TheVariants.Change change.TheVariants.Make

abbrev pub command_deed : call.Call → command.Command → deed.Deed
command_deed c command.TheVariants.Clean = clean_deed c
command_deed c (command.TheVariants.Compact i) = deed.TheVariants.Change (change.TheVariants.Compact i)

-- a Put without a file meets 3 where it is read, and is never reached
abbrev pub put_held_deed : Option FileId → deed.Deed
put_held_deed None = deed.TheVariants.Skip
put_held_deed (Some f) = deed.TheVariants.Change (change.TheVariants.Put f.queue f.seq)

abbrev pub put_deed : call.Call → Option FileId → deed.Deed
put_deed call.TheVariants.ReplayAppend f = put_held_deed f
put_deed call.TheVariants.ReplayRewrite f = put_held_deed f
put_deed call.TheVariants.LiveAppend f = put_held_deed f
put_deed (call.TheVariants.LiveRewrite gate seq) f = deed.TheVariants.Change (change.TheVariants.RewriteKey gate seq)

abbrev pub op_deed : call.Call → op.OpType → Option FileId → deed.Deed
op_deed c op.TheVariants.Put f = put_deed c f
op_deed c op.TheVariants.Del f = deed.TheVariants.Change change.TheVariants.Delete

abbrev pub key_deed : call.Call → KeyValue → deed.Deed
key_deed c k = op_deed c k.op_type k.file_id

unfoldable pub deed_of : call.Call → content.LogItemContent → List ℕ → List ℕ → deed.Deed
deed_of c (content.TheVariants.EntryIndexes e) es bs =
    deed.TheVariants.Change (entries_change c (get_or (part (e.at * 8) (e.count * 8) es) 0 0))
deed_of c (content.TheVariants.Command m) es bs = command_deed c m
deed_of c (content.TheVariants.Kv k) es bs =
    cond (equal_bytes (part k.key_at k.key_len bs) reserved_key) deed.TheVariants.Skip (key_deed c k)

-- what a deed asks of what is lent with it
unfoldable pub DeedReady : deed.Deed → List ℕ → List ℕ → List ℕ → Table → Type 0
DeedReady deed.TheVariants.Skip rows key value t = Unit {0}
DeedReady deed.TheVariants.Clean rows key value t = Unit {0}
DeedReady (deed.TheVariants.Change ch) rows key value t = Ready ch rows key value t
