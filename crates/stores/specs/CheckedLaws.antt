-- A batch that passed the checks: each of its items may be stored. Assumes nothing.
use Rattle.pipe_log.specs.declared.FileId.{FileId}
use Rattle.log_batch.specs.declared.item.Bytes.{Bytes}
use Rattle.rules.specs.Causes.{Ok}
use Rattle.std.specs.Prelude.{Option, Some, Bool, false, ◌≡◌, List, ℕ, ◌*◌, ◌/◌, ◌<◌, ltb, length, drop}
use Rattle.std.proofs.Common.{sym, ◌∙◌, ltb-false}
use Rattle.std.specs.Prelude.{None}
use Rattle.cells.specs.PartLaws.{length_part}
use Rattle.maps.specs.BoolLaws.{neither_left, neither_right}
use Rattle.maps.specs.Lists.{or_else}
use Rattle.rules.specs.Items as rules
use Rattle.rules.specs.Checks.{long_change, long, checks}
use Rattle.log_batch.specs.declared.item.OpType as op
use Rattle.log_batch.specs.declared.item.LogItemContent as content
use Rattle.log_batch.specs.declared.item.LogItem.{LogItem}
use Rattle.log_batch.specs.Lent.{row_count_of, opened_row, item_of, items_of, content_of, key_content, key_change, change_of, value_of, ValueWithin, Within}
use Rattle.log_batch.specs.OpenLaws.{BareOp, Bare, opened-within, opened_bare}
use Rattle.log_batch.specs.PassedLaws.{passed-opens}
use Rattle.stores.specs.Written.{ValueShort, ContentShort, Lent}

value-not-long : (o : op.OpType) (v : Option Bytes) (f : Option FileId) (bs : List ℕ) → BareOp o v → ValueWithin v (length bs) → long_change (change_of o v f bs) ≡ false → ValueShort v
unfolding long_change change_of value_of or_else
value-not-long op.TheVariants.Put None f bs b w e = tt
value-not-long op.TheVariants.Put (Some b') f bs b w e = ltb-false 32 b'.len (rw (length_part b'.at b'.len bs w) at e)
value-not-long op.TheVariants.Del v f bs b w e = rw b tt

not-long : (c : content.LogItemContent) (es bs : List ℕ) → Bare c → Within c (length es) (length bs) → long (content_of c es bs) ≡ false → ContentShort c
unfolding long content_of key_content key_change
not-long (content.TheVariants.EntryIndexes x) es bs b w e = tt
not-long (content.TheVariants.Command c) es bs b w e = tt
not-long (content.TheVariants.Kv k) es bs b w e =
    let n = length_part k.key_at k.key_len bs w.places.0 in
    let t : Bool = ltb 32 k.key_len in
    let f = rw n at e in
    (ltb-false 32 k.key_len (neither_left t _ f), value-not-long k.op_type k.value k.file_id bs b w.places.1 (neither_right t _ f))

-- an opened item that is not too long meets what `push` asks
pub opened_lent : (xs es bs : List ℕ) (i : ℕ) (it : LogItem) → opened_row (drop (i * 9) xs) (length es / 8) (length bs) ≡ Ok it → long (item_of it es bs).content ≡ false → Lent it (length es) (length bs)
unfolding item_of
opened_lent xs es bs i it e s =
    let w = rw e at (opened-within (length es) (length bs) (drop (i * 9) xs)) in
    record { within = w; short = not-long it.content es bs (opened_bare _ _ _ it e) w s }

module _ (call : rules.Call) (xs es bs : List ℕ) (passed : checks call (items_of xs es bs) ≡ None) (i : ℕ) (h : i < row_count_of xs) where
  -- each row opens, and what it opens into meets what `push` asks
  pub checked-opens : (it : LogItem) → opened_row (drop (i * 9) xs) (length es / 8) (length bs) ≡ Ok it → Lent it (length es) (length bs)
  checked-opens it e =
      let o = passed-opens call xs es bs passed i h in
      let same : o.item ≡ it = cc (sym o.opens ∙ e) in
      opened_lent xs es bs i it e (rw same at o.passed.short)
