-- What the checks 2 to 6 say of an item that passed them, and that a deed is what the rules say of its item. Assumes nothing.
use Rattle.pipe_log.specs.declared.FileId.{FileId}
use Rattle.log_batch.specs.declared.item.Bytes.{Bytes}
use Rattle.std.specs.Prelude.{Bool, not, ◌&&◌, ◌||◌, List, [], ◌∷◌, ◌≡◌, ℕ, ◌+◌, ◌*◌, ◌/◌, ◌≤◌, ◌^◌, length, get_or}
use Rattle.std.proofs.Math.Bool.{true, false}
use Rattle.std.specs.Prelude.{Option, None, Some}
use Rattle.std.proofs.Math.Path.{refl}
use Rattle.std.proofs.Common.{sym, ap, ◌∙◌, arith}
use Rattle.std.proofs.Math.Dec.{ltb}
use borrow.Author.Tests.{ltb-false, not-false}
use Rattle.cells.specs.Part.{part}
use Rattle.cells.specs.PartLaws.{length_part, part_none}
use Rattle.maps.specs.BoolLaws.{clash, and-false, neither_left, neither_right}
use Rattle.maps.specs.OrderLaws.{split}
use Rattle.maps.specs.Lists.{every, any, or_else}
use Rattle.maps.specs.Maps.{equal_bytes}
use Rattle.pipe_log.specs.Numbers.{queue_number}
use Rattle.pipe_log.specs.Rows.{entries_of, window}
use Rattle.rules.specs.Limits.{max_bytes, reserved_key}
use Rattle.rules.specs.Causes.{Ok, and_then}
use Rattle.rules.specs.Items as rules
use Rattle.rules.specs.Checks.{consecutive, long, long_change, lacks_value, lacks_file, is_incomplete, is_out_of_range, is_other_queue, is_not_rewritable, is_rewrite_replay, meets3, unless_reserved}
use Rattle.rules.specs.Table.{Table, made, change, entries_to, put_to, change_to, command_to, put_held}
use Rattle.memtable.specs.Appends.{Lent}
use Rattle.memtable.specs.BatchLaws.{entries_of-window, lent-checked}
use Rattle.log_batch.specs.declared.causes.Call as call
use Rattle.log_batch.specs.declared.item.Command as command
use Rattle.log_batch.specs.declared.item.OpType as op
use Rattle.log_batch.specs.declared.item.EntryIndexes.{EntryIndexes}
use Rattle.log_batch.specs.declared.item.LogItemContent as content
use Rattle.log_batch.specs.Lent.{content_of, key_content, key_change, change_of, value_of, command_of, Within}
use Rattle.log_batch.specs.Judged.{call_of}
use Rattle.log_batch.specs.OpenLaws.{BareOp, Bare}
use Rattle.log_batch.specs.PassedLaws.{Passed}
use Rattle.stretch.specs.declared.Change as change'
use Rattle.stretch.specs.Changes.{rule_of, Ready}
use Rattle.deeds.specs.declared.Deed as deed
use Rattle.deeds.specs.Deeds.{rows_in, key_in, value_in, value_part, entries_change, clean_deed, command_deed, put_held_deed, put_deed, op_deed, deed_of}

-- ---- an item of a batch that passed the checks

-- what the checks say of a content that is not reserved
pub record Clear (c : rules.Call) (x : rules.Content) : Type 0 where
  pub short : long x ≡ false
  pub complete : is_incomplete c x ≡ false
  pub in-range : is_out_of_range x ≡ false
  pub own-queue : is_other_queue c x ≡ false
  pub rewritable : is_not_rewritable c x ≡ false

module _ (c : rules.Call) (items : List rules.LogItem) (i : ℕ) (it : rules.LogItem) (p : Passed c items i it) (r : rules.is_reserved it.content ≡ false) where
  pub passed-clear : Clear c it.content
  unfolding meets3 unless_reserved
  passed-clear =
      record {
        short = p.short;
        complete = rw r at p.complete;
        in-range = rw r at p.ranged;
        own-queue = rw r at p.queued;
        rewritable = rw r at p.rewritable;
      }

-- ---- what a deed says of its item

-- a replayed rewrite is of a group that has Rewrite entries alone
abbrev pub OnlyRewrite : rules.Call → Table → Type 0
OnlyRewrite c t = is_rewrite_replay c ≡ true → every rules.is_rewrite t.entries ≡ true

pub record Changes (c : rules.Call) (x : rules.Content) (ch : change'.Change) (rows key value : List ℕ) : Type 0 where
  pub not-reserved : rules.is_reserved x ≡ false
  pub rule : (t : Option Table) → change c x t ≡ and_then (rule_of ch rows key value (made t)) (λ u. Ok (Some u))
  pub ready : (t : Table) → OnlyRewrite c t → Ready ch rows key value t
  -- a tombstone is never refused by its group
  pub taken : rules.is_tombstone x ≡ true → (t : Table) → (u : Table) × (rule_of ch rows key value t ≡ Ok u)
  -- a Clean that changes its group is one of the Rewrite side
  pub not-cleaned : rules.same_queue (rules.writes c) rules.Append && rules.is_clean x ≡ false

unfoldable pub DeedSays : deed.Deed → rules.Call → rules.Content → List ℕ → List ℕ → List ℕ → Type 0
DeedSays deed.TheVariants.Skip c x rows key value = rules.is_reserved x ≡ true
DeedSays deed.TheVariants.Clean c x rows key value = (x ≡ rules.command rules.clean) × (rules.is_live_rewrite c ≡ false)
DeedSays (deed.TheVariants.Change ch) c x rows key value = Changes c x ch rows key value

-- ---- lists of entries

abbrev unfiled : rules.EntryIndex → Bool
unfiled e = not (rules.has_file e.entries)

module _ (c : rules.Call) (es : List ℕ) (e : EntryIndexes) (w : (e.at + e.count) * 8 ≤ length es) where
  abbrev rows : List ℕ
  rows = part (e.at * 8) (e.count * 8) es

  rows-length : length rows ≡ e.count * 8
  rows-length = length_part (e.at * 8) (e.count * 8) es (omega arith)

  module _ (k : Clear c (rules.entries (entries_of e.count rows))) where
    is-window : entries_of e.count rows ≡ window (get_or rows 0 0) e.count rows
    unfolding is_incomplete
    is-window = entries_of-window e.count rows (not-false (consecutive (entries_of e.count rows)) (neither_right (any unfiled (entries_of e.count rows)) (not (consecutive (entries_of e.count rows))) k.complete))

    whole-window : entries_of e.count rows ≡ window (get_or rows 0 0) (length rows / 8) rows
    whole-window =
        let n : length rows / 8 ≡ e.count = omega (arith, rows-length) in
        is-window ∙ ap (λ (m : ℕ). window (get_or rows 0 0) m rows) (sym n)

    first_of-none : e.count ≡ 0 → get_or rows 0 0 ≤ 2 ^ 63
    first_of-none z =
        let n : rows ≡ [] = ap (λ (m : ℕ). part (e.at * 8) (m * 8) es) z ∙ part_none (e.at * 8) es in
        rw n (omega arith)

    lent_rows_lem : Lent (queue_number (rules.writes c)) (get_or rows 0 0) rows
    lent_rows_lem =
        lent-checked c (get_or rows 0 0) e.count rows
        (ap (λ (l : List _). is_incomplete c (rules.entries l)) (sym is-window) ∙ k.complete)
        (ap (λ (l : List _). is_out_of_range (rules.entries l)) (sym is-window) ∙ k.in-range)
        (ap (λ (l : List _). is_other_queue c (rules.entries l)) (sym is-window) ∙ k.own-queue)
        rows-length
        first_of-none

module _ (es : List ℕ) (e : EntryIndexes) (w : (e.at + e.count) * 8 ≤ length es) where
  abbrev list : rules.Content
  list = rules.entries (entries_of e.count (rows rules.replay_append es e w))

  entries_say : (c : call.Call) → Clear (call_of c) list → Changes (call_of c) list (entries_change c (get_or (rows (call_of c) es e w) 0 0)) (rows (call_of c) es e w) [] []
  unfolding call_of rule_of Ready change entries_to rules.is_reserved rules.is_tombstone rules.is_clean rules.writes rules.same_queue is_rewrite_replay
  entries_say call.TheVariants.ReplayAppend k =
      record {
        not-reserved = refl;
        rule = λ t. rw (whole-window rules.replay_append es e w k);
        ready = λ t o. lent_rows_lem rules.replay_append es e w k;
        taken = λ f t. absurd (clash f);
        not-cleaned = refl;
      }
  entries_say call.TheVariants.ReplayRewrite k =
      record {
        not-reserved = refl;
        rule = λ t. rw (whole-window rules.replay_rewrite es e w k);
        ready = λ t o. (lent_rows_lem rules.replay_rewrite es e w k, o refl);
        taken = λ f t. absurd (clash f);
        not-cleaned = refl;
      }
  entries_say call.TheVariants.LiveAppend k =
      record {
        not-reserved = refl;
        rule = λ t. rw (whole-window rules.live_append es e w k);
        ready = λ t o. lent_rows_lem rules.live_append es e w k;
        taken = λ f t. absurd (clash f);
        not-cleaned = refl;
      }
  entries_say (call.TheVariants.LiveRewrite g s) k =
      record {
        not-reserved = refl;
        rule = λ t. rw (whole-window (rules.live_rewrite g s) es e w k);
        ready = λ t o. lent_rows_lem (rules.live_rewrite g s) es e w k;
        taken = λ f t. absurd (clash f);
        not-cleaned = refl;
      }

-- ---- commands

compact-says : (c : rules.Call) (i : ℕ) → Changes c (rules.command (rules.compact i)) (change'.TheVariants.Compact i) [] [] []
unfolding rule_of Ready change command_to and_then rules.is_reserved rules.is_tombstone rules.is_clean
compact-says c i =
    record { not-reserved = refl; rule = λ t. refl; ready = λ t o. tt; taken = λ f t. (_, refl); not-cleaned = and-false (rules.same_queue (rules.writes c) rules.Append) }

clean-says : (c : call.Call) → DeedSays (clean_deed c) (call_of c) (rules.command rules.clean) [] [] []
unfolding DeedSays call_of rule_of Ready change command_to and_then rules.is_reserved rules.is_tombstone rules.is_clean rules.is_live_rewrite rules.writes rules.same_queue
clean-says call.TheVariants.ReplayAppend = (refl, refl)
clean-says call.TheVariants.ReplayRewrite = (refl, refl)
clean-says call.TheVariants.LiveAppend = (refl, refl)
clean-says (call.TheVariants.LiveRewrite g s) =
    record { not-reserved = refl; rule = λ t. refl; ready = λ t o. tt; taken = λ f t. (_, refl); not-cleaned = refl }

command-says : (c : call.Call) (m : command.Command) → DeedSays (command_deed c m) (call_of c) (rules.command (command_of m)) [] [] []
unfolding DeedSays command_of
command-says c command.TheVariants.Clean = clean-says c
command-says c (command.TheVariants.Compact i) = compact-says (call_of c) i

-- ---- keys

module _ (key : List ℕ) (r : equal_bytes key reserved_key ≡ false) where
  delete-says : (c : rules.Call) → Changes c (rules.kv key rules.del) change'.TheVariants.Delete [] key []
  unfolding rule_of Ready change change_to and_then rules.is_reserved rules.is_tombstone rules.is_clean
  delete-says c =
      record { not-reserved = r; rule = λ t. refl; ready = λ t o. tt; taken = λ f t. (_, refl); not-cleaned = and-false (rules.same_queue (rules.writes c) rules.Append) }

  -- a live rewrite reads neither value nor file
  move-says : (g : _) (s : ℕ) (v : Option (List ℕ)) (f : Option _) (value : List ℕ) → Changes (rules.live_rewrite g s) (rules.kv key (rules.put v f)) (change'.TheVariants.RewriteKey g s) [] key value
  unfolding rule_of Ready change change_to put_to rules.is_reserved rules.is_tombstone rules.is_clean
  move-says g s v f value =
      record { not-reserved = r; rule = λ t. refl; ready = λ t o. tt; taken = λ f t. absurd (clash f); not-cleaned = and-false (rules.same_queue (rules.writes (rules.live_rewrite g s)) rules.Append) }

  -- a Put that is read has a value and a file
  module _ (c : rules.Call) (l : rules.is_live_rewrite c ≡ false)
      (puts : (v : Option (List ℕ)) (f : Option rules.FileId) (t : Table) → put_to c key v f t ≡ Ok (put_held key v f t)) where
    lacks : (x : rules.Change) → is_incomplete c (rules.kv key x) ≡ false → (lacks_value x || lacks_file x) ≡ false
    unfolding is_incomplete
    lacks x e = rw l at e

    put-says : (v : Option Bytes) (f : Option FileId) (bs : List ℕ) → Clear c (rules.kv key (rules.put (value_of v bs) f)) → DeedSays (put_held_deed f) c (rules.kv key (rules.put (value_of v bs) f)) [] key (value_part v bs)
    unfolding DeedSays rule_of Ready change change_to put_held and_then value_of lacks_value lacks_file long long_change or_else rules.is_reserved rules.is_tombstone rules.is_clean
    put-says v None bs k = absurd (clash (sym (neither_right (lacks_value (rules.put (value_of v bs) None)) true (lacks (rules.put (value_of v bs) None) k.complete))))
    put-says None (Some f) bs k = absurd (clash (sym (neither_left true false (lacks (rules.put None (Some f)) k.complete))))
    put-says (Some b) (Some f) bs k =
        let x = ltb max_bytes (length key) in
        let y = ltb max_bytes (length (part b.at b.len bs)) in
        record {
          not-reserved = r;
          rule = λ t. rw (puts (Some (part b.at b.len bs)) (Some f) (made t));
          ready = λ t o. (ltb-false max_bytes (length key) (neither_left x y k.short), ltb-false max_bytes (length (part b.at b.len bs)) (neither_right x y k.short));
          taken = λ f t. absurd (clash f);
          not-cleaned = and-false (rules.same_queue (rules.writes c) rules.Append);
        }

  put_by-call : (c : call.Call) (v : Option Bytes) (f : Option FileId) (bs : List ℕ) → Clear (call_of c) (rules.kv key (rules.put (value_of v bs) f)) → DeedSays (put_deed c f) (call_of c) (rules.kv key (rules.put (value_of v bs) f)) [] key (value_part v bs)
  unfolding DeedSays call_of put_to rules.is_live_rewrite
  put_by-call call.TheVariants.ReplayAppend v f bs k = put-says rules.replay_append refl (λ v f t. refl) v f bs k
  put_by-call call.TheVariants.ReplayRewrite v f bs k = put-says rules.replay_rewrite refl (λ v f t. refl) v f bs k
  put_by-call call.TheVariants.LiveAppend v f bs k = put-says rules.live_append refl (λ v f t. refl) v f bs k
  put_by-call (call.TheVariants.LiveRewrite g s) v f bs k = move-says g s (value_of v bs) f (value_part v bs)

  op-says : (c : call.Call) (o : op.OpType) (v : Option Bytes) (f : Option FileId) (bs : List ℕ) → BareOp o v → Clear (call_of c) (rules.kv key (change_of o v f bs)) → DeedSays (op_deed c o f) (call_of c) (rules.kv key (change_of o v f bs)) [] key (value_part v bs)
  unfolding DeedSays change_of
  op-says c op.TheVariants.Put v f bs d k = put_by-call c v f bs k
  op-says c op.TheVariants.Del v f bs d k = rw d (delete-says (call_of c))

-- ---- any item

pub deed-says : (c : call.Call) (x : content.LogItemContent) (es bs : List ℕ) → Within x (length es) (length bs) → Bare x → (rules.is_reserved (content_of x es bs) ≡ false → Clear (call_of c) (content_of x es bs)) → DeedSays (deed_of c x es bs) (call_of c) (content_of x es bs) (rows_in x es) (key_in x bs) (value_in x bs)
unfolding DeedSays deed_of content_of key_content key_change rules.is_reserved
deed-says c (content.TheVariants.EntryIndexes e) es bs w d k = entries_say es e w.rows c (k refl)
deed-says c (content.TheVariants.Command m) es bs w d k = command-says c m
deed-says c (content.TheVariants.Kv x) es bs w d k =
    split (equal_bytes (part x.key_at x.key_len bs) reserved_key)
    (λ y. rw y y)
    (λ n. rw n (op-says (part x.key_at x.key_len bs) n c x.op_type x.value x.file_id bs d (k n)))

-- an empty list has no first number
pub none_first : (l : List ℕ) → length l ≡ 0 → 0 ≡ get_or l 0 0
none_first [] e = refl
none_first (x ∷ l) e = absurd (omega arith)
