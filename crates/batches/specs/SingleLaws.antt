-- The only item of a batch, and a batch of one list of entries or one Put. Assumes nothing.
use Rattle.std.specs.Prelude.{Bool, true, false, cond, not, ◌&&◌, List, [], ◌∷◌, ◌≡◌, leb, ltb, length}
use Rattle.std.specs.Prelude.{Option, None, Some}
use Rattle.std.proofs.Math.Path.{refl, sym, ap}
use Rattle.std.proofs.Common.{◌∙◌, arith}
use Prim.Native.Nat.{ℕ, ◌+◌, ◌*◌, ◌/◌, ◌≤◌, ◌<◌}
use Rattle.std.proofs.Math.ListN.{get_or}
use borrow.Author.Tests.{eq-eqb, leb-true, le-leb, le-ltb, ltb-true}
use Rattle.cells.specs.Part.{part}
use Rattle.cells.specs.PartLaws.{length_part}
use Rattle.maps.specs.BoolLaws.{and-false, both_left, both_right}
use Rattle.maps.specs.Lists.{or_else}
use Rattle.maps.specs.Maps.{Map, lookup, numbers, equal_bytes}
use Rattle.maps.specs.Cells.{map_of}
use Rattle.pipe_log.specs.Numbers.{queue_number}
use Rattle.rules.specs.Limits.{reserved_key}
use Rattle.rules.specs.Causes.{Cause, ByCause, Err, Ok, and_then, placed, left}
use Rattle.rules.specs.Items.{LogQueue, Append, Rewrite, same_queue, LogItem, placed_from, is_reserved, is_tombstone, is_clean, writes, is_live_rewrite, mark_byte}
use Rattle.rules.specs.Checks.{Mark, first_mark, long, long_change, lacks_value, lacks_file, other_file, is_incomplete, is_out_of_range, is_other_queue, is_not_rewritable, is_rewrite_replay, meets7}
use Rattle.rules.specs.Table.{Table, made}
use Rattle.rules.specs.Context.{Context, with_groups, keeps, limited, run}
use Rattle.log_batch.specs.declared.causes.Call as call
use Rattle.log_batch.specs.declared.item.LogItem as lent
use Rattle.log_batch.specs.Lent.{row_count_of, RowsWithin, item_if, value_fits, value_at, file_at, opened_entries, opened_put, opened_row, value_of, change_of, key_change, key_content, content_of, item_of, item_at, items_from, items_of}
use Rattle.log_batch.specs.OpenLaws.{item-opened, length-entries}
use Rattle.log_batch.specs.Judged.{call_of, mark_for, least_content, least_mark, least_of, lesser_of}
use Rattle.log_batch.specs.Plain.{plain_list, plain_content}
use Rattle.log_batch.proofs.ItemLaws.{key_other}
use Rattle.log_batch.proofs.PlainLaws.{plain-least}
use Rattle.log_batch.proofs.LeastLaws.{least_by}
use Rattle.log_batch.proofs.CheckLaws.{scan-start, scan-more, passed_at-end}
use Rattle.stretch.specs.declared.Change as change
use Rattle.stretch.specs.declared.Change.{Change}
use Rattle.stretch.specs.Changes.{rule_of, Ready}
use Rattle.cells.specs.declared.Slot.{Slot}
use Rattle.cells.specs.declared.Slot.TheVariants.{At}
use Rattle.groups.specs.Area.{groups_of, Found, OnlySlot}
use Rattle.groups.specs.Area as groups
use Rattle.groups.specs.Calls.{ChangedGroup, RemovedGroup}
use Rattle.groups.specs.Laws.{slot-behind}
use Rattle.deeds.specs.declared.Deed as deed
use Rattle.deeds.specs.Deeds.{rows_in, key_in, value_in, entries_change, deed_of}
use Rattle.deeds.specs.DeedLaws.{DeedSays, deed-says}
use Rattle.contexts.specs.Contexts.{context_of, Formed, answer_as, Answered}
use Rattle.contexts.specs.AreaLaws.{room_wf, context-fits}
use Rattle.batches.specs.Steps.{adds_tombstone, adds_cleaned, one_more_if, grown, room_if, lists_have_room}
use Rattle.batches.specs.Acts.{deed_on, BehindKept}
use Rattle.batches.specs.ActLaws.{done-not-refused, change-ready}
use Rattle.batches.specs.ItemLaws.{step_room}
use Rattle.batches.specs.Runs.{ItemReady, Keeping}
use Rattle.batches.specs.RunLaws.{room-stays, rest_wf, behind-context}
use Rattle.batches.specs.OwnLaws.{keeping-table}
use Rattle.batches.specs.CarryLaws.{does-ready}
use Rattle.batches.specs.BatchLaws.{opened-ready, run_from, run-start, run_end, run-done, run-refused}
use Rattle.batches.specs.Singles.{list_item, put_item, AddsNothing, Single, SingleList, append_call, ActedAlone, Alone, answer_of}

-- ---- a deed with nothing to go back to

module _ (g : ℕ) (slot : Slot) (xs bs : List ℕ) (w : groups.Wf xs bs) (f : Found g xs slot) where
  behind-slot : (ys fs : List ℕ) → OnlySlot slot xs bs ys fs → BehindKept xs bs ys fs
  behind-slot ys fs o =
      let b = slot-behind g slot xs bs ys fs f w.numbers_fit w.bytes_fit o in
      record { numbers = b.numbers; bytes = b.bytes }

  module _ (d : deed.Deed) (rows key value : List ℕ) where
    pub alone-changed : (ch : Change) → d ≡ deed.TheVariants.Change ch → (r : ByCause (Unit {0})) (ys fs : List ℕ) → ChangedGroup (rule_of ch rows key value) g slot xs bs r ys fs → ActedAlone (deed_on d g rows key value) xs bs r ys fs
    unfolding deed_on groups_of
    alone-changed ch e r ys fs a =
        record { rule = rw e a.rule; left = λ n k. ap map_of (a.left n k); behind = behind-slot ys fs a.only; wf = a.wf }

    pub alone-removed : d ≡ deed.TheVariants.Clean → (ys : List ℕ) → RemovedGroup g slot xs bs ys → ActedAlone (deed_on d g rows key value) xs bs (Ok tt) ys bs
    unfolding deed_on
    alone-removed e ys r =
        record { rule = rw e (ap Ok r.rule); left = λ n k. absurd (done-not-refused n k); behind = behind-slot ys bs r.only; wf = r.wf }

pub alone-skipped : (d : deed.Deed) (g : ℕ) (rows key value xs bs : List ℕ) → d ≡ deed.TheVariants.Skip → groups.Wf xs bs → ActedAlone (deed_on d g rows key value) xs bs (Ok tt) xs bs
unfolding deed_on
alone-skipped d g rows key value xs bs e w =
    record { rule = rw e; left = λ n k. refl; behind = record { numbers = refl; bytes = refl }; wf = w }

-- ---- the only item

module _ (c : call.Call) (it : lent.LogItem) (es ds : List ℕ) (ready : ItemReady (call_of c) it es ds) (n : AddsNothing (call_of c) (item_of it es ds)) (xs bs : List ℕ) (w : Formed xs bs) where
  -- the item, its group, its deed, and what is lent with it
  abbrev item : LogItem
  item = item_of it es ds

  abbrev group : ℕ
  group = it.raft_group_id

  abbrev does : deed.Deed
  does = deed_of c it.content es ds

  abbrev rows : List ℕ
  rows = rows_in it.content es

  abbrev key : List ℕ
  key = key_in it.content ds

  abbrev value : List ℕ
  value = value_in it.content ds

  says : DeedSays does (call_of c) item.content rows key value
  unfolding item_of
  says = deed-says c it.content es ds ready.lent_is.within ready.bare ready.clear

  room : lists_have_room (call_of c) item (context_of xs bs) ≡ true
  unfolding lists_have_room room_if
  room = rw (n.no-tombstone, n.no-cleaned)

  not-grown : (x : Context) → grown (call_of c) item x ≡ x
  unfolding grown one_more_if
  not-grown x = rw (n.no-tombstone, n.no-cleaned)

  module _ (r : ByCause (Unit {0})) (ys fs : List ℕ) (a : ActedAlone (deed_on does group rows key value) xs bs r ys fs) where
    formed : Formed ys fs
    formed = record { groups = a.wf; rest = rest_wf xs bs ys fs a.behind w.rest; waiting = room_wf xs bs ys fs (room-stays xs bs ys fs a.behind) w.waiting }

  alone-done : (ys fs : List ℕ) → ActedAlone (deed_on does group rows key value) xs bs (Ok tt) ys fs → Alone (call_of c) item xs bs (Ok tt) ys fs
  unfolding placed and_then context_of with_groups item_of
  alone-done ys fs a =
      record {
        rule = λ p.
            ap Ok (behind-context xs bs ys fs a.behind ∙ sym (not-grown _))
            ∙ rw (step_room (call_of c) item p (context_of xs bs) (context-fits xs bs w) rows key value does says room, ← a.rule);
        left = λ k e. absurd (done-not-refused k e);
        formed = formed (Ok tt) ys fs a;
      }

  alone-refused : (k : Cause) (ys fs : List ℕ) → ActedAlone (deed_on does group rows key value) xs bs (Err k) ys fs → Alone (call_of c) item xs bs (Err k) ys fs
  unfolding placed and_then context_of with_groups item_of
  alone-refused k ys fs a =
      record {
        rule = λ p. rw (step_room (call_of c) item p (context_of xs bs) (context-fits xs bs w) rows key value does says room, ← a.rule);
        left = λ m e. behind-context xs bs ys fs a.behind ∙ ap (λ (g : Map ℕ Table). with_groups g (context_of xs bs)) (a.left k refl);
        formed = formed (Err k) ys fs a;
      }

  pub alone : (r : ByCause (Unit {0})) (ys fs : List ℕ) → ActedAlone (deed_on does group rows key value) xs bs r ys fs → Alone (call_of c) item xs bs r ys fs
  alone (Ok _) ys fs a = alone-done ys fs a
  alone (Err k) ys fs a = alone-refused k ys fs a

-- ---- a batch of one item

one-row : (items : List ℕ) → length items ≡ 9 → row_count_of items ≡ 1
unfolding row_count_of
one-row items n = rw n

pub single-ready : (c : call.Call) (it : lent.LogItem) (items es ds : List ℕ) → Single c it items es ds → ItemReady (call_of c) it es ds
single-ready c it items es ds s =
    opened-ready (call_of c) items es ds 0 it s.passes (omega (arith, one-row items s.nine)) s.opens

module _ (c : call.Call) (it : lent.LogItem) (items es ds xs bs ys fs : List ℕ) (s : Single c it items es ds) where
  runs : (x : Context) → run limited (call_of c) (placed_from 0 (items_of items es ds)) x ≡ run_from (call_of c) items es ds 1 0 x
  runs x = sym (run-start (call_of c) items es ds 1 x (sym (one-row items s.nine)))

  is-item : item_at es ds items ≡ item_of it es ds
  is-item = item-opened es ds items it s.opens

  single-done : Alone (call_of c) (item_of it es ds) xs bs (Ok tt) ys fs → Answered (run limited (call_of c) (placed_from 0 (items_of items es ds))) xs bs (Ok tt) ys fs
  unfolding answer_as left
  single-done a =
      let r : run limited (call_of c) (placed_from 0 (items_of items es ds)) (context_of xs bs) ≡ Ok (context_of ys fs) = runs (context_of xs bs) ∙ run-done (call_of c) items es ds 1 0 (context_of xs bs) (context_of ys fs) (omega arith) (rw is-item (sym (a.rule (Some 0)))) ∙ run_end (call_of c) items es ds 1 1 (context_of ys fs) (omega arith) in
      record { answers = sym r; leaves = sym (ap (left (context_of xs bs)) r); formed = a.formed }

  single-refused : (k : Cause) → Alone (call_of c) (item_of it es ds) xs bs (Err k) ys fs → Answered (run limited (call_of c) (placed_from 0 (items_of items es ds))) xs bs (Err (record { cause = k; place = Some 0 })) ys fs
  unfolding answer_as left
  single-refused k a =
      let r = runs (context_of xs bs) ∙ run-refused (call_of c) items es ds 1 0 (context_of xs bs) (record { cause = k; place = Some 0 }) (omega arith) (rw is-item (sym (a.rule (Some 0)))) in
      record { answers = sym r; leaves = a.left k refl ∙ sym (ap (left (context_of xs bs)) r); formed = a.formed }

  pub single-answer : (r : ByCause (Unit {0})) → Alone (call_of c) (item_of it es ds) xs bs r ys fs → Answered (run limited (call_of c) (placed_from 0 (items_of items es ds))) xs bs (answer_of r) ys fs
  unfolding answer_of
  single-answer (Ok _) a = single-done a
  single-answer (Err k) a = single-refused k a

-- ---- an item that meets none of the checks

never : (b : Bool) → ◌≡◌ {A = Option Mark} (cond b None None) None
never true = refl
never false = refl

module _ (c : call.Call) (it : lent.LogItem) (items es ds : List ℕ) (n : length items ≡ 9) (opens : opened_row items (length es / 8) (length ds) ≡ Ok it)
    (plain : is_reserved (item_of it es ds).content ≡ false) (short : long (item_of it es ds).content ≡ false) (least : least_content (call_of c) (item_of it es ds).content ≡ None)
    (bare : mark_byte (item_of it es ds).content ≡ None) where
  one-item : items_of items es ds ≡ item_of it es ds ∷ []
  unfolding items_of items_from
  one-item = rw (one-row items n, item-opened es ds items it opens)

  no-mark : mark_for (call_of c) (items_of items es ds) ≡ None
  unfolding mark_for first_mark or_else
  no-mark = rw (one-item, bare) (never (is_rewrite_replay (call_of c)))

  meets-none : None ≡ least_of (call_of c) None 0 (item_at es ds items)
  unfolding least_mark meets7 or_else
  meets-none =
      rw (item-opened es ds items it opens)
      (sym (least_by (call_of c) None 0 (item_of it es ds) ∙ rw (short, plain, least, and-false (is_rewrite_replay (call_of c)))))

  single_of : AddsNothing (call_of c) (item_of it es ds) → Single c it items es ds
  unfolding lesser_of
  single_of a =
      record {
        nine = n;
        opens = opens;
        passes =
            sym
            (passed_at-end (call_of c) None items es ds 1 1 (sym no-mark) (omega arith)
            (scan-more (call_of c) None items es ds 1 0 (omega arith) None None None (scan-start (call_of c) None items es ds 1 (sym (one-row items n))) meets-none refl));
        unmarked = no-mark;
        adds = a;
      }

-- ---- a list of entries, told by one pass over its rows

list-adds : (c : call.Call) (items es ds : List ℕ) → AddsNothing (call_of c) (item_of (list_item items) es ds)
unfolding adds_tombstone adds_cleaned item_of content_of is_tombstone is_clean
list-adds c items es ds =
    record { no-tombstone = and-false (keeps (call_of c)); no-cleaned = and-false (same_queue (writes (call_of c)) Append) }

module _ (c : call.Call) (items es ds : List ℕ) (n : length items ≡ 9) (t : get_or items 1 0 ≡ 0) (few : get_or items 3 0 ≤ 32) (fits : get_or items 2 0 + get_or items 3 0 ≤ length es / 8)
    (plain : plain_content (writes (call_of c)) (list_item items).content es ≡ true) where
  list-opens : opened_row items (length es / 8) (length ds) ≡ Ok (list_item items)
  unfolding opened_row opened_entries item_if
  list-opens = rw (n, eq-eqb (get_or items 1 0) 0 t, le-leb (get_or items 2 0 + get_or items 3 0) (length es / 8) fits)

  list-short : long (item_of (list_item items) es ds).content ≡ false
  unfolding item_of content_of long
  list-short = rw (length-entries (get_or items 3 0) _) (le-ltb 32 (get_or items 3 0) few)

  -- there is an entry
  list_held : 0 < get_or items 3 0
  unfolding plain_content plain_list
  list_held = ltb-true 0 (get_or items 3 0) (both_left (ltb 0 (get_or items 3 0)) _ plain)

  pub list-single : SingleList c items es ds
  unfolding item_of content_of is_reserved mark_byte
  list-single =
      record {
        held = list_held;
        single =
            single_of c (list_item items) items es ds n list-opens refl list-short (plain-least (call_of c) (list_item items).content es ds plain) refl (list-adds c items es ds);
      }

-- ---- a list of entries on a group that stands at a stretch

-- what an append does
pub append-change : (live : Bool) (first : ℕ) → entries_change (append_call live) first ≡ change.TheVariants.Append first live
unfolding append_call
append-change true first = refl
append-change false first = refl

-- it writes the Append queue
pub append-writes : (live : Bool) → writes (call_of (append_call live)) ≡ Append
unfolding append_call call_of writes
append-writes true = refl
append-writes false = refl

module _ (c : call.Call) (items es ds : List ℕ) (s : SingleList c items es ds) where
  abbrev list_rows : List ℕ
  list_rows = rows_in (list_item items).content es

  list-is : ItemReady (call_of c) (list_item items) es ds
  list-is = single-ready c (list_item items) items es ds s.single

  -- the rows are within the lent ones, and there is a first one
  pub list-within : RowsWithin (list_item items).content (length es)
  list-within = list-is.lent_is.within.rows

  pub list-rows : 0 < length list_rows
  list-rows =
      let h = list-within in
      let l : length list_rows ≡ get_or items 3 0 * 8 = length_part (get_or items 2 0 * 8) (get_or items 3 0 * 8) es (omega arith) in
      omega (arith, s.held)

  module _ (ch : Change) (e : entries_change c (get_or list_rows 0 0) ≡ ch) (xs bs : List ℕ) (w : Formed xs bs) where
    list_deed : deed_of c (list_item items).content es ds ≡ deed.TheVariants.Change ch
    unfolding deed_of
    list_deed = ap deed.TheVariants.Change e

    -- what the change asks of the rows is there
    pub list-ready : Keeping (call_of c) (context_of xs bs) → Ready ch list_rows [] [] (made (lookup numbers (get_or items 0 0) (groups_of xs bs)))
    list-ready k =
        change-ready _ ch list_rows [] [] _ list_deed (does-ready c (list_item items) es ds list-is _ (keeping-table (call_of c) xs bs k _))

    pub list-answer : (k : ℕ) (r : ByCause (Unit {0})) (ys : List ℕ) → Found (get_or items 0 0) xs (At k) → ChangedGroup (rule_of ch list_rows [] []) (get_or items 0 0) (At k) xs bs r ys bs → Answered (run limited (call_of c) (placed_from 0 (items_of items es ds))) xs bs (answer_of r) ys bs
    list-answer k r ys f a =
        single-answer c (list_item items) items es ds xs bs ys bs s.single r
        (alone c (list_item items) es ds list-is s.single.adds xs bs w r ys bs
        (alone-changed (get_or items 0 0) (At k) xs bs w.groups f _ list_rows [] [] ch list_deed r ys bs a))

-- ---- a Put, told by its row

file_by : (row : List ℕ) (q : LogQueue) → get_or row 7 0 ≡ queue_number q → file_at row ≡ Some (record { queue = q; seq = get_or row 8 0 })
unfolding file_at
file_by row Append e = rw e
file_by row Rewrite e = rw e

own-queue : (q : LogQueue) → same_queue q q ≡ true
unfolding same_queue
own-queue Append = refl
own-queue Rewrite = refl

-- so many bytes from a place on are within the lent ones, and no more than a key or a value may have
module _ (a n m : ℕ) (e : (leb n 32 && leb (a + n) m) ≡ true) where
  few_bytes : n ≤ 32
  few_bytes = leb-true n 32 (both_left (leb n 32) (leb (a + n) m) e)

  bytes-within : a + n ≤ m
  bytes-within = leb-true (a + n) m (both_right (leb n 32) (leb (a + n) m) e)

module _ (c : call.Call) (row es ds : List ℕ) (n : length row ≡ 9) (t : get_or row 1 0 ≡ 3) (v : get_or row 4 0 ≡ 1) (q : get_or row 7 0 ≡ queue_number (writes (call_of c))) (other : get_or row 3 0 ≡ 3 → ⊥)
    (k : (leb (get_or row 3 0) 32 && leb (get_or row 2 0 + get_or row 3 0) (length ds)) ≡ true) (w : (leb (get_or row 6 0) 32 && leb (get_or row 5 0 + get_or row 6 0) (length ds)) ≡ true) where
  abbrev held : List ℕ
  held = part (get_or row 2 0) (get_or row 3 0) ds

  key-length : length held ≡ get_or row 3 0
  key-length = length_part (get_or row 2 0) (get_or row 3 0) ds (bytes-within (get_or row 2 0) (get_or row 3 0) (length ds) k)

  value-length : length (part (get_or row 5 0) (get_or row 6 0) ds) ≡ get_or row 6 0
  value-length = length_part (get_or row 5 0) (get_or row 6 0) ds (bytes-within (get_or row 5 0) (get_or row 6 0) (length ds) w)

  not-reserved : equal_bytes held reserved_key ≡ false
  not-reserved = key_other held (λ e. other (sym key-length ∙ e))

  put-opens : opened_row row (length es / 8) (length ds) ≡ Ok (put_item c row)
  unfolding opened_row opened_put item_if value_fits value_at
  put-opens =
      rw (
        n,
        t,
        v,
        file_by row (writes (call_of c)) q,
        le-leb (get_or row 2 0 + get_or row 3 0) (length ds) (bytes-within (get_or row 2 0) (get_or row 3 0) (length ds) k),
        le-leb (get_or row 5 0 + get_or row 6 0) (length ds) (bytes-within (get_or row 5 0) (get_or row 6 0) (length ds) w),
      )

  put-short : long (item_of (put_item c row) es ds).content ≡ false
  unfolding item_of content_of key_content key_change change_of value_of long long_change or_else
  put-short =
      rw (
        key-length,
        value-length,
        le-ltb 32 (get_or row 3 0) (few_bytes (get_or row 2 0) (get_or row 3 0) (length ds) k),
        le-ltb 32 (get_or row 6 0) (few_bytes (get_or row 5 0) (get_or row 6 0) (length ds) w),
      )

  put-least : least_content (call_of c) (item_of (put_item c row) es ds).content ≡ None
  unfolding item_of content_of key_content key_change change_of value_of least_content is_incomplete is_out_of_range is_other_queue is_not_rewritable is_tombstone lacks_value lacks_file other_file or_else
  put-least = rw (own-queue (writes (call_of c)), and-false (not (is_live_rewrite (call_of c))), and-false (is_live_rewrite (call_of c)))

  put-adds : AddsNothing (call_of c) (item_of (put_item c row) es ds)
  unfolding adds_tombstone adds_cleaned item_of content_of key_content key_change change_of is_tombstone is_clean
  put-adds =
      record { no-tombstone = and-false (keeps (call_of c)); no-cleaned = and-false (same_queue (writes (call_of c)) Append) }

  pub put-single : Single c (put_item c row) row es ds
  unfolding item_of content_of key_content key_change change_of is_reserved mark_byte
  put-single =
      single_of c (put_item c row) row es ds n put-opens not-reserved put-short put-least (rw not-reserved) put-adds
