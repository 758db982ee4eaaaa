-- An item with places carried out on an area: each way through it, as the rules' step. Assumes nothing.
use Rattle.rules.specs.Causes.{Cause, LimitPassed, ByCause, Ok, Err}
use Rattle.std.specs.Prelude.{Bool, true, false, ◌&&◌, List, ◌≡◌, ℕ, ◌-◌, length, get_or, take, drop}
use Rattle.std.proofs.Common.{sym, ◌∙◌}
use borrow.Author.Rules.{part_to_end}
use Rattle.maps.specs.BoolLaws.{both_left, both_right}
use Rattle.rules.specs.Items as rules
use Rattle.rules.specs.Table.{Table}
use Rattle.log_batch.specs.declared.causes.Call as call
use Rattle.log_batch.specs.declared.item.LogItem as lent
use Rattle.log_batch.specs.Lent.{item_of}
use Rattle.log_batch.specs.Judged.{call_of}
use Rattle.groups.specs.Area.{numbers_in_use, bytes_in_use, groups_of}
use Rattle.groups.specs.Undo.{Undoable}
use Rattle.lists.specs.Rest as lists
use Rattle.room.specs.Layout.{waiting_of}
use Rattle.deeds.specs.declared.Deed as deed
use Rattle.batches.specs.Steps.{adds_tombstone, adds_cleaned, room_if, lists_have_room}
use Rattle.deeds.specs.Deeds.{rows_in, key_in, value_in, deed_of}
use Rattle.deeds.specs.DeedLaws.{OnlyRewrite, DeedSays, deed-says}
use Rattle.batches.specs.Acts.{deed_on, Acted}
use Rattle.deeds.specs.Deeds.{DeedReady}
use Rattle.batches.specs.ItemLaws.{deed-ready}
use Rattle.contexts.specs.Contexts.{waiting_numbers, waiting_bytes, rest_at, context_of, Formed}
use Rattle.batches.specs.Growth.{RoomFor, AreaGrown}
use Rattle.batches.specs.GrowthLaws.{room-is, no-entries}
use Rattle.batches.specs.Runs.{ItemReady, Stepped}
use Rattle.batches.specs.RunLaws.{stepped_no-room, stepped-refused, stepped-done}

module _ (c : call.Call) (it : lent.LogItem) (es ds : List ℕ) (ready : ItemReady (call_of c) it es ds) where
  -- the item, its deed, and what is lent with it
  abbrev item : rules.LogItem
  item = item_of it es ds

  abbrev does : deed.Deed
  does = deed_of c it.content es ds

  abbrev rows : List ℕ
  rows = rows_in it.content es

  abbrev key : List ℕ
  key = key_in it.content ds

  abbrev value : List ℕ
  value = value_in it.content ds

  says : DeedSays does (call_of c) item.content rows key value
  unfolding item_of
  says = deed-says c it.content es ds ready.lent_is.within ready.bare ready.clear

  pub does-ready : (t : Table) → OnlyRewrite (call_of c) t → DeedReady does rows key value t
  does-ready t o = deed-ready (call_of c) item rows key value t o does says

  module _ (last : Bool) (xs bs : List ℕ) (w : Formed xs bs) (u : Undoable xs bs) (t n r : Bool)
      (et : t ≡ adds_tombstone (call_of c) item) (en : n ≡ adds_cleaned (call_of c) item)
      (er : r ≡ (room_if t (get_or (take (length xs - numbers_in_use) (drop numbers_in_use xs)) 1 0) 64 && room_if n (get_or (take (length xs - numbers_in_use) (drop numbers_in_use xs)) 2 0) 64)) where
    room_told : r ≡ (room_if t (get_or (drop numbers_in_use xs) 1 0) 64 && room_if n (get_or (drop numbers_in_use xs) 2 0) 64)
    room_told = rw (part_to_end xs numbers_in_use) at er

    room_of_lem : lists_have_room (call_of c) item (context_of xs bs) ≡ r
    unfolding context_of rest_at
    room_of_lem =
        room-is (call_of c) item (drop numbers_in_use xs) (drop bytes_in_use bs) (groups_of xs bs) (waiting_of (waiting_numbers xs) (waiting_bytes bs)) w.rest
        ∙ rw (← et, ← en) (sym room_told)

    pub carried_no-room : r ≡ false → Stepped (call_of c) item last xs bs (Err LimitPassed) xs bs
    carried_no-room f = stepped_no-room (call_of c) item last rows key value does xs bs w u says (room_of_lem ∙ f)

    module _ (y : r ≡ true) (o : ByCause (Unit {0})) (ys fs : List ℕ) (a : Acted (deed_on does it.raft_group_id rows key value) last xs bs o ys fs) where
      pub lists-wf : lists.Wf (drop numbers_in_use ys) (drop bytes_in_use fs)
      lists-wf = rw (a.behind.numbers, a.behind.bytes) w.rest

      pub room_for : RoomFor t n it (drop numbers_in_use ys)
      room_for =
          let a' = room_if t (get_or (drop numbers_in_use xs) 1 0) 64 in
          let b' = room_if n (get_or (drop numbers_in_use xs) 2 0) 64 in
          let both : (a' && b') ≡ true = sym room_told ∙ y in
          rw a.behind.numbers
          (record {
            tombstone-room = both_left a' b' both;
            cleaned-room = both_right a' b' both;
            no-entries = λ q. no-entries (call_of c) it es ds (sym et ∙ q);
          })

      pub carried-refused : (k : Cause) → o ≡ Err k → Stepped (call_of c) item last xs bs (Err k) ys fs
      unfolding item_of
      carried-refused k e =
          stepped-refused (call_of c) item last rows key value does xs bs w u says (room_of_lem ∙ y) ys fs k (rw e at a)

      pub carried-done : o ≡ Ok tt → (zs gs : List ℕ) → AreaGrown t n item ys fs zs gs → Stepped (call_of c) item last xs bs (Ok tt) zs gs
      unfolding item_of
      carried-done e zs gs g =
          stepped-done (call_of c) item last rows key value does xs bs w u says (room_of_lem ∙ y) ys fs (rw e at a) zs gs (rw (et, en) at g)
