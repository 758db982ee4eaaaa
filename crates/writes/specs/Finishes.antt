-- The items of a finished atomic group on an area: those that waited, then the batch's own, then the span.
use Rattle.std.specs.Prelude.{Bool, true, false, List, [], ◌++◌, ◌≡◌, ℕ, suc, get_or, drop}
use Rattle.std.specs.Prelude.{Option, Some}
use Rattle.maps.specs.Lists.{every}
use Rattle.maps.specs.Maps.{store, numbers}
use Rattle.rules.specs.Causes.{Cause, ByCause, Ok, Err, Result, and_then}
use Rattle.rules.specs.Items.{LogItem, Placed, placed_at, placed_from, replay_rewrite}
use Rattle.rules.specs.Table.{Span, spanned}
use Rattle.rules.specs.Context.{Part, Context, with_waiting, limited, run}
use Rattle.rules.specs.Waiting.{some_parts, set_span, finish_group}
use Rattle.rules_by_group.specs.Kept.{is_passed}
use Rattle.stores.specs.Tags.{Tagged, items_with}
use Rattle.stretch.specs.Changes.{outcome_as}
use Rattle.groups.specs.Area.{numbers_in_use, groups_of}
use Rattle.groups.specs.Area as groups
use Rattle.groups.specs.Calls.{on_group}
use Rattle.room.specs.Layout.{store_of, waiting_of, tagged}
use Rattle.contexts.specs.Contexts.{waiting_numbers, waiting_bytes, context_of, answer_as, Formed, RoomKept, Answered}
use Rattle.batches.specs.Runs.{Keeping, outcome_at, BackKept}
use Rattle.writes.specs.WaitsLaws.{plain}

-- how many items wait in an area
abbrev pub waiting_count : List ℕ → ℕ
waiting_count xs = (store_of (waiting_numbers xs)).items

-- item j of those that wait has tag t
pub record TagIs (t j : ℕ) (xs bs : List ℕ) : Type 0 where
  pub is : (z : Tagged) → (get_or (tagged (waiting_numbers xs) (waiting_bytes bs)) j z).tag ≡ t

-- the items that wait with a tag, from item j on
unfoldable pub stored_from : ℕ → ℕ → List ℕ → List ℕ → List LogItem
stored_from tag j xs bs = items_with tag (drop j (tagged (waiting_numbers xs) (waiting_bytes bs)))

-- they are carried out, a refusal at place p
unfoldable pub run_stored : ℕ → ℕ → List ℕ → List ℕ → Option ℕ → Context → Result Context
run_stored tag j xs bs p = run limited replay_rewrite (placed_at p (stored_from tag j xs bs))

-- item j, if it has the tag, and then those behind it
pub record TurnedFrom (tag j : ℕ) (xs bs : List ℕ) (r : ByCause (Unit {0})) (xs' bs' : List ℕ) : Type 0 where
  pub rule : (p : Option ℕ) → run_stored tag j xs bs p (context_of xs bs) ≡ and_then (outcome_at p r (context_of xs' bs')) (run_stored tag (suc j) xs bs p)
  pub passed : every is_passed (stored_from tag (suc j) xs bs) ≡ true
  pub back : BackKept xs bs xs' bs'
  pub own : r ≡ Ok tt → Keeping replay_rewrite (context_of xs' bs')
  pub formed : Formed xs' bs'

-- items in order, after which a batch can go back
pub record Ran (to : Context → Result Context) (xs bs : List ℕ) (r : Result (Unit {0})) (xs' bs' : List ℕ) : Type 0 where
  pub answers : answer_as r (context_of xs' bs') ≡ to (context_of xs bs)
  pub back : BackKept xs bs xs' bs'
  pub own : r ≡ Ok tt → Keeping replay_rewrite (context_of xs' bs')
  pub formed : Formed xs' bs'

-- whether a list has an element
pub record HasAny {A : Type 0} (r : Bool) (l : List A) : Type 0 where
  pub none : r ≡ false → l ≡ []
  pub any : r ≡ true → l ≡ [] → ⊥

-- the last of what a batch does: refused, it can go back
pub record Ended (to : Context → Result Context) (xs bs : List ℕ) (r : Result (Unit {0})) (xs' bs' : List ℕ) : Type 0 where
  pub answers : answer_as r (context_of xs' bs') ≡ to (context_of xs bs)
  pub back : (n : Cause) (p : Option ℕ) → r ≡ Err (record { cause = n; place = p }) → BackKept xs bs xs' bs'
  pub room : RoomKept xs bs xs' bs'
  pub formed : Formed xs' bs'

-- a call on an area that leaves the room of the waiting parts, if it is accepted
pub record AnsweredKept (to : Context → Result Context) (xs bs : List ℕ) (r : Result (Unit {0})) (xs' bs' : List ℕ) : Type 0 where
  pub answered : Answered to xs bs r xs' bs'
  pub room : r ≡ Ok tt → RoomKept xs bs xs' bs'

-- the span of group g, which is there, is set; bs are the area's bytes
pub record SpannedGroup (g : ℕ) (s : Span) (xs bs : List ℕ) (r : ByCause (Unit {0})) (xs' : List ℕ) : Type 0 where
  pub rule : outcome_as r (groups_of xs' bs) ≡ on_group (spanned s) g (groups_of xs bs)
  pub left : (n : Cause) → r ≡ Err n → xs' ≡ xs
  pub behind : drop numbers_in_use xs' ≡ drop numbers_in_use xs
  pub wf : groups.Wf xs' bs

-- the items of a finished group: those that waited with a tag, at the mark's place, and the batch's own but the mark
abbrev pub both_items : ℕ → ℕ → List LogItem → List ℕ → List ℕ → List Placed
both_items at tag items xs bs = placed_at (Some at) (stored_from tag 0 xs bs) ++ plain (placed_from 0 items)

unfoldable pub finish_stored : ℕ → ℕ → ℕ → Span → List LogItem → List ℕ → List ℕ → Context → Result Context
finish_stored at tag group s items xs bs = finish_group limited (Some at) group s (both_items at tag items xs bs)

-- the same where there is an item: the items that waited, the batch's own, and the span
unfoldable pub both_run : ℕ → ℕ → ℕ → Span → List LogItem → List ℕ → List ℕ → Context → Result Context
both_run at tag group s items xs bs c =
    and_then (and_then (run_stored tag 0 xs bs (Some at) c) (run limited replay_rewrite (placed_from 0 items))) (set_span limited (Some at) group s)

-- the room of an area is written with numbers ws and bytes vs
pub record RoomWritten (ws vs xs bs xs' bs' : List ℕ) : Type 0 where
  pub context-is : context_of xs' bs' ≡ with_waiting (waiting_of ws vs) (context_of xs bs)
  pub formed : Formed xs' bs'

-- the newest part of group g is taken out of what waits; ps are left
pub record TookWaiting (g : ℕ) (ps : List Part) (xs bs xs' bs' : List ℕ) : Type 0 where
  pub context-is : context_of xs' bs' ≡ with_waiting (store numbers g (some_parts ps) (waiting_of (waiting_numbers xs) (waiting_bytes bs))) (context_of xs bs)
  pub formed : Formed xs' bs'
