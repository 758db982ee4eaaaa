-- The ways of the parts that finish: what is lent of the rooms, the items of both parts, and what the work table has afterwards.
-- Assumes nothing.
use mathlib.Core.Bool.{Bool, true, false}
use mathlib.Core.List.{List, [], ◌∷◌, ◌++◌}
use Rattle.std.specs.Prelude.{Option, None, Some}
use Rattle.std.proofs.lemmas.Option.{none-some, same_Some}
use mathlib.Core.Path.{◌≡◌, refl, sym, ap, ◌∙◌}
use Prim.Native.Nat.{ℕ, ◌+◌, ◌-◌, ◌≤◌}
use native.Mathlib.Omega.{arith}
use lib.ListN.{length, get_or, take, drop, length-append}
use borrow.Author.Rules.{part_to_end}
use borrow.Rule.Slice.PartMut.{put_mid}
use Rattle.cells.specs.Part.{part}
use Rattle.cells.specs.PartLaws.{part-is, length_part}
use Rattle.maps.specs.BoolLaws.{clash, both_left}
use Rattle.maps.specs.Lists.{every, sum, last, or_else}
use Rattle.maps.specs.ListLaws.{every_append, every-head, every-tail, sum-append}
use Rattle.maps.specs.Maps.{lookup, numbers}
use Rattle.maps.specs.OrderLaws.{split}
use Rattle.rules.specs.Causes.{ByCause, Result, Ok, and_then}
use Rattle.rules.specs.Items as rules
use Rattle.rules.specs.Table.{Span, Table, made, spanned, with_span, span_goes_back}
use Rattle.rules.specs.Context.{context, Part, Context, entries_in, waiting_fits, with_groups, with_waiting}
use Rattle.rules.specs.Waiting.{Accepted, wait, finish, back, accept}
use Rattle.rules_by_group.specs.Group.{Finished, parts_of, finished_by, finished_of, replayed_items, finish_with, finish_table}
use Rattle.rules_by_group.specs.Kept.{each_entry, is_passed, own_items, own_parts, Kept}
use Rattle.rules_by_group.proofs.PartLaws.{own-items-append, OwnAccepted, own_old, accept-own}
use Rattle.rules_by_group.proofs.EntryLaws.{items-meet, spanned-meets, own-each, own-passed}
use Rattle.rules_by_group.proofs.KindLaws.{own-made}
use Rattle.rules_by_group.proofs.ResultLaws.{by_option, ok_inj, refused_not_ok, and_then_ok}
use Rattle.rules_by_group.proofs.RoomLaws.{within_more, finished-items, finished-entries, items-room}
use Rattle.rules_by_group.specs.Kept.{Within}
use Rattle.rules_by_group.proofs.WaitingLaws.{all-kept, kept_of}
use Rattle.stores.specs.Tags.{items_with}
use Rattle.groups.specs.Area.{groups_of}
use Rattle.groups.specs.Laws.{groups-fit}
use Rattle.room.specs.Layout.{waiting_of, tagged, RoomWf}
use Rattle.contexts.specs.Contexts.{waiting_numbers, waiting_bytes, rest_at, context_of, Wf}
use Rattle.contexts.specs.AreaLaws.{formed_of, area-length, area-bytes}
use Rattle.worktable.specs.Work.{work_in}
use Rattle.worktable.specs.Work as work
use Rattle.worktable.specs.Calls.{Becomes, Ends}
use Rattle.parts.specs.declared.Ending.{Ending}
use Rattle.parts.specs.Finishings.{finished_as, has_items}
use Rattle.staging.specs.Staging.{long_numbers, long_bytes}
use Rattle.staging.specs.StagingLaws.{working-none, working-then}
use Rattle.staging.specs.WorkLaws.{group-room}
use Rattle.staging.specs.Works.{Loaded, WorkedAs}
use Rattle.staging.specs.Replays.{of_rewrite, replayed, Replayable}
use Rattle.staging.specs.Finishings.{finished_at, PartsGiven, ending_items, ending_span, EndingGiven}
use Rattle.staging.proofs.ReplayWays.{rest_replayable}
use Rattle.staging.proofs.WorkWays.{long_back, lent-working, lent_back, context-groups}

-- ---- the items of two parts

module _ (p : rules.EntryIndex → Bool) where
  own-append : (xs ys : List rules.LogItem) → every (λ (it : rules.LogItem). each_entry p it.content) (xs ++ ys) ≡ true → every (λ (it : rules.LogItem). each_entry p it.content) xs ≡ true
  own-append xs ys h = both_left _ _ (sym (every_append (λ (it : rules.LogItem). each_entry p it.content) xs ys) ∙ h)

pub front_replayable : (xs ys : List rules.LogItem) (o : Option Table) → Replayable (xs ++ ys) o → Replayable xs o
front_replayable xs ys o r =
    let m = r.rows in
    let n = r.keys in
    let a = sum-append entries_in xs ys in
    let b = length-append xs ys in
    record {
      passed = both_left (every is_passed xs) (every is_passed ys) (sym (every_append is_passed xs ys) ∙ r.passed);
      own = own-append of_rewrite xs ys r.own;
      older = r.older;
      rows = omega (arith, m, a);
      keys = omega (arith, n, b);
    }

pub back_replayable : (xs ys : List rules.LogItem) (o : Option Table) → Replayable (xs ++ ys) o → Replayable ys (replayed_items xs o)
unfolding replayed_items replayed
back_replayable [] ys o r = r
back_replayable (x ∷ xs) ys o r = back_replayable xs ys (replayed x o) (rest_replayable x (xs ++ ys) o r)

items-append : (xs ys : List rules.LogItem) (o : Option Table) → replayed_items (xs ++ ys) o ≡ replayed_items ys (replayed_items xs o)
unfolding replayed_items
items-append [] ys o = refl
items-append (x ∷ xs) ys o = items-append xs ys _

-- whether there is one
pub has-front : (xs ys : List rules.LogItem) → has_items xs ≡ true → has_items (xs ++ ys) ≡ true
unfolding has_items
has-front [] ys e = absurd (clash e)
has-front (x ∷ xs) ys e = refl

pub has_back : (xs ys : List rules.LogItem) → has_items xs ≡ false → has_items (xs ++ ys) ≡ has_items ys
unfolding has_items
has_back [] ys e = refl
has_back (x ∷ xs) ys e = absurd (clash (sym e))

finish-none : (s : Span) (l : List rules.LogItem) (o : Option Table) → has_items l ≡ false → finish_with s l o ≡ Ok o
unfolding finish_with has_items
finish-none s [] o e = refl
finish-none s (x ∷ l) o e = absurd (clash (sym e))

finish-some : (s : Span) (l : List rules.LogItem) (o : Option Table) → has_items l ≡ true → finish_with s l o ≡ and_then (spanned s (made (replayed_items l o))) (λ t. Ok (Some t))
unfolding finish_with has_items
finish-some s [] o e = absurd (clash e)
finish-some s (x ∷ l) o e = refl

-- a room's numbers, as they are lent
pub room-length : (xs : List ℕ) → length xs ≡ 17231 → length (take 3490 (drop 10019 xs)) ≡ 3490
room-length xs n = rw (part-is 10019 3490 xs) (length_part 10019 3490 xs (omega arith))

pub room_lent : (xs : List ℕ) → length xs ≡ 17231 → get_or (part 10019 3490 xs) 0 0 ≤ 128 → (length (take 3490 (drop 10019 xs)) ≡ 3490) × (get_or (take 3490 (drop 10019 xs)) 0 0 ≤ 128)
room_lent xs n h = rw (part-is 10019 3490 xs) (length_part 10019 3490 xs (omega arith), h)

-- the work table becomes o in its area
lent-loaded : (xs bs p b : List ℕ) (o : Option Table) → length xs ≡ 17231 → length bs ≡ 38912 → Becomes o p b → Loaded o xs bs (put_mid 13509 (length xs - 13509) xs p) (put_mid 28672 (length bs - 28672) bs b)
lent-loaded xs bs p b o n m k =
    record {
      becomes = rw (long_back xs p n k.wf.numbers-are, lent_back xs p n k.wf.numbers-are bs b m k.wf.bytes-are) k;
      working = lent-working xs p n k.wf.numbers-are bs b m k.wf.bytes-are;
    }

-- the items of the area's own room, of which there is a copy, are replayed on the work table, as it is lent
pub lent-replayed : (tag : ℕ) (xs bs ws vs p b : List ℕ) → length xs ≡ 17231 → length bs ≡ 38912 → ws ≡ part 10019 3490 xs → vs ≡ part 20480 8192 bs → Becomes (replayed_items (items_with tag (tagged ws vs)) (work_in (take (length xs - 13509) (drop 13509 xs)) (take (length bs - 28672) (drop 28672 bs)))) p b → Loaded (replayed_items (items_with tag (tagged (part 10019 3490 xs) (part 20480 8192 bs))) (work_in (drop 13509 xs) (drop 28672 bs))) xs bs (put_mid 13509 (length xs - 13509) xs p) (put_mid 28672 (length bs - 28672) bs b)
lent-replayed tag xs bs ws vs p b n m e f k = lent-loaded xs bs p b _ n m (rw (part_to_end xs 13509, part_to_end bs 28672, e, f) at k)

closed : (s : Span) (o : Option Table) (p b : List ℕ) (r : ByCause (Unit {0})) (p' b' : List ℕ) → Becomes o p b → Ends (and_then (spanned s (made (work_in p b))) (λ t. Ok (Some t))) r p' b' → Ends (and_then (spanned s (made o)) (λ t. Ok (Some t))) r p' b'
closed s o p b r p' b' k d = rw k.is at d

-- the same of a room that is lent
abbrev pub RoomReady : ℕ → List ℕ → List ℕ → List ℕ → List ℕ → Type 0
RoomReady tag ws vs p b = work.Wf p b × (RoomWf 16 ws vs × Replayable (items_with tag (tagged ws vs)) (work_in p b))

module _ (tag : ℕ) (ys cs p b : List ℕ) where
  abbrev lent-items : List rules.LogItem
  lent-items = items_with tag (tagged (take 3490 (drop 10019 ys)) (take 8192 (drop 20480 cs)))

  abbrev room-items : List rules.LogItem
  room-items = items_with tag (tagged (part 10019 3490 ys) (part 20480 8192 cs))

  pub lent-ready : RoomReady tag (part 10019 3490 ys) (part 20480 8192 cs) p b → RoomReady tag (take 3490 (drop 10019 ys)) (take 8192 (drop 20480 cs)) p b
  lent-ready r = rw (part-is 10019 3490 ys, part-is 20480 8192 cs) r

  pub lent-closed : (s : Span) (p' b' : List ℕ) (r : ByCause (Unit {0})) (p'' b'' : List ℕ) → Becomes (replayed_items lent-items (work_in p b)) p' b' → Ends (and_then (spanned s (made (work_in p' b'))) (λ t. Ok (Some t))) r p'' b'' → Ends (and_then (spanned s (made (replayed_items room-items (work_in p b)))) (λ t. Ok (Some t))) r p'' b''
  lent-closed s p' b' r p'' b'' k d = rw (part-is 10019 3490 ys, part-is 20480 8192 cs) at (closed s (replayed_items lent-items (work_in p b)) p' b' r p'' b'' k d)

module _ (e : Ending) (xs ys : List ℕ) (r : Bool) where
  abbrev older-items : List ℕ → List rules.LogItem
  older-items bs = items_with e.older (tagged (waiting_numbers xs) (waiting_bytes bs))

  abbrev newer-items : List ℕ → List rules.LogItem
  newer-items cs = items_with e.newer (tagged (waiting_numbers ys) (waiting_bytes cs))

  -- what is lent of the rooms' numbers is their part
  pub any_front : (h : Bool) → h ≡ true → ((vs : List ℕ) → RoomWf 16 (take 3490 (drop 10019 xs)) vs → h ≡ has_items (items_with e.older (tagged (take 3490 (drop 10019 xs)) vs))) → (bs cs : List ℕ) → RoomWf 16 (waiting_numbers xs) (waiting_bytes bs) → RoomWf 16 (waiting_numbers ys) (waiting_bytes cs) → h ≡ has_items (ending_items e xs bs ys cs)
  unfolding ending_items
  any_front h e f bs cs w v = e ∙ sym (has-front (older-items bs) (newer-items cs) (sym ((rw (part-is 10019 3490 xs) at f) (waiting_bytes bs) w) ∙ e))

  pub any_back : (h : Bool) → h ≡ false → ((vs : List ℕ) → RoomWf 16 (take 3490 (drop 10019 xs)) vs → h ≡ has_items (items_with e.older (tagged (take 3490 (drop 10019 xs)) vs))) → ((vs : List ℕ) → RoomWf 16 (take 3490 (drop 10019 ys)) vs → r ≡ has_items (items_with e.newer (tagged (take 3490 (drop 10019 ys)) vs))) → (bs cs : List ℕ) → RoomWf 16 (waiting_numbers xs) (waiting_bytes bs) → RoomWf 16 (waiting_numbers ys) (waiting_bytes cs) → r ≡ has_items (ending_items e xs bs ys cs)
  unfolding ending_items
  any_back h e f g bs cs w v =
      (rw (part-is 10019 3490 ys) at g) (waiting_bytes cs) v
      ∙ sym (has_back (older-items bs) (newer-items cs) (sym ((rw (part-is 10019 3490 xs) at f) (waiting_bytes bs) w) ∙ e))

-- ---- both parts on the work table

module _ (e : Ending) (xs bs ys cs : List ℕ) (g : EndingGiven e xs bs ys cs) where
  abbrev was : Option Table
  was = work_in (drop long_numbers xs) (drop long_bytes bs)

  pub ended-none : has_items (ending_items e xs bs ys cs) ≡ false → WorkedAs (finish_with (ending_span e) (ending_items e xs bs ys cs) was) xs bs (Ok tt) xs bs
  ended-none n =
      record {
        ends = record { rule = sym (finish-none (ending_span e) (ending_items e xs bs ys cs) was n); wf = g.table };
        working = working-none xs bs;
      }

  pub older-ready : Replayable (older-items e xs ys true bs) was
  older-ready = front_replayable (older-items e xs ys true bs) (newer-items e xs ys true cs) was (unfold ending_items in g.ready)

  module _ (xs' bs' : List ℕ) (l : Loaded (replayed_items (older-items e xs ys true bs) was) xs bs xs' bs') where
    pub newer-ready : Replayable (newer-items e xs ys true cs) (work_in (drop long_numbers xs') (drop long_bytes bs'))
    newer-ready = rw l.becomes.is (back_replayable (older-items e xs ys true bs) (newer-items e xs ys true cs) was (unfold ending_items in g.ready))

    ended_some : (r : ByCause (Unit {0})) (p b : List ℕ) → has_items (ending_items e xs bs ys cs) ≡ true → Ends (and_then (spanned (ending_span e) (made (replayed_items (newer-items e xs ys true cs) (work_in (drop long_numbers xs') (drop long_bytes bs'))))) (λ t. Ok (Some t))) r p b → WorkedAs (finish_with (ending_span e) (ending_items e xs bs ys cs) was) xs bs r (put_mid 13509 (length xs' - 13509) xs' p) (put_mid 28672 (length bs' - 28672) bs' b)
    ended_some r p b h d =
        let n : length xs' ≡ 17231 = l.working.numbers-length ∙ g.numbers-are in
        let k : length bs' ≡ 38912 = l.working.bytes-length ∙ g.bytes-are in
        let q : finish_with (ending_span e) (ending_items e xs bs ys cs) was ≡ and_then (spanned (ending_span e) (made (replayed_items (newer-items e xs ys true cs) (replayed_items (older-items e xs ys true bs) was)))) (λ t. Ok (Some t)) =
        finish-some (ending_span e) (ending_items e xs bs ys cs) was h ∙ ap (λ (o : Option Table). and_then (spanned (ending_span e) (made o)) (λ t. Ok (Some t))) (unfold ending_items in items-append (older-items e xs ys true bs) (newer-items e xs ys true cs) was) in
        record {
          ends = rw (long_back xs' p n d.wf.numbers-are, lent_back xs' p n d.wf.numbers-are bs' b k d.wf.bytes-are, q) (rw l.becomes.is at d);
          working = working-then l.working (lent-working xs' p n d.wf.numbers-are bs' b k d.wf.bytes-are);
        }

    -- the same, with the work table as it is lent
    pub ended_lent : (r : ByCause (Unit {0})) (p b : List ℕ) → has_items (ending_items e xs bs ys cs) ≡ true → Ends (and_then (spanned (ending_span e) (made (replayed_items (newer-items e xs ys true cs) (work_in (take (length xs' - 13509) (drop 13509 xs')) (take (length bs' - 28672) (drop 28672 bs')))))) (λ t. Ok (Some t))) r p b → WorkedAs (finish_with (ending_span e) (ending_items e xs bs ys cs) was) xs bs r (put_mid 13509 (length xs' - 13509) xs' p) (put_mid 28672 (length bs' - 28672) bs' b)
    ended_lent r p b h d = ended_some r p b h (rw (part_to_end xs' 13509, part_to_end bs' 28672) at d)

-- ---- what finishes of a group

-- what the search for it tells of the rooms, as they are lent
abbrev pub FinishingOf : ℕ → List ℕ → List ℕ → Option Ending → Type 0
FinishingOf g ws us r =
    (vs ds : List ℕ) → RoomWf 16 ws vs → RoomWf 16 us ds → finished_of (lookup numbers g (waiting_of us ds)) (lookup numbers g (waiting_of ws vs)) ≡ finished_as r (tagged ws vs) (tagged us ds)

every-last : {A : Type 0} (p : A → Bool) (xs : List A) (x : A) → every p xs ≡ true → last xs ≡ Some x → p x ≡ true
unfolding last
every-last p [] x h e = absurd (none-some x e)
every-last p (y ∷ []) x h e = rw (same_Some y x e) at (every-head p y [] h)
every-last p (y ∷ (z ∷ zs)) x h e = every-last p (z ∷ zs) x (every-tail p y (z ∷ zs) h) e

accepted-own : (g : ℕ) (new : Part) (a : Accepted) (f : Finished) → own_items g new.items ≡ true → OwnAccepted g a → finished_by new a ≡ Some f → own_items g f.items ≡ true
unfolding finished_by
accepted-own g new (wait ps) f hn h e = absurd (none-some f e)
accepted-own g new (finish old ps) f hn h e =
    rw (ap (λ (x : Finished). x.items) (same_Some _ f e)) at (own-items-append g old.items new.items (own_old g old ps h) hn)
accepted-own g new back f hn h e = absurd (none-some f e)

-- the items that finish are the group's own
finished-own : (g : ℕ) (newer older : Option (List Part)) (f : Finished) → own_parts g (parts_of newer) ≡ true → own_parts g (parts_of older) ≡ true → finished_of newer older ≡ Some f → own_items g f.items ≡ true
unfolding finished_of or_else
finished-own g newer older f hn ho e =
    by_option (last (parts_of newer))
    (λ s. absurd (none-some f (rw s at e)))
    (λ p s.
    let own : own_items g p.items ≡ true = every-last (λ (x : Part). own_items g x.items) (parts_of newer) p (unfold own_parts in hn) s in
    accepted-own g p (accept (parts_of older) p) f own (accept-own g (parts_of older) p ho own) (rw s at e))

context-waits : (xs bs : List ℕ) → (context_of xs bs).waiting ≡ waiting_of (waiting_numbers xs) (waiting_bytes bs)
unfolding context_of rest_at with_waiting with_groups
context-waits xs bs = refl

waits-fit : (xs bs : List ℕ) → Wf xs bs → waiting_fits (context_of xs bs).waiting ≡ true
waits-fit xs bs w = ap waiting_fits (context-waits xs bs) ∙ w.waiting.fits

parts-own : (c : Context) (g : ℕ) → Kept c → own_parts g (parts_of (lookup numbers g c.waiting)) ≡ true
parts-own c g k = (kept_of c.waiting g (all-kept c.waiting k.own-items k.shapes)).own

module _ (g : ℕ) (xs bs ys cs : List ℕ) (k : PartsGiven g xs bs ys cs) where
  abbrev at : Option Table
  at = lookup numbers g (groups_of xs bs)

  at_room : Within 64 16 at
  at_room = group-room g (groups_of xs bs) (groups-fit xs bs k.wf.groups).1

  module _ (f : Finished) (e : finished_at g (context_of ys cs) (context_of xs bs) ≡ Some f) where
    own : own_items g f.items ≡ true
    own = finished-own g _ _ f (parts-own (context_of ys cs) g k.newer-wf.kept) (parts-own (context_of xs bs) g k.wf.kept) (unfold finished_at in e)

    few-entries : sum entries_in f.items ≤ 256
    few-entries = finished-entries g (context_of ys cs).waiting (context_of xs bs).waiting f (waits-fit ys cs k.newer-wf) (waits-fit xs bs k.wf) (unfold finished_at in e)

    few : length f.items ≤ 128
    few = finished-items g (context_of ys cs).waiting (context_of xs bs).waiting f (waits-fit ys cs k.newer-wf) (waits-fit xs bs k.wf) (unfold finished_at in e)

    older-own : every of_rewrite (made at).entries ≡ true
    older-own = rw (context-groups xs bs) at (own-made (context_of xs bs) (context rules.Rewrite) k.wf.kept (k.kind f e) g)

    finished-ready : Replayable f.items at
    finished-ready =
        let r = at_room in
        let a = r.few-entries in
        let b = r.few-keys in
        let d = few-entries in
        let n = few in
        record {
          passed = own-passed g f.items own;
          own = own-each g f.items own;
          older = older-own;
          rows = omega (arith, a, d);
          keys = omega (arith, b, n);
        }

  module _ (r : Option Ending) (is : FinishingOf g (take 3490 (drop 10019 xs)) (take 3490 (drop 10019 ys)) r) where
    found : finished_at g (context_of ys cs) (context_of xs bs) ≡ finished_as r (tagged (waiting_numbers xs) (waiting_bytes bs)) (tagged (waiting_numbers ys) (waiting_bytes cs))
    unfolding finished_at
    found =
        rw (context-waits ys cs, context-waits xs bs)
        ((rw (part-is 10019 3490 xs, part-is 10019 3490 ys) at is) (waiting_bytes bs) (waiting_bytes cs) k.wf.waiting.room k.newer-wf.waiting.room)

    pub finished-none : r ≡ None → WorkedAs (finish_table (finished_at g (context_of ys cs) (context_of xs bs)) at) xs bs (Ok tt) xs bs
    finished-none e =
        record {
          ends = record { rule = rw (found, e) (unfold finished_as finish_table in ap Ok k.loaded.is); wf = k.loaded.wf };
          working = working-none xs bs;
        }

    module _ (d : Ending) (e : r ≡ Some d) where
      found_some : finished_at g (context_of ys cs) (context_of xs bs) ≡ Some (record { items = ending_items d xs bs ys cs; span = ending_span d })
      found_some = found ∙ rw e (unfold finished_as ending_items in refl)

      pub ending-given : EndingGiven d xs bs ys cs
      ending-given =
          record {
            numbers-are = area-length xs bs (formed_of xs bs k.wf);
            bytes-are = area-bytes xs bs (formed_of xs bs k.wf);
            newer-numbers = area-length ys cs (formed_of ys cs k.newer-wf);
            newer-bytes = area-bytes ys cs (formed_of ys cs k.newer-wf);
            room = k.wf.waiting.room;
            newer-room = k.newer-wf.waiting.room;
            table = k.loaded.wf;
            ready = rw k.loaded.is (finished-ready _ found_some);
          }

      pub finished-some : (o : ByCause (Unit {0})) (xs' bs' : List ℕ) → WorkedAs (finish_with (ending_span d) (ending_items d xs bs ys cs) (work_in (drop long_numbers xs) (drop long_bytes bs))) xs bs o xs' bs' → WorkedAs (finish_table (finished_at g (context_of ys cs) (context_of xs bs)) at) xs bs o xs' bs'
      finished-some o xs' bs' w = rw found_some (unfold finish_table in (rw k.loaded.is at w))

-- ---- the table afterwards

spanned-room : (s : Span) (t u : Table) (e n : ℕ) → length t.entries ≤ e → length t.keys ≤ n → spanned s t ≡ Ok u → (length u.entries ≤ e) × (length u.keys ≤ n)
unfolding spanned
spanned-room s t u e n a b q =
    split (span_goes_back t.span s)
    (λ z. absurd (refused_not_ok (rw z at q)))
    (λ z. rw (← (ok_inj (rw z at q))) (unfold with_span in (a, b)))

some-room : (t : Table) (o : Option Table) (e n : ℕ) → ◌≡◌ {A = Result (Option Table)} (Ok (Some t)) (Ok o) → (length t.entries ≤ e) × (length t.keys ≤ n) → Within e n o
unfolding made or_else
some-room t o e n q r = rw (← (ok_inj q)) (record { few-entries = r.0; few-keys = r.1 })

with-room : (s : Span) (l : List rules.LogItem) (o t : Option Table) → Within 64 16 o → sum entries_in l ≤ 256 → length l ≤ 128 → finish_with s l o ≡ Ok t → Within 320 144 t
unfolding finish_with
with-room s [] o t w a b e = rw (ok_inj e) at (within_more 64 16 320 144 o (omega arith) (omega arith) w)
with-room s (x ∷ l) o t w a b e =
    let r = and_then_ok (spanned s (made (replayed_items (x ∷ l) o))) (λ u. Ok (Some u)) t e in
    let k = within_more (64 + sum entries_in (x ∷ l)) (16 + length (x ∷ l)) 320 144 (replayed_items (x ∷ l) o) (omega (arith, a)) (omega (arith, b)) (items-room 64 16 (x ∷ l) o w) in
    some-room r.0 t 320 144 r.2 (spanned-room s (made (replayed_items (x ∷ l) o)) r.0 320 144 k.few-entries k.few-keys r.1)

some-meets : (p : rules.EntryIndex → Bool) (t : Table) (o : Option Table) → ◌≡◌ {A = Result (Option Table)} (Ok (Some t)) (Ok o) → every p t.entries ≡ true → every p (made o).entries ≡ true
unfolding made or_else
some-meets p t o e h = rw (← (ok_inj e)) h

with-meets : (p : rules.EntryIndex → Bool) (s : Span) (l : List rules.LogItem) (o t : Option Table) → every (λ (it : rules.LogItem). each_entry p it.content) l ≡ true → every p (made o).entries ≡ true → finish_with s l o ≡ Ok t → every p (made t).entries ≡ true
unfolding finish_with
with-meets p s [] o t k h e = rw (ok_inj e) at h
with-meets p s (x ∷ l) o t k h e =
    let r = and_then_ok (spanned s (made (replayed_items (x ∷ l) o))) (λ u. Ok (Some u)) t e in
    some-meets p r.0 t r.2 (spanned-meets p s (made (replayed_items (x ∷ l) o)) r.0 (items-meet p (x ∷ l) o k h) r.1)

after_none : (o t : Option Table) → finish_table None o ≡ Ok t → o ≡ t
unfolding finish_table
after_none o t e = ok_inj e

after-some : (f : Finished) (o t : Option Table) → finish_table (Some f) o ≡ Ok t → finish_with f.span f.items o ≡ Ok t
unfolding finish_table
after-some f o t e = e

module _ (g : ℕ) (xs bs ys cs : List ℕ) (k : PartsGiven g xs bs ys cs) (t : Option Table) (e : finish_table (finished_at g (context_of ys cs) (context_of xs bs)) (lookup numbers g (groups_of xs bs)) ≡ Ok t) where
  pub after-room : Within 320 144 t
  after-room =
      by_option (finished_at g (context_of ys cs) (context_of xs bs))
      (λ n. let q : lookup numbers g (groups_of xs bs) ≡ t = after_none _ t (rw n at e) in rw q at (within_more 64 16 320 144 (lookup numbers g (groups_of xs bs)) (omega arith) (omega arith) (at_room g xs bs ys cs k)))
      (λ f s. with-room f.span f.items (lookup numbers g (groups_of xs bs)) t (at_room g xs bs ys cs k) (few-entries g xs bs ys cs k f s) (few g xs bs ys cs k f s) (after-some f (lookup numbers g (groups_of xs bs)) t (rw s at e)))

  pub after-rewrite : every of_rewrite (made (lookup numbers g (groups_of xs bs))).entries ≡ true → every of_rewrite (made t).entries ≡ true
  after-rewrite h =
      by_option (finished_at g (context_of ys cs) (context_of xs bs))
      (λ n. let q : lookup numbers g (groups_of xs bs) ≡ t = after_none _ t (rw n at e) in rw q at h)
      (λ f s. with-meets of_rewrite f.span f.items (lookup numbers g (groups_of xs bs)) t (own-each g f.items (own g xs bs ys cs k f s)) h (after-some f (lookup numbers g (groups_of xs bs)) t (rw s at e)))
