-- The ways of newer parts that are accepted in the older room: a part, a cell, and all cells. Assumes nothing.
use Rattle.std.specs.Prelude.{Option, None, Some}
use mathlib.Core.List.{List, [], ◌∷◌}
use mathlib.Core.Path.{◌≡◌, refl, sym, ap, ◌∙◌, subst}
use Prim.Native.Nat.{ℕ, ◌+◌, ◌*◌, ◌<◌}
use native.Mathlib.Omega.{arith}
use lib.ListN.{get_or}
use borrow.Author.Tests.{ne_eqb}
use Rattle.cells.specs.Part.{part}
use Rattle.maps.specs.Maps.{Pair, Map, lookup, numbers}
use Rattle.maps.specs.MapLaws.{pair, Ascending}
use Rattle.rules.specs.Causes.{Cause, ByCause, Err, Result, Ok, refuse, and_then, FilesGoBack}
use Rattle.rules.specs.Items.{status_of}
use Rattle.rules.specs.Context.{Part}
use Rattle.rules.specs.Waiting.{Accepted, wait, finish, back, accept, some_parts}
use Rattle.rules_by_group.specs.Group.{parts_of, waits, accept_part}
use Rattle.rules_by_group.specs.Stage.{accept_parts_of, waiting_after}
use Rattle.rules_by_group.proofs.ResultLaws.{refusal_of, and_then_of, and_then-refused}
use Rattle.stores.specs.Tags.{items_with}
use Rattle.room.specs.Rooms.{head_at, group_in, newest_tag, older_tag, newest, older}
use Rattle.room.specs.Rooms as rooms
use Rattle.room.specs.Layout.{store_of, room_of, waiting_of, tagged, RoomWf, ContextRoom}
use Rattle.room.specs.ChangeLaws.{waiting-ascends}
use Rattle.room.specs.LimitLaws.{fits-few}
use Rattle.waiting.specs.Accepts.{parts_at}
use Rattle.waiting.specs.Merges.{items_from, MergedAs, Joined, Finished, RoomFor}
use Rattle.waiting.specs.Forms.{part_with}
use Rattle.waiting.specs.declared.PartHead.{PartHead}
use Rattle.parts.specs.Walks.{HeadAt, beyond_of, Least, LeastAt}
use Rattle.parts.specs.CellLaws.{in_cell, count-is}
use Rattle.parts.specs.Takings.{newer_part, Taken, PartRefused, TakenAs, newer_cell, RoomForAll, PartsTaken}
use Rattle.parts.specs.TakingLaws.{one-taken, one-refused, two-taken, two-refused, room_here, room_next, room-one, room-older, room-newer}
use Rattle.parts.proofs.WalkWays.{walked_all, none_left, next_is}
use Rattle.parts.proofs.FinalWays.{few-groups}

-- ---- a part

-- what `accept` makes of a part, as the rules by group have it
by-accept : (g : ℕ) (new : Part) (ws vs : List ℕ) (a : Accepted) → accept (parts_at g (waiting_of ws vs)) new ≡ a → accept_part new (lookup numbers g (waiting_of ws vs)) ≡ waits a
unfolding accept_part parts_of parts_at
by-accept g new ws vs a e = ap waits e

module _ (g at : ℕ) (us ds ws vs ws' vs' : List ℕ) (new : PartHead) (h : HeadAt at us new) where
  part-is : part_with new (items_from us ds (get_or us at 0)) ≡ newer_part at us ds
  unfolding newer_part
  part-is = rw (h.status, h.start, h.end)

  pub part_taken : (a : Option ℕ) → MergedAs g (part_with new (items_from us ds (get_or us at 0))) ws vs (Ok a) ws' vs' → Taken g (newer_part at us ds) ws vs ws' vs'
  part_taken None m =
      let k : Joined g (newer_part at us ds) ws vs ws' vs' = rw part-is at m in
      record {
        parts = some_parts k.parts;
        accepts = by-accept g (newer_part at us ds) ws vs (wait k.parts) k.accepts ∙ (unfold waits in refl);
        waiting = k.waiting;
        room = k.room;
      }
  part_taken (Some i) m =
      let k : Finished g (newer_part at us ds) ws vs ws' vs' = rw part-is at m in
      record {
        parts = some_parts k.others;
        accepts = by-accept g (newer_part at us ds) ws vs (finish k.old k.others) k.accepts ∙ (unfold waits in refl);
        waiting = k.waiting;
        room = k.room;
      }

  pub part_refused : (e : Cause) → MergedAs g (part_with new (items_from us ds (get_or us at 0))) ws vs (Err e) ws' vs' → PartRefused g (newer_part at us ds) e ws vs ws' vs'
  part_refused e m =
      let k : (e ≡ FilesGoBack) × (accept (parts_at g (waiting_of ws vs)) (newer_part at us ds) ≡ back) × (ws' ≡ ws) × (vs' ≡ vs) = rw part-is at m in
      record {
        cause-is = k.0;
        refuses = rw k.0 (by-accept g (newer_part at us ds) ws vs back k.1 ∙ (unfold waits in refl));
        numbers-are = k.2;
        bytes-are = k.3;
      }

ascends : (ws vs : List ℕ) → Ascending numbers (waiting_of ws vs)
unfolding waiting_of
ascends ws vs = waiting-ascends (store_of ws) (room_of 16 ws vs)

-- the part is its group's only one
only-taken : (g : ℕ) (p : Part) (ws vs : List ℕ) (r : ByCause (Unit {0})) (ws' vs' : List ℕ) → TakenAs g p ws vs r ws' vs' → PartsTaken (accept_parts_of (pair g (p ∷ [])) (waiting_of ws vs)) r ws' vs'
only-taken g p ws vs (Ok _) ws' vs' t =
    (one-taken g (waiting_of ws vs) p t.parts t.accepts ∙ ap (λ (m : Map ℕ (List Part)). Ok m) (sym t.waiting), t.room)
only-taken g p ws vs (Err e) ws' vs' t = (one-refused g (waiting_of ws vs) p (refusal_of e) t.refuses, t.cause-is)

-- ---- a cell

module _ (us ds : List ℕ) (k : ℕ) (l : k < 16) where
  -- where the cell begins, and its group as it is read
  abbrev at : ℕ
  at = 2 + k * 10

  abbrev head : List ℕ
  head = head_at k (part 2 160 us)

  abbrev group : ℕ
  group = get_or us (at + 1) 0

  abbrev newest_part : Part
  newest_part = newer_part (at + 2) us ds

  abbrev older_part : Part
  older_part = newer_part (at + 6) us ds

  read_at : (i n : ℕ) → i < 10 → n ≡ at + i → get_or head i 0 ≡ get_or us n 0
  read_at i n h e = in_cell us k i l h ∙ ap (λ (x : ℕ). get_or us x 0) (sym e)

  newest-is : newest head (tagged us ds) ≡ newest_part
  unfolding newest newest_tag newer_part
  newest-is =
      λ i.
      record {
        status = status_of (read_at 3 (at + 2 + 1) (omega arith) (omega arith) i);
        items = items_with (read_at 2 (at + 2) (omega arith) refl i) (tagged us ds);
        start = read_at 4 (at + 2 + 2) (omega arith) (omega arith) i;
        end = read_at 5 (at + 2 + 3) (omega arith) (omega arith) i;
      }

  older-is : older head (tagged us ds) ≡ older_part
  unfolding older older_tag newer_part
  older-is =
      λ i.
      record {
        status = status_of (read_at 7 (at + 6 + 1) (omega arith) (omega arith) i);
        items = items_with (read_at 6 (at + 6) (omega arith) refl i) (tagged us ds);
        start = read_at 8 (at + 6 + 2) (omega arith) (omega arith) i;
        end = read_at 9 (at + 6 + 3) (omega arith) (omega arith) i;
      }

  group-is : group_in head ≡ group
  unfolding group_in
  group-is = read_at 1 (at + 1) (omega arith) refl

  module _ (e : get_or us at 0 ≡ 1) where
    one-part : rooms.parts_of head (tagged us ds) ≡ newest_part ∷ []
    unfolding rooms.parts_of
    one-part = rw (count-is us k l, e) (ap (λ (p : Part). p ∷ []) newest-is)

    cell-one : newer_cell k us ds ≡ pair group (newest_part ∷ [])
    cell-one = λ i. record { key = group-is i; val = one-part i }

    module _ (ws vs : List ℕ) where
      pub one_room : RoomForAll (newer_cell k us ds ∷ []) (waiting_of ws vs) → RoomFor group (items_from us ds (get_or us (at + 2) 0)) ws vs
      unfolding newer_part
      one_room h = room-one group newest_part ws vs (subst (λ (x : Pair ℕ (List Part)). RoomForAll (x ∷ []) (waiting_of ws vs)) cell-one h)

      pub one_accepted : (r : ByCause (Unit {0})) (ws' vs' : List ℕ) → TakenAs group newest_part ws vs r ws' vs' → PartsTaken (accept_parts_of (newer_cell k us ds) (waiting_of ws vs)) r ws' vs'
      one_accepted r ws' vs' t =
          subst (λ (x : Pair ℕ (List Part)). PartsTaken (accept_parts_of x (waiting_of ws vs)) r ws' vs') (sym cell-one) (only-taken group newest_part ws vs r ws' vs' t)

  module _ (e : get_or us at 0 ≡ 1 → ⊥) where
    two-parts : rooms.parts_of head (tagged us ds) ≡ newest_part ∷ older_part ∷ []
    unfolding rooms.parts_of
    two-parts = rw (count-is us k l, ne_eqb (get_or us at 0) 1 e) (λ i. newest-is i ∷ older-is i ∷ [])

    cell_two : newer_cell k us ds ≡ pair group (newest_part ∷ older_part ∷ [])
    cell_two = λ i. record { key = group-is i; val = two-parts i }

    module _ (ws vs : List ℕ) where
      room_two : RoomForAll (newer_cell k us ds ∷ []) (waiting_of ws vs) → RoomForAll (pair group (newest_part ∷ older_part ∷ []) ∷ []) (waiting_of ws vs)
      room_two h = subst (λ (x : Pair ℕ (List Part)). RoomForAll (x ∷ []) (waiting_of ws vs)) cell_two h

      pub older_room : RoomForAll (newer_cell k us ds ∷ []) (waiting_of ws vs) → RoomFor group (items_from us ds (get_or us (at + 6) 0)) ws vs
      unfolding newer_part
      older_room h = room-older group newest_part older_part ws vs (room_two h)

      pub older_refused : (e : Cause) (ws' vs' : List ℕ) → PartRefused group older_part e ws vs ws' vs' → accept_parts_of (newer_cell k us ds) (waiting_of ws vs) ≡ refuse e
      older_refused e ws' vs' b =
          ap (λ (x : Pair ℕ (List Part)). accept_parts_of x (waiting_of ws vs)) cell_two
          ∙ two-refused group (waiting_of ws vs) newest_part older_part (refusal_of e) b.refuses

      -- the older part is accepted; the newest follows
      module _ (ws' vs' : List ℕ) (older-taken : Taken group older_part ws vs ws' vs') where
        pub newest_room : RoomForAll (newer_cell k us ds ∷ []) (waiting_of ws vs) → RoomFor group (items_from us ds (get_or us (at + 2) 0)) ws' vs'
        unfolding newer_part
        newest_room h = room-newer group newest_part older_part ws vs (room_two h) (ascends ws vs) ws' vs' (only-taken group older_part ws vs (Ok tt) ws' vs' older-taken).0

        pub two_accepted : (s : ByCause (Unit {0})) (ws'' vs'' : List ℕ) → TakenAs group newest_part ws' vs' s ws'' vs'' → PartsTaken (accept_parts_of (newer_cell k us ds) (waiting_of ws vs)) s ws'' vs''
        two_accepted s ws'' vs'' n =
            let same : accept_parts_of (newer_cell k us ds) (waiting_of ws vs) ≡ accept_parts_of (pair group (newest_part ∷ [])) (waiting_of ws' vs') =
            ap (λ (x : Pair ℕ (List Part)). accept_parts_of x (waiting_of ws vs)) cell_two
            ∙ two-taken group (waiting_of ws vs) newest_part older_part (ascends ws vs) older-taken.parts older-taken.accepts
            ∙ ap (accept_parts_of (pair group (newest_part ∷ []))) (sym older-taken.waiting)
            in
            subst (λ (x : Result (Map ℕ (List Part))). PartsTaken x s ws'' vs'') (sym same) (only-taken group newest_part ws' vs' s ws'' vs'' n)

-- ---- all cells

-- the parts of the cells so far are accepted, and there is room for the others
pub record Taking (b : Option ℕ) (us ds ws vs ws' vs' : List ℕ) : Type 0 where
  pub whole : waiting_after (beyond_of b (waiting_of us ds)) (waiting_of ws' vs') ≡ waiting_after (waiting_of us ds) (waiting_of ws vs)
  pub fits : RoomForAll (beyond_of b (waiting_of us ds)) (waiting_of ws' vs')
  pub room : RoomWf 16 ws' vs'

after_none : (w : Map ℕ (List Part)) → waiting_after [] w ≡ Ok w
unfolding waiting_after Rattle.rules.specs.Causes.in_order
after_none w = refl

after_more : (x : Pair ℕ (List Part)) (xs w : Map ℕ (List Part)) → waiting_after (x ∷ xs) w ≡ and_then (accept_parts_of x w) (waiting_after xs)
unfolding waiting_after Rattle.rules.specs.Causes.in_order
after_more x xs w = refl

module _ (us ds ws vs : List ℕ) (u : RoomWf 16 us ds) where
  abbrev newer : Map ℕ (List Part)
  newer = waiting_of us ds

  pub taking_start : ContextRoom us ds → ContextRoom ws vs → Taking None us ds ws vs ws vs
  taking_start n o =
      let q = walked_all newer in
      let l = few-groups ws vs us ds u in
      let f = fits-few newer n.fits in
      let g = fits-few (waiting_of ws vs) o.fits in
      let fg = f.groups in
      let gg = g.groups in
      let fi = f.items in
      let fe = f.entries in
      let gi = g.items in
      let ge = g.entries in
      record {
        whole = rw q;
        fits = rw q (record { groups = omega (arith, fg, gg); items = omega (arith, fi, gi); entries = omega (arith, fe, ge) });
        room = o.room;
      }

  module _ (b : Option ℕ) (ws' vs' : List ℕ) (c : Taking b us ds ws vs ws' vs') where
    pub taken_all : Least b 16 (part 2 160 us) None → PartsTaken (waiting_after newer (waiting_of ws vs)) (Ok tt) ws' vs'
    taken_all l = (sym c.whole ∙ ap (λ (m : Map ℕ (List Part)). waiting_after m (waiting_of ws' vs')) (none_left b us ds u l) ∙ after_none (waiting_of ws' vs'), c.room)

    module _ (k : ℕ) (l : LeastAt b 16 (part 2 160 us) k) where
      abbrev rest : Map ℕ (List Part)
      rest = beyond_of (Some (group_in (head_at k (part 2 160 us)))) newer

      next : beyond_of b newer ≡ newer_cell k us ds ∷ rest
      next = next_is b us ds u k l

      room_for : RoomForAll (newer_cell k us ds ∷ rest) (waiting_of ws' vs')
      room_for = subst (λ (m : Map ℕ (List Part)). RoomForAll m (waiting_of ws' vs')) next c.fits

      pub cell_room : RoomForAll (newer_cell k us ds ∷ []) (waiting_of ws' vs')
      cell_room = room_here (newer_cell k us ds) rest (waiting_of ws' vs') room_for

      here : waiting_after newer (waiting_of ws vs) ≡ and_then (accept_parts_of (newer_cell k us ds) (waiting_of ws' vs')) (waiting_after rest)
      here = sym c.whole ∙ ap (λ (m : Map ℕ (List Part)). waiting_after m (waiting_of ws' vs')) next ∙ after_more (newer_cell k us ds) rest (waiting_of ws' vs')

      pub taken_refused : (e : Cause) → accept_parts_of (newer_cell k us ds) (waiting_of ws' vs') ≡ refuse e → waiting_after newer (waiting_of ws vs) ≡ refuse e
      taken_refused e x =
          here ∙ and_then-refused (accept_parts_of (newer_cell k us ds) (waiting_of ws' vs')) (waiting_after rest) (refusal_of e) x

      module _ (ws'' vs'' : List ℕ) (x : (accept_parts_of (newer_cell k us ds) (waiting_of ws' vs') ≡ Ok (waiting_of ws'' vs'')) × RoomWf 16 ws'' vs'') where
        pub taken_more : (g : ℕ) → g ≡ get_or us (2 + k * 10 + 1) 0 → Taking (Some g) us ds ws vs ws'' vs''
        taken_more g e =
            rw (e ∙ sym (group-is us ds k l.inside))
            (record {
              whole = sym (here ∙ and_then_of (accept_parts_of (newer_cell k us ds) (waiting_of ws' vs')) (waiting_after rest) (waiting_of ws'' vs'') x.0);
              fits = room_next (newer_cell k us ds) rest (waiting_of ws' vs') (ascends ws' vs') (waiting_of ws'' vs'') x.0 room_for;
              room = x.1;
            })
