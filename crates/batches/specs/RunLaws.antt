-- One item on an area, put together from its deed and from what it adds to the lists; and the way back. Assumes nothing.
use Rattle.std.specs.Prelude.{Bool, true, false, List, ◌≡◌, refl, drop}
use Rattle.std.proofs.Common.{sym, ◌∙◌}
use Rattle.std.proofs.Math.Path.{ap}
use Prim.Native.Nat.{ℕ}
use Rattle.maps.specs.Maps.{Map}
use Rattle.rules.specs.Causes.{Cause, LimitPassed, Err, Ok, and_then, placed}
use Rattle.rules.specs.Items.{LogItem, Call}
use Rattle.rules.specs.Table.{Table}
use Rattle.rules.specs.Context.{Part, Context, with_groups, with_waiting}
use Rattle.groups.specs.Area.{numbers_in_use, bytes_in_use, groups_of}
use Rattle.groups.specs.Undo.{Undoable}
use Rattle.groups.specs.Laws.{front-groups, front_wf, front-undone, front-undoable}
use Rattle.lists.specs.Rest.{rest_of}
use Rattle.lists.specs.Rest as lists
use Rattle.lists.specs.Calls.{Keeps}
use Rattle.lists.specs.Laws.{keeps_all, keeps_then}
use Rattle.room.specs.Layout.{waiting_of}
use Rattle.deeds.specs.declared.Deed as deed
use Rattle.batches.specs.Steps.{adds_tombstone, adds_cleaned, grown, lists_have_room}
use Rattle.batches.specs.Acts.{deed_on, BehindKept, Acted}
use Rattle.batches.specs.ActLaws.{done-not-refused}
use Rattle.deeds.specs.DeedLaws.{DeedSays}
use Rattle.batches.specs.ItemLaws.{step_room, step_no-room}
use Rattle.contexts.specs.Contexts.{waiting_numbers, waiting_bytes, rest_at, context_of, Formed, RoomKept}
use Rattle.contexts.specs.AreaLaws.{behind-room, lists-room, room_all, room-then, room_wf, room-waiting, context-fits}
use Rattle.batches.specs.Growth.{lists_with, AreaGrown}
use Rattle.batches.specs.Runs.{BackKept, Stepped}

-- what lies behind the groups is as it was, and so are the lists
pub lists_stay : (xs bs ys ds : List ℕ) → BehindKept xs bs ys ds → Keeps (drop numbers_in_use xs) (drop bytes_in_use bs) (drop numbers_in_use ys) (drop bytes_in_use ds)
lists_stay xs bs ys ds b = rw (b.numbers, b.bytes) (keeps_all (drop numbers_in_use xs) (drop bytes_in_use bs))

pub room-stays : (xs bs ys ds : List ℕ) → BehindKept xs bs ys ds → RoomKept xs bs ys ds
room-stays xs bs ys ds b = behind-room xs bs ys ds b.numbers b.bytes

pub rest_wf : (xs bs ys ds : List ℕ) → BehindKept xs bs ys ds → lists.Wf (drop numbers_in_use xs) (drop bytes_in_use bs) → lists.Wf (drop numbers_in_use ys) (drop bytes_in_use ds)
rest_wf xs bs ys ds b w = rw (b.numbers, b.bytes) w

-- the context with other groups
pub behind-context : (xs bs ys ds : List ℕ) → BehindKept xs bs ys ds → context_of ys ds ≡ with_groups (groups_of ys ds) (context_of xs bs)
unfolding context_of rest_at with_groups with_waiting
behind-context xs bs ys ds b =
    ap (λ (v : Map ℕ (List Part)). with_groups (groups_of ys ds) (with_waiting v (rest_of (drop numbers_in_use ys) (drop bytes_in_use ds)))) (room-waiting xs bs ys ds (room-stays xs bs ys ds b))
    ∙ ap (λ (l : List ℕ). with_groups (groups_of ys ds) (with_waiting (waiting_of (waiting_numbers xs) (waiting_bytes bs)) (rest_of l (drop bytes_in_use ds)))) b.numbers
    ∙ ap (λ (l : List ℕ). with_groups (groups_of ys ds) (with_waiting (waiting_of (waiting_numbers xs) (waiting_bytes bs)) (rest_of (drop numbers_in_use xs) l))) b.bytes

module _ (c : Call) (it : LogItem) (last : Bool) (rows key value : List ℕ) (d : deed.Deed) (xs bs : List ℕ) (w : Formed xs bs) (u : Undoable xs bs)
    (says : DeedSays d c it.content rows key value) where
  -- no room in the lists
  pub stepped_no-room : lists_have_room c it (context_of xs bs) ≡ false → Stepped c it last xs bs (Err LimitPassed) xs bs
  stepped_no-room n =
      let same : BackKept xs bs xs bs = record { undo = record { undone = refl; undoable = u }; lists-keep = keeps_all _ _; room = room_all xs bs } in
      record {
        rule = λ p. sym (step_no-room c it p (context_of xs bs) (context-fits xs bs w) rows key value d says n);
        left = λ m e. same;
        kept = λ f. same;
        formed = w;
      }

  module _ (y : lists_have_room c it (context_of xs bs) ≡ true) (ys ds : List ℕ) where
    -- the group refuses
    pub stepped-refused : (n : Cause) → Acted (deed_on d it.group rows key value) last xs bs (Err n) ys ds → Stepped c it last xs bs (Err n) ys ds
    unfolding placed and_then context_of with_groups
    stepped-refused n a =
        let room = room-stays xs bs ys ds a.behind in
        let back : BackKept xs bs ys ds = record { undo = a.left-undo n refl; lists-keep = lists_stay xs bs ys ds a.behind; room = room } in
        record {
          rule = λ p. rw (step_room c it p (context_of xs bs) (context-fits xs bs w) rows key value d says y, ← a.rule);
          left = λ m e. back;
          kept = λ f. back;
          formed = record { groups = a.wf; rest = rest_wf xs bs ys ds a.behind w.rest; waiting = room_wf xs bs ys ds room w.waiting };
        }

    -- the groups are changed, and the lists grow
    module _ (a : Acted (deed_on d it.group rows key value) last xs bs (Ok tt) ys ds) (zs es : List ℕ)
        (g : AreaGrown (adds_tombstone c it) (adds_cleaned c it) it ys ds zs es) where
      changed-groups : groups_of zs es ≡ groups_of ys ds
      changed-groups = front-groups zs es ys ds g.front g.front_bytes

      changed-rest : rest_of (drop numbers_in_use zs) (drop bytes_in_use es) ≡ lists_with (adds_tombstone c it) (adds_cleaned c it) it (rest_of (drop numbers_in_use xs) (drop bytes_in_use bs))
      changed-rest =
          g.lists-grown.rest
          ∙ ap (λ (l : List ℕ). lists_with (adds_tombstone c it) (adds_cleaned c it) it (rest_of l (drop bytes_in_use ds))) a.behind.numbers
          ∙ ap (λ (l : List ℕ). lists_with (adds_tombstone c it) (adds_cleaned c it) it (rest_of (drop numbers_in_use xs) l)) a.behind.bytes

      changed-room : RoomKept xs bs zs es
      changed-room = room-then xs bs ys ds zs es (room-stays xs bs ys ds a.behind) (lists-room ys ds zs es g.lists-grown.behind)

      changed-context : context_of zs es ≡ grown c it (with_groups (groups_of ys ds) (context_of xs bs))
      unfolding context_of rest_at with_groups with_waiting lists_with grown
      changed-context =
          ap (λ (m : Map ℕ Table). with_groups m (rest_at zs es)) changed-groups
          ∙ ap (λ (v : Map ℕ (List Part)). with_groups (groups_of ys ds) (with_waiting v (rest_of (drop numbers_in_use zs) (drop bytes_in_use es)))) (room-waiting xs bs zs es changed-room)
          ∙ ap (λ (r : Context). with_groups (groups_of ys ds) (with_waiting (waiting_of (waiting_numbers xs) (waiting_bytes bs)) r)) changed-rest

      after-act : BackKept xs bs ys ds → BackKept xs bs zs es
      after-act b =
          record {
            undo =
                record {
                  undone = front-undone zs es ys ds g.front g.front_bytes ∙ b.undo.undone;
                  undoable = front-undoable ys ds zs es (sym g.front) (sym g.front_bytes) b.undo.undoable;
                };
            lists-keep = keeps_then _ _ _ _ _ _ b.lists-keep g.lists-grown.keeps;
            room = room-then xs bs ys ds zs es b.room (lists-room ys ds zs es g.lists-grown.behind);
          }

      pub stepped-done : Stepped c it last xs bs (Ok tt) zs es
      unfolding placed and_then context_of with_groups
      stepped-done =
          record {
            rule = λ p.
                ap Ok changed-context
                ∙ rw (step_room c it p (context_of xs bs) (context-fits xs bs w) rows key value d says y, ← a.rule);
            left = λ n e. absurd (done-not-refused n e);
            kept = λ f. after-act (record { undo = a.kept f; lists-keep = lists_stay xs bs ys ds a.behind; room = room-stays xs bs ys ds a.behind });
            formed =
                record {
                  groups = front_wf ys ds zs es (sym g.front) (sym g.front_bytes) a.wf;
                  rest = g.lists-grown.wf;
                  waiting = room_wf xs bs zs es changed-room w.waiting;
                };
          }
