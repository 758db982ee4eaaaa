-- A batch on an area: how it begins, goes on item by item, and goes back. Assumes nothing.
use Rattle.log_batch.specs.Lent.{Opened}
use mathlib.Core.List.{List}
use Rattle.std.specs.Prelude.{None, Some}
use Rattle.std.specs.Prelude.{◌≡◌, refl, length, get_or, take, drop}
use Rattle.std.proofs.Common.{sym, ◌∙◌, arith}
use Rattle.std.proofs.Math.Path.{ap}
use Prim.Native.Nat.{ℕ, ◌+◌, ◌-◌, ◌*◌, ◌/◌, ◌≤◌, ◌<◌}
use Rattle.std.proofs.Math.Numerals.{add-one}
use Rattle.maps.specs.Cells.{map_of}
use Rattle.maps.specs.Maps.{Map}
use Rattle.rules.specs.Causes.{Result, Ok, Err, and_then, in_order}
use Rattle.rules.specs.Items.{Call, Placed, placed_from}
use Rattle.rules.specs.Checks.{checks}
use Rattle.rules.specs.Table.{Table}
use Rattle.rules.specs.Context.{Part, Context, with_groups, with_waiting, limited, step, run}
use Rattle.log_batch.specs.declared.item.LogItem as lent
use Rattle.log_batch.specs.Lent.{row_count_of, opened_row, item_at, items_from, items_of, item_of}
use Rattle.log_batch.specs.OpenLaws.{opened_bare, refused-item}
use Rattle.log_batch.specs.PassedLaws.{Passed, passed-opens}
use Rattle.log_batch.proofs.ItemLaws.{items-start, items-end, items_more}
use Rattle.stores.specs.CheckedLaws.{checked-opens}
use Rattle.groups.specs.Area.{numbers_in_use, bytes_in_use, groups_of}
use Rattle.groups.specs.AreaLaws.{same-groups, same-stretch}
use Rattle.groups.specs.Undo.{live_numbers, undone_cells, Begun, Undone}
use Rattle.lists.specs.Rest.{rest_of, cut_to}
use Rattle.lists.specs.Rest as lists
use Rattle.lists.specs.Laws.{lists-cut, back_now}
use Rattle.room.specs.Layout.{waiting_of}
use Rattle.groups.specs.Laws.{front-groups, front_wf}
use Rattle.deeds.specs.DeedLaws.{passed-clear}
use Rattle.contexts.specs.Contexts.{waiting_numbers, waiting_bytes, rest_at, context_of, Formed, RoomKept}
use Rattle.contexts.specs.AreaLaws.{behind-room, lists-room, room_wf, room-waiting}
use Rattle.batches.specs.Runs.{ItemReady, back_to, BackKept, Going, WentBack}

-- ---- an item of a batch that passed the checks

same_item : (o : Opened) (x y : lent.LogItem) → o ≡ Ok x → o ≡ Ok y → x ≡ y
same_item o x y p q = cc

pub opened-ready : (c : Call) (xs es bs : List ℕ) (i : ℕ) (it : lent.LogItem) → checks c (items_of xs es bs) ≡ None → i < row_count_of xs → opened_row (drop (i * 9) xs) (length es / 8) (length bs) ≡ Ok it → ItemReady c it es bs
opened-ready c xs es bs i it p h e =
    let o = passed-opens c xs es bs p i h in
    let s : o.item ≡ it = same_item _ o.item it o.opens e in
    let q : Passed c (items_of xs es bs) i (item_of it es bs) = rw s at o.passed in
    record {
      lent_is = checked-opens c xs es bs p i h it e;
      bare = opened_bare (drop (i * 9) xs) (length es / 8) (length bs) it e;
      clear = passed-clear c (items_of xs es bs) i (item_of it es bs) q;
    }

-- no row is refused
pub opened-never : {P : Type 0} (c : Call) (xs es bs : List ℕ) (i g : ℕ) → checks c (items_of xs es bs) ≡ None → i < row_count_of xs → opened_row (drop (i * 9) xs) (length es / 8) (length bs) ≡ Err (record { raft_group_id = g }) → P
opened-never c xs es bs i g p h e = let o = passed-opens c xs es bs p i h in refused-item g o.item (sym e ∙ o.opens)

-- ---- under way

-- the parts that wait
abbrev waits : List ℕ → List ℕ → Map ℕ (List Part)
waits xs bs = waiting_of (waiting_numbers xs) (waiting_bytes bs)

-- a batch begins: it goes back to where it is
module _ (xs bs ys : List ℕ) (w : Formed xs bs) (b : Begun xs bs ys) where
  abbrev rest : List ℕ
  rest = drop numbers_in_use xs

  pub begun-room : RoomKept xs bs ys bs
  begun-room = behind-room xs bs ys bs b.behind refl

  pub begun-formed : Formed ys bs
  begun-formed = record { groups = b.wf; rest = rw b.behind w.rest; waiting = room_wf xs bs ys bs begun-room w.waiting }

  begun-groups : groups_of ys bs ≡ groups_of xs bs
  begun-groups = same-groups (λ j l. record { numbers = same-stretch j live_numbers ys xs (omega arith) b.live; bytes = refl })

  pub begun-context : context_of ys bs ≡ context_of xs bs
  unfolding context_of rest_at
  begun-context =
      ap (λ (m : Map ℕ Table). with_groups m (rest_at ys bs)) begun-groups
      ∙ ap (λ (v : Map ℕ (List Part)). with_groups (groups_of xs bs) (with_waiting v (rest_of (drop numbers_in_use ys) (drop bytes_in_use bs)))) (room-waiting xs bs ys bs begun-room)
      ∙ ap (λ (l : List ℕ). with_groups (groups_of xs bs) (with_waiting (waits xs bs) (rest_of l (drop bytes_in_use bs)))) b.behind

  pub begun-going : Going (get_or rest 1 0) (get_or rest 2 0) (context_of xs bs) ys bs
  unfolding back_to context_of rest_at groups_of
  begun-going =
      let now = back_now rest (drop bytes_in_use bs) w.rest in
      record {
        back =
            ap (λ (m : Map ℕ Table). with_groups m (with_waiting (waits ys bs) (rest_of (cut_to (get_or rest 1 0) (get_or rest 2 0) (drop numbers_in_use ys)) (drop bytes_in_use bs)))) (ap map_of b.undone)
            ∙ ap (λ (v : Map ℕ (List Part)). with_groups (groups_of xs bs) (with_waiting v (rest_of (cut_to (get_or rest 1 0) (get_or rest 2 0) (drop numbers_in_use ys)) (drop bytes_in_use bs)))) (room-waiting xs bs ys bs begun-room)
            ∙ ap (λ (l : List ℕ). with_groups (groups_of xs bs) (with_waiting (waits xs bs) (rest_of (cut_to (get_or rest 1 0) (get_or rest 2 0) l) (drop bytes_in_use bs)))) b.behind
            ∙ ap (λ (r : Context). with_groups (groups_of xs bs) (with_waiting (waits xs bs) r)) now.rest;
        undoable = b.undoable;
        lists-wf = rw b.behind now.wf;
        tombstones-grow = rw b.behind (omega arith);
        cleaned-grow = rw b.behind (omega arith);
      }

-- a batch goes on
pub going_on : (t n : ℕ) (c : Context) (xs bs ys ds : List ℕ) → Going t n c xs bs → BackKept xs bs ys ds → Going t n c ys ds
unfolding back_to
going_on t n c xs bs ys ds g k =
    let b = k.lists-keep.back t n _ g.tombstones-grow g.cleaned-grow (record { rest = refl; wf = g.lists-wf }) in
    record {
      back =
          ap (λ (m : Map ℕ Table). with_groups m (with_waiting (waits ys ds) (rest_of (cut_to t n (drop numbers_in_use ys)) (drop bytes_in_use ds)))) (ap map_of k.undo.undone)
          ∙ ap (λ (v : Map ℕ (List Part)). with_groups (map_of (undone_cells xs bs)) (with_waiting v (rest_of (cut_to t n (drop numbers_in_use ys)) (drop bytes_in_use ds)))) (room-waiting xs bs ys ds k.room)
          ∙ ap (λ (r : Context). with_groups (map_of (undone_cells xs bs)) (with_waiting (waits xs bs) r)) b.rest
          ∙ g.back;
      undoable = k.undo.undoable;
      lists-wf = b.wf;
      tombstones-grow = omega (arith, g.tombstones-grow, k.lists-keep.tombstones-grow);
      cleaned-grow = omega (arith, g.cleaned-grow, k.lists-keep.cleaned-grow);
    }

-- an area goes back: the stretches, and then the lists
pub gone_back : (t n : ℕ) (xs bs ys ds zs : List ℕ) → Formed xs bs → lists.Wf (cut_to t n (drop numbers_in_use xs)) (drop bytes_in_use bs) → Undone xs bs ys ds → take numbers_in_use zs ≡ take numbers_in_use ys → drop numbers_in_use zs ≡ cut_to t n (drop numbers_in_use ys) → WentBack t n xs bs zs ds
unfolding context_of rest_at back_to groups_of
gone_back t n xs bs ys ds zs w l u f e =
    let c : drop numbers_in_use zs ≡ cut_to t n (drop numbers_in_use xs) = e ∙ ap (cut_to t n) u.behind in
    let room = lists-room xs bs zs ds (rw (c, u.behind-bytes) (lists-cut t n (drop numbers_in_use xs) w.rest.numbers-are (drop bytes_in_use bs))) in
    record {
      context-is =
          ap (λ (m : Map ℕ Table). with_groups m (rest_at zs ds)) (front-groups zs ds ys ds f refl ∙ ap map_of u.cells_are)
          ∙ ap (λ (v : Map ℕ (List Part)). with_groups (map_of (undone_cells xs bs)) (with_waiting v (rest_of (drop numbers_in_use zs) (drop bytes_in_use ds)))) (room-waiting xs bs zs ds room)
          ∙ ap (λ (r : List ℕ). with_groups (map_of (undone_cells xs bs)) (with_waiting (waits xs bs) (rest_of r (drop bytes_in_use ds)))) c
          ∙ ap (λ (r : List ℕ). with_groups (map_of (undone_cells xs bs)) (with_waiting (waits xs bs) (rest_of (cut_to t n (drop numbers_in_use xs)) r))) u.behind-bytes;
      formed = record { groups = front_wf ys ds zs ds (sym f) refl u.wf; rest = rw (c, u.behind-bytes) l; waiting = room_wf xs bs zs ds room w.waiting };
    }

-- ---- the run of the items from item i on

unfoldable pub run_from : Call → List ℕ → List ℕ → List ℕ → ℕ → ℕ → Context → Result Context
run_from c items es bs n i = in_order (step limited c) (placed_from i (items_from es bs (n - i) (drop (i * 9) items)))

module _ (c : Call) (items es bs : List ℕ) where
  pub run-start : (n : ℕ) (x : Context) → n ≡ row_count_of items → run_from c items es bs n 0 x ≡ run limited c (placed_from 0 (items_of items es bs)) x
  unfolding run_from run items_of
  run-start n x e = rw (e, ← items-start es bs (row_count_of items) items)

  module _ (n i : ℕ) where
    pub run_end : (x : Context) → n ≤ i → run_from c items es bs n i x ≡ Ok x
    unfolding run_from in_order placed_from
    run_end x h = rw (items-end es bs n i items h)

    -- the item that is next, at its place
    abbrev next : Placed
    next = record { item = item_at es bs (drop (i * 9) items); place = Some i }

    pub run-done : (x y : Context) → i < n → step limited c next x ≡ Ok y → run_from c items es bs n i x ≡ run_from c items es bs n (i + 1) y
    unfolding run_from in_order placed_from and_then
    run-done x y h e = rw (items_more es bs n i items h, e, add-one i)

    pub run-refused : (x : Context) (r : _) → i < n → step limited c next x ≡ Err r → run_from c items es bs n i x ≡ Err r
    unfolding run_from in_order placed_from and_then
    run-refused x r h e = rw (items_more es bs n i items h, e)
