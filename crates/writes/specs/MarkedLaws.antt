-- A marked batch on an area: what becomes of its part, and a part that is taken out of the room. Assumes nothing.
use Rattle.std.specs.Prelude.{Option, true, eqb, length, get_or, take, drop}
use mathlib.Core.List.{List, [], ◌∷◌}
use Rattle.std.specs.Prelude.{None, Some}
use Rattle.std.proofs.Math.Path.{◌≡◌, refl, sym, ap}
use Rattle.std.proofs.Common.{◌∙◌, length-drop}
use Prim.Native.Nat.{ℕ, ◌+◌, ◌-◌, ◌*◌, ◌≤◌, ◌<◌}
use native.Mathlib.Omega.{arith}
use borrow.Author.Tests.{le-leb, eqb-false}
use Rattle.cells.specs.Part.{part, put}
use Rattle.cells.specs.PartLaws.{part-drop, part-put_same, part-put-before, length-put, take_put}
use Rattle.maps.specs.BoolLaws.{both}
use Rattle.maps.specs.OrderLaws.{split, numbers_lawful}
use Rattle.maps.specs.Lists.{every, or_else}
use Rattle.maps.specs.ListLaws.{every-head}
use Rattle.maps.specs.Maps.{Pair, Map, lookup, store, numbers}
use Rattle.maps.specs.MapLaws.{pair, every-lookup, length-remove-le, length-insert-some}
use Rattle.rules.specs.Causes.{Cause, Err, Result, Ok, left}
use Rattle.rules.specs.Items.{LogItem, placed_from}
use Rattle.rules.specs.Checks.{Mark}
use Rattle.rules.specs.Table.{Span, Table}
use Rattle.rules.specs.Context.{Part, Context, with_groups, with_waiting, waiting_fits, limited}
use Rattle.rules.specs.Waiting.{finish, accept, some_parts, set_waiting, finish_group, become, accept_new_group, part_of, replay_marked}
use Rattle.rules_by_group.specs.Kept.{is_passed, own_items, own_parts, Kept}
use Rattle.rules_by_group.proofs.EntryLaws.{own-passed}
use Rattle.groups.specs.Area.{numbers_in_use, bytes_in_use, groups_of}
use Rattle.groups.specs.Laws.{front-groups, front_wf}
use Rattle.lists.specs.Rest.{rest_of}
use Rattle.lists.specs.SameLaws.{rest_same, wf_same}
use Rattle.room.specs.Rooms.{item_count, entry_count, waiting_items, waiting_entries, waiting_in, count_in, newest_tag, newest, cell_of}
use Rattle.room.specs.Batches.{unmarked}
use Rattle.room.specs.Parts.{part_for, TookPart}
use Rattle.room.specs.Layout.{store_of, room_of, context_cells, waiting_of, tagged, head_part, ContextRoom}
use Rattle.room.specs.LayoutLaws.{cell-count, count-in}
use Rattle.room.specs.LimitLaws.{fits_by, fits-few}
use Rattle.room.specs.PartLaws.{counts-cons, counts-nil}
use Rattle.room.specs.ChangeLaws.{waiting-ascends, would-wait, waiting_at_lem}
use Rattle.waiting.specs.Accepts.{parts_at, Finishing}
use Rattle.contexts.specs.Contexts.{waiting_numbers, waiting_bytes, rest_at, context_of, answer_as, Formed, Answered}
use Rattle.contexts.specs.AreaLaws.{area-length, area-bytes, context-fits, room-waiting}
use Rattle.writes.specs.WaitsLaws.{plain, waiting_with, with_ok, with-refused, finish_with_lem}
use Rattle.writes.specs.Finishes.{stored_from, both_items, finish_stored, AnsweredKept, RoomWritten, TookWaiting}
use Rattle.writes.specs.FinishLaws.{plain-items}

-- ---- the room is written

module _ (xs bs ws vs : List ℕ) (w : Formed xs bs) (n : length ws ≡ 3490) (m : length vs ≡ 8192) where
  abbrev ys : List ℕ
  ys = put xs 10019 ws

  abbrev ds : List ℕ
  ds = put bs 20480 vs

  length_ys : length ys ≡ length xs
  length_ys = let l = area-length xs bs w in length-put xs 10019 ws (omega arith)

  length_ds : length ds ≡ length bs
  length_ds = let l = area-bytes xs bs w in length-put bs 20480 vs (omega arith)

  front : take 9376 ys ≡ take 9376 xs
  front = let l = area-length xs bs w in take_put 9376 xs 10019 ws (omega arith) (omega arith)

  front_bytes : take 16384 ds ≡ take 16384 bs
  front_bytes = let l = area-bytes xs bs w in take_put 16384 bs 20480 vs (omega arith) (omega arith)

  lists_same : part 0 643 (drop 9376 ys) ≡ part 0 643 (drop 9376 xs)
  lists_same =
      let l = area-length xs bs w in
      part-drop 0 643 9376 ys ∙ part-put-before 9376 643 xs 10019 ws (omega arith) (omega arith) ∙ sym (part-drop 0 643 9376 xs)

  bytes_same : part 0 4096 (drop 16384 ds) ≡ part 0 4096 (drop 16384 bs)
  bytes_same =
      let l = area-bytes xs bs w in
      part-drop 0 4096 16384 ds ∙ part-put-before 16384 4096 bs 20480 vs (omega arith) (omega arith) ∙ sym (part-drop 0 4096 16384 bs)

  room-is : waiting_numbers ys ≡ ws
  room-is = let l = area-length xs bs w in part-put_same 3490 xs 10019 ws n (omega arith)

  room-bytes : waiting_bytes ds ≡ vs
  room-bytes = let l = area-bytes xs bs w in part-put_same 8192 bs 20480 vs m (omega arith)

  written-context : context_of ys ds ≡ with_waiting (waiting_of ws vs) (context_of xs bs)
  unfolding context_of rest_at with_groups with_waiting
  written-context =
      ap (λ (k : Map ℕ Table). with_groups k (with_waiting (waiting_of (waiting_numbers ys) (waiting_bytes ds)) (rest_of (drop numbers_in_use ys) (drop bytes_in_use ds)))) (front-groups ys ds xs bs front front_bytes)
      ∙ ap (λ (l : List ℕ). with_groups (groups_of xs bs) (with_waiting (waiting_of l (waiting_bytes ds)) (rest_of (drop numbers_in_use ys) (drop bytes_in_use ds)))) room-is
      ∙ ap (λ (l : List ℕ). with_groups (groups_of xs bs) (with_waiting (waiting_of ws l) (rest_of (drop numbers_in_use ys) (drop bytes_in_use ds)))) room-bytes
      ∙ ap (λ (r : Context). with_groups (groups_of xs bs) (with_waiting (waiting_of ws vs) r)) (rest_same (drop 9376 xs) (drop 16384 bs) (drop 9376 ys) (drop 16384 ds) lists_same bytes_same w.rest)

  written-formed : ContextRoom ws vs → Formed ys ds
  written-formed r =
      record {
        groups = front_wf xs bs ys ds (sym front) (sym front_bytes) w.groups;
        rest = wf_same (drop 9376 xs) (drop 16384 bs) (drop 9376 ys) (drop 16384 ds) lists_same bytes_same w.rest (length-drop 9376 ys ∙ ap (λ (k : ℕ). k - 9376) length_ys ∙ sym (length-drop 9376 xs)) (length-drop 16384 ds ∙ ap (λ (k : ℕ). k - 16384) length_ds ∙ sym (length-drop 16384 bs));
        waiting = rw (room-is, room-bytes) r;
      }

  pub room-written : ContextRoom ws vs → RoomWritten ws vs xs bs ys ds
  room-written r = record { context-is = written-context; formed = written-formed r }

-- ---- fewer parts pass no limit

parts-count : (ps : List Part) → or_else 0 item_count (some_parts ps) ≡ item_count ps
unfolding some_parts or_else
parts-count [] = sym counts-nil.0
parts-count (p ∷ ps) = refl

parts-entries : (ps : List Part) → or_else 0 entry_count (some_parts ps) ≡ entry_count ps
unfolding some_parts or_else
parts-entries [] = sym counts-nil.1
parts-entries (p ∷ ps) = refl

some-count : (ps : List Part) → or_else 0 item_count (Some ps) ≡ item_count ps
unfolding or_else
some-count ps = refl

some-entries : (ps : List Part) → or_else 0 entry_count (Some ps) ≡ entry_count ps
unfolding or_else
some-entries ps = refl

fewer-groups : (g : ℕ) (p : Part) (ps : List Part) (s : _) (r : _) → lookup numbers g (waiting_in s r) ≡ Some (p ∷ ps) → length (store numbers g (some_parts ps) (waiting_in s r)) ≤ length (waiting_in s r)
unfolding some_parts store
fewer-groups g p [] s r e = length-remove-le numbers numbers_lawful g (waiting_in s r)
fewer-groups g p (q ∷ qs) s r e = let l = length-insert-some numbers numbers_lawful g (q ∷ qs) (p ∷ q ∷ qs) (waiting_in s r) e (waiting-ascends s r) in omega arith

pub fewer-fit : (ws vs : List ℕ) → ContextRoom ws vs → (g : ℕ) (p : Part) (ps : List Part) → lookup numbers g (waiting_of ws vs) ≡ Some (p ∷ ps) → waiting_fits (store numbers g (some_parts ps) (waiting_of ws vs)) ≡ true
unfolding waiting_of
fewer-fit ws vs r g p ps e =
    let s = store_of ws in
    let q = room_of context_cells ws vs in
    let f = fits-few (waiting_in s q) r.fits in
    let fg = f.groups in
    let fi = f.items in
    let fe = f.entries in
    let a = would-wait s q r.room.wf g (some_parts ps) in
    let b = counts-cons p ps in
    let b0 = b.0 in
    let b1 = b.1 in
    let ai = r.room.wf.all-items in
    let ae = r.room.wf.all-entries in
    let i : waiting_items (store numbers g (some_parts ps) (waiting_in s q)) + item_count (p ∷ ps) ≡ item_count ps + s.items = rw (e, parts-count ps, some-count (p ∷ ps)) at a.0 in
    let j : waiting_entries (store numbers g (some_parts ps) (waiting_in s q)) + entry_count (p ∷ ps) ≡ entry_count ps + s.entries = rw (e, parts-entries ps, some-entries (p ∷ ps)) at a.1 in
    let l = fewer-groups g p ps s q e in
    let w = store numbers g (some_parts ps) (waiting_in s q) in
    fits_by w
    ∙ both (both (le-leb (length w) 8 (omega arith)) (le-leb (waiting_items w) 64 (omega arith))) (le-leb (waiting_entries w) 128 (omega arith))

-- ---- what becomes of a marked batch

module _ (m : Mark) (seq : ℕ) (its : List LogItem) where
  abbrev new : Part
  new = part_for m.byte seq (unmarked its)

  new_is : part_of m.byte seq (plain (placed_from 0 its)) ≡ new
  unfolding part_of part_for
  new_is = rw (plain-items 0 its)

  pub marked-is : (c : Context) → replay_marked m seq (placed_from 0 its) c ≡ become limited (Some m.at) m.group new (plain (placed_from 0 its)) c (accept (parts_at m.group c.waiting) new)
  unfolding replay_marked accept_new_group parts_at
  marked-is c =
      ap (λ (n : Part). become limited (Some m.at) m.group n (plain (placed_from 0 its)) c (accept (parts_at m.group c.waiting) n)) new_is

  module _ (xs bs : List ℕ) (w : Formed xs bs) (k : ℕ) (f : Finishing m.group new k (waiting_numbers xs) (waiting_bytes bs)) where
    abbrev ws : List ℕ
    ws = waiting_numbers xs

    abbrev vs : List ℕ
    vs = waiting_bytes bs

    abbrev old : Part
    old = newest (head_part k ws vs) (tagged ws vs)

    -- its tag, and the span
    abbrev tag : ℕ
    tag = newest_tag (head_part k ws vs)

    abbrev span : Span
    span = record { start = old.start; end = seq }

    -- what waits afterwards
    abbrev rest-waits : Map ℕ (List Part)
    rest-waits = store numbers m.group (some_parts f.others) (waiting_of ws vs)

    waits_here : lookup numbers m.group (waiting_of ws vs) ≡ Some (old ∷ f.others)
    unfolding waiting_of
    waits_here =
        waiting_at_lem (store_of ws) (room_of context_cells ws vs) w.waiting.room.wf k m.group (old ∷ f.others)
        (rw (cell-count context_cells ws vs w.waiting.room.numbers-are w.waiting.room.bytes-are) f.inside) f.cell

    rest-fits : waiting_fits rest-waits ≡ true
    rest-fits = fewer-fit ws vs w.waiting m.group old f.others waits_here

    waiting-is : (context_of xs bs).waiting ≡ waiting_of ws vs
    unfolding context_of rest_at with_groups with_waiting
    waiting-is = refl

    pub passed-so : Kept (context_of xs bs) → every is_passed (stored_from tag 0 xs bs) ≡ true
    unfolding stored_from newest
    passed-so kept =
        own-passed m.group old.items
        (every-head (λ (p : Part). own_items m.group p.items) old f.others
        (unfold own_parts in every-lookup numbers numbers_lawful (λ (x : Pair ℕ (List Part)). own_parts x.key x.val) m.group (old ∷ f.others) (waiting_of ws vs) (rw waiting-is at kept.own-items) waits_here))

    finish-becomes : become limited (Some m.at) m.group new (plain (placed_from 0 its)) (context_of xs bs) (finish old f.others) ≡ waiting_with rest-waits rest-fits (finish_stored m.at tag m.group span its xs bs (context_of xs bs))
    unfolding finish_stored stored_from become set_waiting newest part_for
    finish-becomes =
        ap (λ (v : Map ℕ (List Part)). finish_group limited (Some m.at) m.group span (both_items m.at tag its xs bs) (with_waiting (store numbers m.group (some_parts f.others) v) (context_of xs bs))) waiting-is
        ∙ finish_with_lem rest-waits rest-fits (Some m.at) m.group span (both_items m.at tag its xs bs) (context_of xs bs) (context-fits xs bs w)

    finish-is : replay_marked m seq (placed_from 0 its) (context_of xs bs) ≡ waiting_with rest-waits rest-fits (finish_stored m.at tag m.group span its xs bs (context_of xs bs))
    finish-is =
        let e : accept (parts_at m.group (context_of xs bs).waiting) new ≡ finish old f.others = rw waiting-is f.accepts in
        marked-is (context_of xs bs)
        ∙ ap (become limited (Some m.at) m.group new (plain (placed_from 0 its)) (context_of xs bs)) e
        ∙ finish-becomes

    abbrev finishes : Context → Result Context
    finishes = finish_stored m.at tag m.group span its xs bs

    abbrev marked : Context → Result Context
    marked = replay_marked m seq (placed_from 0 its)

    pub marked_refused : (n : Cause) (p : Option ℕ) (ys ds : List ℕ) → AnsweredKept finishes xs bs (Err (record { cause = n; place = p })) ys ds → Answered marked xs bs (Err (record { cause = n; place = p })) ys ds
    unfolding answer_as left
    marked_refused n p zs es a =
        let r = a.answered.answers in
        let q = sym (finish-is ∙ with-refused rest-waits rest-fits (finishes (context_of xs bs)) _ (sym r)) in
        record {
          answers = q;
          leaves = a.answered.leaves ∙ ap (left (context_of xs bs)) (sym r) ∙ ap (left (context_of xs bs)) q;
          formed = a.answered.formed;
        }

    module _ (ys ds : List ℕ) (a : AnsweredKept finishes xs bs (Ok tt) ys ds) where
      -- the cell is as it was
      pub cell-still : cell_of (head_part k (waiting_numbers ys) (waiting_bytes ds)) (tagged (waiting_numbers ys) (waiting_bytes ds)) ≡ Some (pair m.group (old ∷ f.others))
      cell-still = let r = a.room refl in rw (r.numbers, r.bytes) f.cell

      pub marked-finished : (zs es : List ℕ) → TookWaiting m.group f.others ys ds zs es → Answered marked xs bs (Ok tt) zs es
      unfolding answer_as left
      marked-finished zs es t =
          let e : context_of zs es ≡ with_waiting rest-waits (context_of ys ds) = t.context-is ∙ ap (λ (v : Map ℕ (List Part)). with_waiting (store numbers m.group (some_parts f.others) v) (context_of ys ds)) (room-waiting xs bs ys ds (a.room refl)) in
          let q = ap Ok e ∙ sym (finish-is ∙ with_ok rest-waits rest-fits (finishes (context_of xs bs)) (context_of ys ds) (sym a.answered.answers)) in
          record { answers = q; leaves = ap (left (context_of xs bs)) q; formed = t.formed }

-- ---- the newest part of a cell is taken out

module _ (xs bs : List ℕ) (w : Formed xs bs) (k : ℕ) (inside : k < context_cells) where
  -- a cell with parts has a count
  pub count_above : (g : ℕ) (ps : List Part) → cell_of (head_part k (waiting_numbers xs) (waiting_bytes bs)) (tagged (waiting_numbers xs) (waiting_bytes bs)) ≡ Some (pair g ps) → 0 < get_or (waiting_numbers xs) (2 + k * 10) 0
  unfolding cell_of
  count_above g ps e =
      rw (← (count-in context_cells (waiting_numbers xs) (waiting_bytes bs) w.waiting.room.numbers-are w.waiting.room.bytes-are k inside))
      (split (eqb (count_in (head_part k (waiting_numbers xs) (waiting_bytes bs))) 0)
      (λ y. absurd (none-not (rw y at e)))
      (λ n. let z = eqb-false (count_in (head_part k (waiting_numbers xs) (waiting_bytes bs))) 0 n in above _ z))
    where
      none-not : {A : Type 0} {t : A} → None ≡ Some t → ⊥
      none-not e = let z : ◌≡◌ {A = ℕ} 0 1 = cc in omega arith

      above : (n : ℕ) → (n ≡ 0 → ⊥) → 0 < n
      above n z = omega arith

  pub took-waiting : (ws vs : List ℕ) → length ws ≡ 3490 → length vs ≡ 8192 → TookPart context_cells k (waiting_numbers xs) (waiting_bytes bs) ws vs → (g : ℕ) (p : Part) (ps : List Part) → cell_of (head_part k (waiting_numbers xs) (waiting_bytes bs)) (tagged (waiting_numbers xs) (waiting_bytes bs)) ≡ Some (pair g (p ∷ ps)) → TookWaiting g ps xs bs (put xs 10019 ws) (put bs 20480 vs)
  unfolding waiting_of
  took-waiting ws vs n m t g p ps e =
      let b = t.became g p ps e in
      let l =
      waiting_at_lem (store_of (waiting_numbers xs)) (room_of context_cells (waiting_numbers xs) (waiting_bytes bs)) w.waiting.room.wf k g (p ∷ ps)
      (rw (cell-count context_cells (waiting_numbers xs) (waiting_bytes bs) w.waiting.room.numbers-are w.waiting.room.bytes-are) inside) e in
      let r : ContextRoom ws vs = record { room = record { numbers-are = n; bytes-are = m; wf = b.wf }; fits = rw b.waiting (fewer-fit (waiting_numbers xs) (waiting_bytes bs) w.waiting g p ps l) } in
      let v = room-written xs bs ws vs w n m r in
      record { context-is = v.context-is ∙ ap (λ (x : Map ℕ (List Part)). with_waiting x (context_of xs bs)) b.waiting; formed = v.formed }
