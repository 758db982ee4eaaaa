-- The items that wait, one by one, and the batch's own. Assumes nothing.
use Rattle.std.specs.Prelude.{true, false, not, ◌&&◌, refl, ℕ, suc, ◌+◌, ◌*◌, ◌≤◌, ◌<◌, length, get_or, drop}
use Rattle.std.proofs.Common.{true≢false, ◌∙◌, add-one}
use mathlib.Core.List.{List, [], ◌∷◌}
use Rattle.std.specs.Prelude.{Option, None, Some}
use Rattle.std.proofs.Math.Path.{◌≡◌, sym, ap}
use native.Mathlib.Omega.{arith}
use Rattle.std.proofs.lemmas.Bool.{not-true}
use Rattle.maps.specs.BoolLaws.{both_left, both_right}
use Rattle.maps.specs.Lists.{every}
use Rattle.maps.specs.ListLaws.{every-head, every-tail}
use Rattle.rules.specs.Causes.{Cause, ByCause, Err, Result, Ok, and_then, in_order}
use Rattle.rules.specs.Items.{entries, LogItem, placed_at, placed_from, is_reserved, replay_rewrite, is_live_rewrite}
use Rattle.rules.specs.Checks.{long, is_out_of_range, is_other_queue, is_not_rewritable, meets3, unless_reserved, checks}
use Rattle.rules.specs.Context.{Context, limited, run}
use Rattle.rules_by_group.specs.Kept.{is_passed}
use Rattle.log_batch.specs.declared.item.LogItem as lent
use Rattle.log_batch.specs.Lent.{row_count_of, item_at, items_of, item_of}
use Rattle.stores.specs.Tags.{Tagged, store_tagged}
use Rattle.stores.specs.TagLaws.{length-tagged, with_here, with-past, with-end}
use Rattle.stores.specs.StoreLaws.{length-stored}
use Rattle.groups.specs.Undo.{Undoable}
use Rattle.lists.specs.Laws.{keeps_all, keeps_then}
use Rattle.room.specs.Rooms.{area_in, items_in}
use Rattle.room.specs.Layout.{store_of, room_of, context_cells, tagged, ContextRoom}
use Rattle.room.specs.LayoutLaws.{length-tags}
use Rattle.room.specs.LimitLaws.{room-few}
use Rattle.room.specs.Items.{ItemCopied}
use Rattle.deeds.specs.DeedLaws.{Clear}
use Rattle.contexts.specs.Contexts.{waiting_numbers, waiting_bytes, context_of, answer_as, Formed, RoomKept}
use Rattle.contexts.specs.AreaLaws.{room_all, room-then}
use Rattle.batches.specs.Runs.{ItemReady, Keeping, outcome_at, BackKept, Stepped}
use Rattle.batches.specs.OwnLaws.{keeping_step, item-clear}
use Rattle.batches.specs.BatchLaws.{run_from, run-start, run_end, run-done, run-refused}
use Rattle.writes.specs.Finishes.{waiting_count, stored_from, run_stored, TurnedFrom, Ran, HasAny}

-- ---- the way back

pub back_all : (xs bs : List ℕ) → Undoable xs bs → BackKept xs bs xs bs
back_all xs bs u = record { undo = record { undone = refl; undoable = u }; lists-keep = keeps_all _ _; room = room_all xs bs }

pub back-then : (xs bs ys ds zs es : List ℕ) → BackKept xs bs ys ds → BackKept ys ds zs es → BackKept xs bs zs es
back-then xs bs ys ds zs es a b =
    record {
      undo = record { undone = b.undo.undone ∙ a.undo.undone; undoable = b.undo.undoable };
      lists-keep = keeps_then _ _ _ _ _ _ a.lists-keep b.lists-keep;
      room = room-then xs bs ys ds zs es a.room b.room;
    }

-- ---- an item that passed the checks

pub passed-clear : (it : LogItem) → is_passed it ≡ true → is_reserved it.content ≡ false → Clear replay_rewrite it.content
unfolding is_passed meets3 unless_reserved is_not_rewritable is_live_rewrite
passed-clear it p r =
    let a = not (long it.content) in
    let b = not (meets3 replay_rewrite it.content) in
    let c = not (unless_reserved is_out_of_range 0 it) in
    let d = not (unless_reserved (is_other_queue replay_rewrite) 0 it) in
    let abc = both_left (a && b && c) d p in
    let ab = both_left (a && b) c abc in
    record {
      short = not-true (long it.content) (both_left a b ab);
      complete = rw r at (not-true (meets3 replay_rewrite it.content) (both_right a b ab));
      in-range = rw r at (not-true (unless_reserved is_out_of_range 0 it) (both_right (a && b) c abc));
      own-queue = rw r at (not-true (unless_reserved (is_other_queue replay_rewrite) 0 it) (both_right (a && b && c) d p));
      rewritable = refl;
    }

-- ---- the items that wait

-- how many they are
pub tagged-length : (ws vs : List ℕ) → ContextRoom ws vs → length (tagged ws vs) ≡ (store_of ws).items
unfolding items_in store_tagged
tagged-length ws vs r =
    let w = r.room.wf in
    let s = store_of ws in
    let a = area_in (room_of context_cells ws vs) in
    let n = length-stored s a w.stored in
    let t = length-tags context_cells ws vs r.room.numbers-are r.room.bytes-are in
    let f = (room-few ws vs r).0 in
    length-tagged (room_of context_cells ws vs).tags _ (omega arith) ∙ n

-- what is read past the end
abbrev pub nothing : Tagged
nothing = record { tag = 0; item = record { group = 0; content = entries [] } }

module _ (tag j : ℕ) (xs bs : List ℕ) (w : Formed xs bs) (h : j < waiting_count xs) where
  abbrev all : List Tagged
  all = tagged (waiting_numbers xs) (waiting_bytes bs)

  inside : j < length all
  inside = rw (tagged-length (waiting_numbers xs) (waiting_bytes bs) w.waiting) h

  -- item j has another tag
  module _ (n : ((get_or all j nothing).tag ≡ tag) → ⊥) where
    pub stored_past : stored_from tag j xs bs ≡ stored_from tag (suc j) xs bs
    unfolding stored_from
    stored_past = with-past tag all j nothing inside n

    pub turned-past : Undoable xs bs → Keeping replay_rewrite (context_of xs bs) → every is_passed (stored_from tag j xs bs) ≡ true → TurnedFrom tag j xs bs (Ok tt) xs bs
    unfolding run_stored and_then
    turned-past u k p =
        record {
          rule = λ q. ap (λ (l : List LogItem). run limited replay_rewrite (placed_at q l) (context_of xs bs)) stored_past;
          passed = rw stored_past at p;
          back = back_all xs bs u;
          own = λ e. k;
          formed = w;
        }

  -- item j has the tag
  module _ (e : (get_or all j nothing).tag ≡ tag) where
    pub stored_here : stored_from tag j xs bs ≡ (get_or all j nothing).item ∷ stored_from tag (suc j) xs bs
    unfolding stored_from
    stored_here = with_here tag all j nothing inside e

    module _ (p : every is_passed (stored_from tag j xs bs) ≡ true) (it : lent.LogItem) (es ds : List ℕ) (c : ItemCopied (waiting_numbers xs) (waiting_bytes bs) j it es ds) where
      item-is : stored_from tag j xs bs ≡ item_of it es ds ∷ stored_from tag (suc j) xs bs
      item-is = stored_here ∙ ap (λ (x : LogItem). x ∷ stored_from tag (suc j) xs bs) (c.is nothing)

      item-passed : is_passed (item_of it es ds) ≡ true
      item-passed = every-head is_passed (item_of it es ds) (stored_from tag (suc j) xs bs) (rw item-is at p)

      pub copied-ready : ItemReady replay_rewrite it es ds
      copied-ready = record { lent_is = c.lent; bare = c.bare; clear = passed-clear (item_of it es ds) item-passed }

      turned-rule : (r : ByCause (Unit {0})) (ys fs : List ℕ) → Stepped replay_rewrite (item_of it es ds) false xs bs r ys fs → (q : Option ℕ) → run_stored tag j xs bs q (context_of xs bs) ≡ and_then (outcome_at q r (context_of ys fs)) (run_stored tag (suc j) xs bs q)
      unfolding run_stored run in_order placed_at
      turned-rule r ys fs s q = rw (item-is, s.rule q)

      turned-own : (r : ByCause (Unit {0})) (ys fs : List ℕ) → Keeping replay_rewrite (context_of xs bs) → Stepped replay_rewrite (item_of it es ds) false xs bs r ys fs → r ≡ Ok tt → Keeping replay_rewrite (context_of ys fs)
      turned-own r ys fs k s d =
          let f = rw d at s in
          keeping_step replay_rewrite (record { item = item_of it es ds; place = None }) (context_of xs bs) (context_of ys fs) (λ y. passed-clear (item_of it es ds) item-passed) k (sym (f.rule None))

      pub turned_here : (r : ByCause (Unit {0})) (ys fs : List ℕ) → Keeping replay_rewrite (context_of xs bs) → Stepped replay_rewrite (item_of it es ds) false xs bs r ys fs → TurnedFrom tag j xs bs r ys fs
      turned_here r ys fs k s =
          record {
            rule = turned-rule r ys fs s;
            passed = every-tail is_passed (item_of it es ds) (stored_from tag (suc j) xs bs) (rw item-is at p);
            back = s.kept refl;
            own = turned-own r ys fs k s;
            formed = s.formed;
          }

pub stored-end : (tag j : ℕ) (xs bs : List ℕ) → Formed xs bs → waiting_count xs ≤ j → stored_from tag j xs bs ≡ []
unfolding stored_from
stored-end tag j xs bs w h =
    with-end tag (tagged (waiting_numbers xs) (waiting_bytes bs)) j nothing (rw (tagged-length (waiting_numbers xs) (waiting_bytes bs) w.waiting) h)

-- the same room has the same items
pub stored_same : (tag j : ℕ) (xs bs ys ds : List ℕ) → RoomKept xs bs ys ds → stored_from tag j ys ds ≡ stored_from tag j xs bs
unfolding stored_from
stored_same tag j xs bs ys ds k = rw (k.numbers, k.bytes)

pub count_same : (xs bs ys ds : List ℕ) → RoomKept xs bs ys ds → waiting_count ys ≡ waiting_count xs
unfolding store_of
count_same xs bs ys ds k = rw k.numbers

-- ---- the loop over them, from (xs, bs)

pub record StoredUnder (tag : ℕ) (xs bs : List ℕ) (j : ℕ) (ys ds : List ℕ) : Type 0 where
  pub rest : (p : Option ℕ) → run_stored tag j xs bs p (context_of ys ds) ≡ run_stored tag 0 xs bs p (context_of xs bs)
  pub passed : every is_passed (stored_from tag j xs bs) ≡ true
  pub back : BackKept xs bs ys ds
  pub own : Keeping replay_rewrite (context_of ys ds)
  pub formed : Formed ys ds

module _ (tag : ℕ) (xs bs : List ℕ) where
  pub stored-start : Formed xs bs → Undoable xs bs → Keeping replay_rewrite (context_of xs bs) → every is_passed (stored_from tag 0 xs bs) ≡ true → StoredUnder tag xs bs 0 xs bs
  stored-start w u k p = record { rest = λ q. refl; passed = p; back = back_all xs bs u; own = k; formed = w }

  module _ (j : ℕ) (ys ds : List ℕ) (s : StoredUnder tag xs bs j ys ds) where
    pub passed_now : every is_passed (stored_from tag j ys ds) ≡ true
    passed_now = rw (stored_same tag j xs bs ys ds s.back.room) s.passed

    run_same : (i : ℕ) (p : Option ℕ) (c : Context) → run_stored tag i ys ds p c ≡ run_stored tag i xs bs p c
    unfolding run_stored
    run_same i p c = rw (stored_same tag i xs bs ys ds s.back.room)

    module _ (r : ByCause (Unit {0})) (zs es : List ℕ) (t : TurnedFrom tag j ys ds r zs es) where
      turned : (p : Option ℕ) → and_then (outcome_at p r (context_of zs es)) (run_stored tag (suc j) ys ds p) ≡ run_stored tag 0 xs bs p (context_of xs bs)
      turned p = sym (t.rule p) ∙ run_same j p (context_of ys ds) ∙ s.rest p

      pub stored_more : r ≡ Ok tt → StoredUnder tag xs bs (j + 1) zs es
      stored_more d =
          record {
            rest = λ p. rw (add-one j) (sym (run_same (suc j) p (context_of zs es)) ∙ go p);
            passed = rw (add-one j, ← (stored_same tag (suc j) xs bs ys ds s.back.room)) t.passed;
            back = back-then xs bs ys ds zs es s.back t.back;
            own = t.own d;
            formed = t.formed;
          }
        where
          go : (p : Option ℕ) → run_stored tag (suc j) ys ds p (context_of zs es) ≡ run_stored tag 0 xs bs p (context_of xs bs)
          go p = unfold and_then in (rw d at (turned p))

      pub stored_refused : (n : Cause) (at : ℕ) → r ≡ Err n → Ran (run_stored tag 0 xs bs (Some at)) xs bs (Err (record { cause = n; place = Some at })) zs es
      stored_refused n at e =
          record {
            answers = unfold answer_as and_then in (rw e at (turned (Some at)));
            back = back-then xs bs ys ds zs es s.back t.back;
            own = λ a. absurd (accepted-not a);
            formed = t.formed;
          }
        where
          accepted-not : ◌≡◌ {A = Result (Unit {0})} (Err (record { cause = n; place = Some at })) (Ok tt) → ⊥
          accepted-not a = let z : ◌≡◌ {A = ℕ} 0 1 = cc in omega arith

    stored-ended : (p : Option ℕ) → waiting_count xs ≤ j → Formed xs bs → run_stored tag j xs bs p (context_of ys ds) ≡ Ok (context_of ys ds)
    unfolding run_stored run in_order placed_at
    stored-ended p h w = rw (stored-end tag j xs bs w h)

    pub stored_all : (at : ℕ) → waiting_count xs ≤ j → Formed xs bs → Ran (run_stored tag 0 xs bs (Some at)) xs bs (Ok tt) ys ds
    unfolding answer_as
    stored_all at h w =
        record { answers = sym (stored-ended (Some at) h w) ∙ s.rest (Some at); back = s.back; own = λ a. s.own; formed = s.formed }

-- ---- whether an item waits with a tag

module _ (tag : ℕ) (xs bs : List ℕ) (w : Formed xs bs) (j : ℕ) (s : stored_from tag j xs bs ≡ stored_from tag 0 xs bs) where
  pub any_here : j < waiting_count xs → (get_or (tagged (waiting_numbers xs) (waiting_bytes bs)) j nothing).tag ≡ tag → HasAny true (stored_from tag 0 xs bs)
  any_here h e = record { none = λ f. absurd (true≢false f); any = λ t z. absurd (cons-not (sym (stored_here tag j xs bs w h e) ∙ s ∙ z)) }
    where
      cons-not : {x : LogItem} {l : List LogItem} → x ∷ l ≡ [] → ⊥
      cons-not z = let k : ◌≡◌ {A = ℕ} 1 0 = cc in omega arith

  pub any-past : j < waiting_count xs → ((get_or (tagged (waiting_numbers xs) (waiting_bytes bs)) j nothing).tag ≡ tag → ⊥) → stored_from tag (j + 1) xs bs ≡ stored_from tag 0 xs bs
  any-past h n = rw (add-one j) (sym (stored_past tag j xs bs w h n) ∙ s)

  pub any_none : waiting_count xs ≤ j → HasAny false (stored_from tag 0 xs bs)
  any_none h = record { none = λ f. sym s ∙ stored-end tag j xs bs w h; any = λ t. absurd (true≢false (sym t)) }

-- ---- the loop over the batch's own items, from (ys, ds)

pub record OwnUnder (items es bs : List ℕ) (n : ℕ) (ys ds : List ℕ) (i : ℕ) (xs fs : List ℕ) : Type 0 where
  pub rest : run_from replay_rewrite items es bs n i (context_of xs fs) ≡ run_from replay_rewrite items es bs n 0 (context_of ys ds)
  pub back : BackKept ys ds xs fs
  pub own : Keeping replay_rewrite (context_of xs fs)
  pub formed : Formed xs fs

module _ (items es bs : List ℕ) (n : ℕ) (q : n ≡ row_count_of items) (ys ds : List ℕ) where
  pub own-start : Formed ys ds → Undoable ys ds → Keeping replay_rewrite (context_of ys ds) → OwnUnder items es bs n ys ds 0 ys ds
  own-start w u k = record { rest = refl; back = back_all ys ds u; own = k; formed = w }

  abbrev runs : Context → Result Context
  runs = run limited replay_rewrite (placed_from 0 (items_of items es bs))

  module _ (i : ℕ) (xs fs : List ℕ) (u : OwnUnder items es bs n ys ds i xs fs) where
    abbrev here : LogItem
    here = item_at es bs (drop (i * 9) items)

    pub own-more : i < n → checks replay_rewrite (items_of items es bs) ≡ None → (zs gs : List ℕ) → Stepped replay_rewrite here false xs fs (Ok tt) zs gs → OwnUnder items es bs n ys ds (i + 1) zs gs
    own-more l p zs gs s =
        record {
          rest = sym (run-done replay_rewrite items es bs n i (context_of xs fs) (context_of zs gs) l (sym (s.rule (Some i)))) ∙ u.rest;
          back = back-then ys ds xs fs zs gs u.back (s.kept refl);
          own = keeping_step replay_rewrite (record { item = here; place = Some i }) (context_of xs fs) (context_of zs gs) (item-clear replay_rewrite items es bs i p (rw q at l)) u.own (sym (s.rule (Some i)));
          formed = s.formed;
        }

    pub own-refused : i < n → (k : Cause) (zs gs : List ℕ) → Stepped replay_rewrite here false xs fs (Err k) zs gs → Ran runs ys ds (Err (record { cause = k; place = Some i })) zs gs
    own-refused l k zs gs s =
        record {
          answers = unfold answer_as in (sym (run-refused replay_rewrite items es bs n i (context_of xs fs) _ l (sym (s.rule (Some i)))) ∙ u.rest ∙ run-start replay_rewrite items es bs n (context_of ys ds) q);
          back = back-then ys ds xs fs zs gs u.back (s.kept refl);
          own = λ a. absurd (accepted-not a);
          formed = s.formed;
        }
      where
        accepted-not : ◌≡◌ {A = Result (Unit {0})} (Err (record { cause = k; place = Some i })) (Ok tt) → ⊥
        accepted-not a = let z : ◌≡◌ {A = ℕ} 0 1 = cc in omega arith

    pub own_all : n ≤ i → Ran runs ys ds (Ok tt) xs fs
    unfolding answer_as
    own_all l =
        record {
          answers = sym (run_end replay_rewrite items es bs n i (context_of xs fs) l) ∙ u.rest ∙ run-start replay_rewrite items es bs n (context_of ys ds) q;
          back = u.back;
          own = λ a. u.own;
          formed = u.formed;
        }
