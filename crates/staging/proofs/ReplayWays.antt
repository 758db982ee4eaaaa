-- The ways of an item of a finished part on the work table, and the items one after the other. Assumes nothing.
use mathlib.Core.Bool.{Bool, true, false, not, ◌&&◌}
use mathlib.Core.List.{List, [], ◌∷◌}
use Rattle.std.specs.Prelude.{Option}
use mathlib.Core.Path.{◌≡◌, refl, sym, ap, ◌∙◌}
use Prim.Native.Nat.{ℕ, ◌+◌, ◌*◌, ◌/◌, ◌≤◌, ◌<◌}
use native.Mathlib.Omega.{arith}
use lib.ListN.{length, get_or, drop}
use borrow.Author.Tests.{not-true}
use Rattle.maps.specs.Lists.{every, sum}
use Rattle.maps.specs.BoolLaws.{both_left, both_right}
use Rattle.maps.specs.ListLaws.{every-head, every-tail}
use Rattle.rules.specs.Causes.{Ok, left}
use Rattle.rules.specs.Items as rules
use Rattle.rules.specs.Checks.{long, is_out_of_range, is_other_queue, is_not_rewritable, is_incomplete, meets3, unless_reserved}
use Rattle.rules.specs.Table.{Table, made, change, command_to}
use Rattle.rules.specs.Context.{entries_in}
use Rattle.rules_by_group.specs.Group.{changed, replayed_items}
use Rattle.rules_by_group.specs.Kept.{each_entry, entry_by, is_passed}
use Rattle.rules_by_group.proofs.EntryLaws.{changed-meets}
use Rattle.rules_by_group.proofs.RoomLaws.{within_more, item_room}
use Rattle.rules_by_group.specs.Kept.{Within}
use Rattle.rules_by_group.proofs.WaitingLaws.{replay-changed}
use Rattle.log_batch.specs.declared.causes.Call as call
use Rattle.log_batch.specs.declared.item.LogItem.{LogItem}
use Rattle.log_batch.specs.Lent.{item_of, content_of}
use Rattle.log_batch.specs.Judged.{call_of}
use Rattle.log_batch.specs.OpenLaws.{Bare, opened_bare}
use Rattle.stores.specs.declared.Store.{Store}
use Rattle.stores.specs.Stores.{Area, Stored, ItemAt}
use Rattle.stores.specs.Tags.{store_tagged, items_with}
use Rattle.stores.specs.Written.{Lent}
use Rattle.deeds.specs.declared.Deed as deed
use Rattle.deeds.specs.Deeds.{rows_in, key_in, value_in, deed_of}
use Rattle.deeds.specs.DeedLaws.{Clear, DeedSays, deed-says}
use Rattle.worktable.specs.Work.{work_in, Wf}
use Rattle.worktable.specs.Calls.{Becomes, deed_to, ReadyTo, Taken}
use Rattle.parts.specs.ItemLaws.{here-is, past_is, end_is, an_item}
use Rattle.staging.specs.Replays.{of_rewrite, replayed, Replayable, Replaying}

-- ---- one item

not_incomplete : (x : rules.Content) → rules.is_reserved x ≡ false → meets3 rules.replay_rewrite x ≡ false → is_incomplete rules.replay_rewrite x ≡ false
unfolding meets3
not_incomplete x r e = rw r at e

not-met : (p : rules.Content → Bool) (it : rules.LogItem) → rules.is_reserved it.content ≡ false → unless_reserved p 0 it ≡ false → p it.content ≡ false
unfolding unless_reserved
not-met p it r e = rw r at e

-- what the checks said of an item that waited
passed-clear : (it : rules.LogItem) → is_passed it ≡ true → rules.is_reserved it.content ≡ false → Clear rules.replay_rewrite it.content
unfolding is_passed
passed-clear it p r =
    let x = it.content in
    let a = not (long x) in
    let b = not (meets3 rules.replay_rewrite x) in
    let d = not (unless_reserved is_out_of_range 0 it) in
    let e = not (unless_reserved (is_other_queue rules.replay_rewrite) 0 it) in
    record {
      short = not-true (long x) (both_left a b (both_left (a && b) d (both_left (a && b && d) e p)));
      complete = not_incomplete x r (not-true (meets3 rules.replay_rewrite x) (both_right a b (both_left (a && b) d (both_left (a && b && d) e p))));
      in-range = not-met is_out_of_range it r (not-true (unless_reserved is_out_of_range 0 it) (both_right (a && b) d (both_left (a && b && d) e p)));
      own-queue = not-met (is_other_queue rules.replay_rewrite) it r (not-true (unless_reserved (is_other_queue rules.replay_rewrite) 0 it) (both_right (a && b && d) e p));
      rewritable = unfold is_not_rewritable rules.is_live_rewrite in refl;
    }

-- what a deed asks, and gives
pub record Replays (d : deed.Deed) (rows key value : List ℕ) (x : rules.Content) (o : Option Table) : Type 0 where
  pub ready : ReadyTo d rows key value o
  pub rule : deed_to d rows key value o ≡ changed rules.replay_rewrite x o

says-replays : (d : deed.Deed) (x : rules.Content) (rows key value : List ℕ) (o : Option Table) → DeedSays d rules.replay_rewrite x rows key value → every rules.is_rewrite (made o).entries ≡ true → Replays d rows key value x o
unfolding DeedSays deed_to ReadyTo changed rules.is_live_rewrite
says-replays deed.TheVariants.Skip x rows key value o s h = record { ready = tt; rule = rw s }
says-replays deed.TheVariants.Clean x rows key value o s h = record { ready = tt; rule = rw s.0 (unfold change command_to rules.is_reserved in refl) }
says-replays (deed.TheVariants.Change ch) x rows key value o s h =
    record { ready = s.ready (made o) (λ u. h); rule = sym (rw s.not-reserved (s.rule o)) }

module _ (it : LogItem) (es bs : List ℕ) (o : Option Table) (l : Lent it (length es) (length bs)) (d : Bare it.content) (r : Replayable (item_of it es bs ∷ []) o) where
  abbrev its : deed.Deed
  its = deed_of call.TheVariants.ReplayRewrite it.content es bs

  abbrev what : rules.LogItem
  what = item_of it es bs

  clear : rules.is_reserved (content_of it.content es bs) ≡ false → Clear (call_of call.TheVariants.ReplayRewrite) (content_of it.content es bs)
  unfolding call_of item_of
  clear n = passed-clear (item_of it es bs) (every-head is_passed (item_of it es bs) [] r.passed) n

  only : every rules.is_rewrite (made o).entries ≡ true
  unfolding entry_by rules.is_rewrite
  only = r.older

  says : Replays its (rows_in it.content es) (key_in it.content bs) (value_in it.content bs) (content_of it.content es bs) o
  unfolding call_of
  says = says-replays its (content_of it.content es bs) _ _ _ o (deed-says call.TheVariants.ReplayRewrite it.content es bs l.within d clear) only

  gives : deed_to its (rows_in it.content es) (key_in it.content bs) (value_in it.content bs) o ≡ Ok (replayed what o)
  unfolding replayed item_of
  gives = says.rule ∙ replay-changed (content_of it.content es bs) o

  gives_left : left o (deed_to its (rows_in it.content es) (key_in it.content bs) (value_in it.content bs) o) ≡ replayed what o
  gives_left = ap (left o) gives ∙ (unfold left in refl)

  room : Within 384 160 (replayed what o)
  unfolding replayed sum
  room =
      let w : Within (length (made o).entries) (length (made o).keys) o = record { few-entries = omega arith; few-keys = omega arith } in
      let m = r.rows in
      let n = r.keys in
      within_more (length (made o).entries + entries_in what) (length (made o).keys + 1) 384 160 _ (omega (arith, m)) (omega (arith, n)) (item_room (length (made o).entries) (length (made o).keys) o w what)

  -- what the work table asks
  pub replayed-taken : Taken its (rows_in it.content es) (key_in it.content bs) (value_in it.content bs) o
  replayed-taken = record { ready = says.ready; taken = gives ∙ ap Ok (sym gives_left); room = rw gives_left room }

  pub replayed_becomes : (p b : List ℕ) → Becomes (left o (deed_to its (rows_in it.content es) (key_in it.content bs) (value_in it.content bs) o)) p b → Becomes (replayed what o) p b
  replayed_becomes p b k = record { is = k.is ∙ gives_left; wf = k.wf }

-- ---- one after the other

module _ (x : rules.LogItem) (xs : List rules.LogItem) (o : Option Table) (r : Replayable (x ∷ xs) o) where
  pub first_replayable : Replayable (x ∷ []) o
  unfolding sum
  first_replayable =
      let m = r.rows in
      let n = r.keys in
      record {
        passed = unfold every in rw (every-head is_passed x xs r.passed);
        own = unfold every in rw (every-head (λ (it : rules.LogItem). each_entry of_rewrite it.content) x xs r.own);
        older = r.older;
        rows = omega (arith, m);
        keys = omega (arith, n);
      }

  pub rest_replayable : Replayable xs (replayed x o)
  unfolding replayed sum
  rest_replayable =
      let w : Within (length (made o).entries) (length (made o).keys) o = record { few-entries = omega arith; few-keys = omega arith } in
      let k = item_room (length (made o).entries) (length (made o).keys) o w x in
      let m = r.rows in
      let n = r.keys in
      let a = k.few-entries in
      let b = k.few-keys in
      record {
        passed = every-tail is_passed x xs r.passed;
        own = every-tail (λ (it : rules.LogItem). each_entry of_rewrite it.content) x xs r.own;
        older = changed-meets of_rewrite rules.replay_rewrite x.content o _ (every-head (λ (it : rules.LogItem). each_entry of_rewrite it.content) x xs r.own) r.older (replay-changed x.content o);
        rows = omega (arith, m, a);
        keys = omega (arith, n, b);
      }

  -- the first is replayed
  pub one-replayed : (p b : List ℕ) → Becomes (replayed x o) p b → Replaying (x ∷ xs) o xs p b
  one-replayed p b k =
      record {
        whole = ap (replayed_items xs) k.is ∙ (unfold replayed_items replayed in refl);
        ready = rw k.is rest_replayable;
        wf = k.wf;
      }

-- none is replayed yet
pub replaying_none : (xs : List rules.LogItem) (p b : List ℕ) → Wf p b → Replayable xs (work_in p b) → Replaying xs (work_in p b) xs p b
replaying_none xs p b w r = record { whole = refl; ready = r; wf = w }

pub replaying_then : (xs : List rules.LogItem) (o : Option Table) (rest more : List rules.LogItem) (p b p' b' : List ℕ) → Replaying xs o rest p b → Replaying rest (work_in p b) more p' b' → Replaying xs o more p' b'
replaying_then xs o rest more p b p' b' k n = record { whole = n.whole ∙ k.whole; ready = n.ready; wf = n.wf }

pub replaying_all : (xs : List rules.LogItem) (o : Option Table) (rest : List rules.LogItem) (p b : List ℕ) → rest ≡ [] → Replaying xs o rest p b → Becomes (replayed_items xs o) p b
unfolding replayed_items
replaying_all xs o rest p b e k = record { is = rw e at k.whole; wf = k.wf }

-- ---- the items of a store that have a tag

module _ (s : Store) (a : Area) (ts : List ℕ) (v : Stored s a) (n : s.items ≤ length ts) (t j : ℕ) (l : j < s.items) (p b : List ℕ) (r : Replayable (items_with t (drop j (store_tagged s a ts))) (work_in p b)) where
  pub other-replayed : (get_or ts j 0 ≡ t → ⊥) → Wf p b → Replaying (items_with t (drop j (store_tagged s a ts))) (work_in p b) (items_with t (drop (j + 1) (store_tagged s a ts))) p b
  other-replayed e w = rw (← past_is s a ts v n t j l an_item e) (replaying_none (items_with t (drop j (store_tagged s a ts))) p b w r)

  module _ (it : LogItem) (at : ItemAt s a j it) (e : get_or ts j 0 ≡ t) where
    pub at_replayable : Replayable (item_of it a.entries a.bytes ∷ []) (work_in p b)
    at_replayable = first_replayable _ _ _ (rw (here-is s a ts v n t j l an_item it at e) at r)

    pub at_bare : Bare it.content
    at_bare = opened_bare (drop (j * 9) a.items) (length a.entries / 8) (length a.bytes) it at.opens

    pub at-replayed : (p' b' : List ℕ) → Becomes (replayed (item_of it a.entries a.bytes) (work_in p b)) p' b' → Replaying (items_with t (drop j (store_tagged s a ts))) (work_in p b) (items_with t (drop (j + 1) (store_tagged s a ts))) p' b'
    at-replayed p' b' k =
        rw (here-is s a ts v n t j l an_item it at e) (one-replayed _ _ _ (rw (here-is s a ts v n t j l an_item it at e) at r) p' b' k)

pub all_replayed : (s : Store) (a : Area) (ts : List ℕ) → Stored s a → s.items ≤ length ts → (t j : ℕ) (o : Option Table) (p b : List ℕ) → s.items ≤ j → Replaying (items_with t (store_tagged s a ts)) o (items_with t (drop j (store_tagged s a ts))) p b → Becomes (replayed_items (items_with t (store_tagged s a ts)) o) p b
all_replayed s a ts v n t j o p b h k = replaying_all _ o _ p b (end_is s a ts v n t j an_item h) k
