-- What every entry of a table and of an item meets, every entry of the table meets afterwards: by a batch's items, by a merge and by a join.
-- Assumes nothing.
use Rattle.std.specs.Prelude.{◌≡◌, Bool, ◌&&◌, ℕ, eqb}
use Rattle.std.proofs.Math.Path.{refl, ap}
use Rattle.std.proofs.Common.{sym, ◌∙◌}
use Rattle.std.proofs.Math.Bool.{true, false, not}
use mathlib.Core.List.{List, [], ◌∷◌, ◌++◌}
use Rattle.std.specs.Prelude.{Option, None, Some}
use Rattle.std.proofs.lemmas.Option.{none-some, same_Some}
use Rattle.std.proofs.Math.Dec.{leb, ltb}
use Rattle.maps.specs.Lists.{every, last, or_else}
use Rattle.maps.specs.Maps.{lookup, bytes}
use Rattle.maps.specs.BoolLaws.{both, both_left, both_right}
use Rattle.maps.specs.ListLaws.{every_append, every-head, every-tail, every-cons, every-from, every-selected}
use Rattle.maps.specs.OrderLaws.{split}
use Rattle.rules.specs.Causes.{Result, Ok, left}
use Rattle.rules.specs.Items.{LogQueue, Append, Rewrite, FileId, EntryIndex, is_rewrite, Command, clean, compact, Change, put, del, Content, entries, command, kv, LogItem, is_reserved, Call, replay_append, replay_rewrite, live_append, live_rewrite, is_live_rewrite}
use Rattle.rules.specs.Table.{Held, Span, Table, empty_table, made, with_entries, with_keys, with_span, span_goes_back, spanned, first_index_of, is_below_first, is_above_last, entries_below, entries_from, over, over_gap, appended, replayed_rewrite, compacted, replaces, replaced, stops_at, meets_rewrite, rewrite_overlap, rewritten, put_key, delete_key, rewrite_file, rewritten_key, put_held, entries_to, put_to, change_to, command_to, change}
use Rattle.rules.specs.Context.{context, Part}
use Rattle.rules.specs.Waiting.{Accepted, wait, finish, back, accept}
use Rattle.rules.specs.Calls.{clashes, over_of, merge_table}
use Rattle.rules_by_group.specs.Group.{changed, effect, effected, tombed, parts_of, Finished, finished_by, finished_of, replayed_items, finish_with, finish_table, lay_over, merged_group}
use Rattle.rules_by_group.specs.Kept.{entry_by, each_entry, is_passed, is_own, own_items, own_parts}
use Rattle.rules_by_group.proofs.ResultLaws.{ok_inj, refused_not_ok, by_option, and_then_ok}
use Rattle.rules_by_group.proofs.PartLaws.{own-items-append, OwnAccepted, own_old, accept-own}
use Rattle.rules_by_group.proofs.WaitingLaws.{replay-changed}

-- ---- what leaves the entries

put-leaves : (k : List ℕ) (v : Option (List ℕ)) (f : Option FileId) (t : Table) → (put_held k v f t).entries ≡ t.entries
unfolding put_held put_key with_keys
put-leaves k None None t = refl
put-leaves k None (Some f) t = refl
put-leaves k (Some v) None t = refl
put-leaves k (Some v) (Some f) t = refl

key-leaves : (k : List ℕ) (gate : Option ℕ) (s : ℕ) (t u : Table) → rewritten_key k gate s t ≡ Ok u → t.entries ≡ u.entries
unfolding rewritten_key or_else
key-leaves k gate s t u e =
    by_option (lookup bytes k t.keys)
    (λ a. ap (λ (v : Table). v.entries) (ok_inj (rw a at e)))
    (λ h a. let r = and_then_ok (rewrite_file h.file.queue gate s h) (λ g. Ok (put_key k g t)) u (rw a at e) in moved r.0 r.2)
  where
    moved : (g : Held) → ◌≡◌ {A = Result Table} (Ok (put_key k g t)) (Ok u) → t.entries ≡ u.entries
    moved g z = unfold put_key with_keys in ap (λ (v : Table). v.entries) (ok_inj z)

put_to-leaves : (call : Call) (k : List ℕ) (v : Option (List ℕ)) (f : Option FileId) (t u : Table) → put_to call k v f t ≡ Ok u → t.entries ≡ u.entries
unfolding put_to
put_to-leaves replay_append k v f t u e = sym (put-leaves k v f t) ∙ ap (λ (w : Table). w.entries) (ok_inj e)
put_to-leaves replay_rewrite k v f t u e = sym (put-leaves k v f t) ∙ ap (λ (w : Table). w.entries) (ok_inj e)
put_to-leaves live_append k v f t u e = sym (put-leaves k v f t) ∙ ap (λ (w : Table). w.entries) (ok_inj e)
put_to-leaves (live_rewrite gate s) k v f t u e = key-leaves k gate s t u e

change_to-leaves : (call : Call) (k : List ℕ) (c : Change) (t u : Table) → change_to call k c t ≡ Ok u → t.entries ≡ u.entries
unfolding change_to
change_to-leaves call k (put v f) t u e = put_to-leaves call k v f t u e
change_to-leaves call k del t u e = unfold delete_key with_keys in ap (λ (w : Table). w.entries) (ok_inj e)

module _ (p : EntryIndex → Bool) where
  -- ---- lists of entries

  below-meets : (s : ℕ) (es : List EntryIndex) → every p es ≡ true → every p (entries_below s es) ≡ true
  unfolding entries_below
  below-meets s es h = every-selected p (λ (e : EntryIndex). ltb e.index s) es h

  from-meets : (s : ℕ) (es : List EntryIndex) → every p es ≡ true → every p (entries_from s es) ≡ true
  unfolding entries_from
  from-meets s es h = every-selected p (λ (e : EntryIndex). leb s e.index) es h

  pub over-meets : (older es : List EntryIndex) → every p older ≡ true → every p es ≡ true → every p (over older es) ≡ true
  unfolding over
  over-meets older [] h k = h
  over-meets older (e ∷ es) h k = every_append p (entries_below e.index older) (e ∷ es) ∙ both (below-meets e.index older h) k

  pub gap_meets : (older es : List EntryIndex) → every p older ≡ true → every p es ≡ true → every p (over_gap older es) ≡ true
  unfolding over_gap
  gap_meets older [] h k = h
  gap_meets older (e ∷ es) h k = split (is_above_last e.index older) (λ s. rw s k) (λ s. rw s (over-meets older (e ∷ es) h k))

  replaced-meets : (gate : Option ℕ) (es rs : List EntryIndex) → every p es ≡ true → every p rs ≡ true → every p (replaced gate es rs) ≡ true
  unfolding replaced
  replaced-meets gate [] rs h k = h
  replaced-meets gate (e ∷ es) [] h k = h
  replaced-meets gate (e ∷ es) (r ∷ rs) h k =
      split (replaces gate e)
      (λ s. rw s (every-cons p r (replaced gate es rs) (every-head p r rs k) (replaced-meets gate es rs (every-tail p e es h) (every-tail p r rs k))))
      (λ s. rw s h)

  overlap-meets : (gate : Option ℕ) (before es rs l : List EntryIndex) → every p before ≡ true → every p es ≡ true → every p rs ≡ true → rewrite_overlap gate before es rs ≡ Ok l → every p l ≡ true
  unfolding rewrite_overlap
  overlap-meets gate before [] rs l b h k e = rw (ok_inj e) at b
  overlap-meets gate before (x ∷ es) [] l b h k e = ap (every p) (sym (ok_inj e)) ∙ every_append p before (x ∷ es) ∙ both b h
  overlap-meets gate before (x ∷ es) (r ∷ rs) l b h k e =
      split (or_else false (λ y. not (is_rewrite y)) (last before))
      (λ s. absurd (refused_not_ok (rw s at e)))
      (λ s. split (meets_rewrite gate (stops_at gate (x ∷ es) (r ∷ rs)))
      (λ m. absurd (refused_not_ok (rw (s, m) at e)))
      (λ m. ap (every p) (sym (ok_inj (rw (s, m) at e))) ∙ every_append p before (replaced gate (x ∷ es) (r ∷ rs)) ∙ both b (replaced-meets gate (x ∷ es) (r ∷ rs) h k)))

  -- ---- one table

  appended-meets : (live : Bool) (es : List EntryIndex) (t u : Table) → every p es ≡ true → every p t.entries ≡ true → appended live es t ≡ Ok u → every p u.entries ≡ true
  unfolding appended
  appended-meets live [] t u k h e = rw (ok_inj e) at h
  appended-meets live (x ∷ es) t u k h e =
      split (live && is_below_first x.index t.entries)
      (λ s. absurd (refused_not_ok (rw s at e)))
      (λ s. split (is_above_last x.index t.entries)
      (λ m. absurd (refused_not_ok (rw (s, m) at e)))
      (λ m. ap (λ (v : Table). every p v.entries) (sym (ok_inj (rw (s, m) at e))) ∙ (unfold with_entries in over-meets t.entries (x ∷ es) h k)))

  rewrite-replayed : (es : List EntryIndex) (t : Table) → every p es ≡ true → every p t.entries ≡ true → every p (replayed_rewrite es t).entries ≡ true
  unfolding replayed_rewrite with_entries
  rewrite-replayed es t k h = gap_meets t.entries es h k

  rewritten-meets : (gate : Option ℕ) (rs : List EntryIndex) (t u : Table) → every p rs ≡ true → every p t.entries ≡ true → rewritten gate rs t ≡ Ok u → every p u.entries ≡ true
  unfolding rewritten or_else
  rewritten-meets gate rs t u k h e =
      by_option (first_index_of rs)
      (λ a. rw (ok_inj (rw a at e)) at h)
      (λ s a. by_option (first_index_of t.entries)
      (λ b. rw (ok_inj (rw (a, b) at e)) at h)
      (λ f b. laid_in s f (and_then_ok (rewrite_overlap gate (entries_below s t.entries) (entries_from s t.entries) (entries_from f rs)) (λ es. Ok (with_entries es t)) u (rw (a, b) at e))))
    where
      laid_in : (s f : ℕ) → (es : List EntryIndex) × (rewrite_overlap gate (entries_below s t.entries) (entries_from s t.entries) (entries_from f rs) ≡ Ok es) × ◌≡◌ {A = Result Table} (Ok (with_entries es t)) (Ok u) → every p u.entries ≡ true
      laid_in s f r =
          ap (λ (v : Table). every p v.entries) (sym (ok_inj r.2))
          ∙ (unfold with_entries in overlap-meets gate (entries_below s t.entries) (entries_from s t.entries) (entries_from f rs) r.0 (below-meets s t.entries h) (from-meets s t.entries h) (from-meets f rs k) r.1)

  entries-meet : (call : Call) (es : List EntryIndex) (t u : Table) → every p es ≡ true → every p t.entries ≡ true → entries_to call es t ≡ Ok u → every p u.entries ≡ true
  unfolding entries_to
  entries-meet replay_append es t u k h e = appended-meets false es t u k h e
  entries-meet replay_rewrite es t u k h e = ap (λ (v : Table). every p v.entries) (sym (ok_inj e)) ∙ rewrite-replayed es t k h
  entries-meet live_append es t u k h e = appended-meets true es t u k h e
  entries-meet (live_rewrite gate s) es t u k h e = rewritten-meets gate es t u k h e

  -- ---- one item

  made_nothing : every p (made None).entries ≡ true
  unfolding made or_else empty_table every
  made_nothing = refl

  command-meets : (call : Call) (c : Command) (o : Option Table) → every p (made o).entries ≡ true → every p (made (command_to call c o)).entries ≡ true
  unfolding command_to
  command-meets call clean o h = split (is_live_rewrite call) (λ e. rw e (unfold made or_else in h)) (λ e. rw e made_nothing)
  command-meets call (compact i) o h = unfold made or_else compacted with_entries in from-meets i (made o).entries h

  some-made : (t : Table) (o : Option Table) → ◌≡◌ {A = Result (Option Table)} (Ok (Some t)) (Ok o) → every p t.entries ≡ true → every p (made o).entries ≡ true
  unfolding made or_else
  some-made t o e h = rw (← (ok_inj e)) h

  change-meets : (call : Call) (x : Content) (o t : Option Table) → each_entry p x ≡ true → every p (made o).entries ≡ true → change call x o ≡ Ok t → every p (made t).entries ≡ true
  unfolding change each_entry
  change-meets call (entries es) o t k h e =
      let s = and_then_ok (entries_to call es (made o)) (λ x. Ok (Some x)) t e in
      some-made s.0 t s.2 (entries-meet call es (made o) s.0 k h s.1)
  change-meets call (command c) o t k h e = rw (← (ok_inj e)) (command-meets call c o h)
  change-meets call (kv y c) o t k h e =
      let s = and_then_ok (change_to call y c (made o)) (λ x. Ok (Some x)) t e in
      some-made s.0 t s.2 (rw (change_to-leaves call y c (made o) s.0 s.1) at h)

  -- what an item's entries and its table's meet, the table's meet afterwards
  pub changed-meets : (call : Call) (x : Content) (o t : Option Table) → each_entry p x ≡ true → every p (made o).entries ≡ true → changed call x o ≡ Ok t → every p (made t).entries ≡ true
  unfolding changed
  changed-meets call x o t k h e =
      split (is_reserved x)
      (λ s. rw (ok_inj (rw s at e)) at h)
      (λ s. change-meets call x o t k h (rw s at e))

  -- ---- one group of a merge

  pub items-meet : (xs : List LogItem) (o : Option Table) → every (λ (it : LogItem). each_entry p it.content) xs ≡ true → every p (made o).entries ≡ true → every p (made (replayed_items xs o)).entries ≡ true
  unfolding replayed_items
  items-meet [] o k h = h
  items-meet (x ∷ xs) o k h =
      items-meet xs (left o (changed replay_rewrite x.content o)) (every-tail (λ (it : LogItem). each_entry p it.content) x xs k)
      (changed-meets replay_rewrite x.content o (left o (changed replay_rewrite x.content o)) (every-head (λ (it : LogItem). each_entry p it.content) x xs k) h (replay-changed x.content o))

  pub spanned-meets : (s : Span) (t u : Table) → every p t.entries ≡ true → spanned s t ≡ Ok u → every p u.entries ≡ true
  unfolding spanned
  spanned-meets s t u h e =
      split (span_goes_back t.span s)
      (λ b. absurd (refused_not_ok (rw b at e)))
      (λ b. ap (λ (v : Table). every p v.entries) (sym (ok_inj (rw b at e))) ∙ (unfold with_span in h))

  finish_with-meets : (s : Span) (xs : List LogItem) (o t : Option Table) → every (λ (it : LogItem). each_entry p it.content) xs ≡ true → every p (made o).entries ≡ true → finish_with s xs o ≡ Ok t → every p (made t).entries ≡ true
  unfolding finish_with
  finish_with-meets s [] o t k h e = rw (ok_inj e) at h
  finish_with-meets s (x ∷ xs) o t k h e =
      let r = and_then_ok (spanned s (made (replayed_items (x ∷ xs) o))) (λ u. Ok (Some u)) t e in
      some-made r.0 t r.2 (spanned-meets s (made (replayed_items (x ∷ xs) o)) r.0 (items-meet (x ∷ xs) o k h) r.1)

  -- the entries of the items that finish
  unfoldable pub finished_meets : Option Finished → Bool
  finished_meets f = or_else true (λ (x : Finished). every (λ (it : LogItem). each_entry p it.content) x.items) f

  finish-meets : (f : Option Finished) (o t : Option Table) → finished_meets f ≡ true → every p (made o).entries ≡ true → finish_table f o ≡ Ok t → every p (made t).entries ≡ true
  unfolding finish_table finished_meets or_else
  finish-meets None o t k h e = rw (ok_inj e) at h
  finish-meets (Some f) o t k h e = finish_with-meets f.span f.items o t k h e

  effect-meets : (x : Content) (o : Option Table) → every p (made o).entries ≡ true → every p (made (effect x o)).entries ≡ true
  unfolding effect
  effect-meets (entries es) o h = h
  effect-meets (command clean) o h = made_nothing
  effect-meets (command (compact i)) o h = unfold made or_else compacted with_entries in from-meets i (made o).entries h
  effect-meets (kv k (put v f)) o h = h
  effect-meets (kv k del) o h = unfold made or_else delete_key with_keys in h

  effected-meets : (x : Content) (o : Option Table) → every p (made o).entries ≡ true → every p (made (effected x o)).entries ≡ true
  unfolding effected
  effected-meets x o h = split (is_reserved x) (λ e. rw e h) (λ e. rw e (effect-meets x o h))

  pub tombed-meets : (g : ℕ) (xs : List LogItem) (o : Option Table) → every p (made o).entries ≡ true → every p (made (tombed g xs o)).entries ≡ true
  unfolding tombed
  tombed-meets g [] o h = h
  tombed-meets g (x ∷ xs) o h =
      split (eqb x.group g)
      (λ e. rw e (tombed-meets g xs (effected x.content o) (effected-meets x.content o h)))
      (λ e. rw e (tombed-meets g xs o h))

  merge-meets : (q : LogQueue) (o : Option Table) (newer : Table) → every p (made o).entries ≡ true → every p newer.entries ≡ true → every p (merge_table q o newer).entries ≡ true
  unfolding merge_table with_span with_keys over_of with_entries
  merge-meets Append o newer h k = over-meets (made o).entries newer.entries h k
  merge-meets Rewrite o newer h k = gap_meets (made o).entries newer.entries h k

  lay-meets : (q : LogQueue) (newer o t : Option Table) → every p (made newer).entries ≡ true → every p (made o).entries ≡ true → lay_over q newer o ≡ Ok t → every p (made t).entries ≡ true
  unfolding lay_over
  lay-meets q None o t k h e = rw (ok_inj e) at h
  lay-meets q (Some newer) o t k h e =
      split (clashes q o newer)
      (λ s. absurd (refused_not_ok (rw s at e)))
      (λ s. some-made (merge_table q o newer) t (rw s at e) (merge-meets q o newer h (unfold made or_else in k)))

  -- what the entries of both tables and of the items that finish meet, those of the merged table meet
  pub merged-meets : (q : LogQueue) (g : ℕ) (f : Option Finished) (tombs : List LogItem) (newer o t : Option Table) → finished_meets f ≡ true → every p (made newer).entries ≡ true → every p (made o).entries ≡ true → merged_group q g f tombs newer o ≡ Ok t → every p (made t).entries ≡ true
  unfolding merged_group
  merged-meets q g f tombs newer o t k n h e =
      let r = and_then_ok (finish_table f o) (λ u. lay_over q newer (tombed g tombs u)) t e in
      lay-meets q newer (tombed g tombs r.0) t n (tombed-meets g tombs r.0 (finish-meets f o r.0 k h r.1)) r.2

-- ---- what finishes

-- the items of a group's parts have entries of the Rewrite queue
pub own-each : (g : ℕ) (items : List LogItem) → own_items g items ≡ true → every (λ (it : LogItem). each_entry (entry_by (context Rewrite)) it.content) items ≡ true
unfolding own_items
own-each g items h =
    every-from (is_own g) (λ (it : LogItem). each_entry (entry_by (context Rewrite)) it.content) items (λ it k.
    unfold is_own in
    both_right (eqb it.group g) (each_entry (entry_by (context Rewrite)) it.content)
    (both_left (eqb it.group g && each_entry (entry_by (context Rewrite)) it.content) (is_passed it) k)) h

-- and have passed the checks
pub own-passed : (g : ℕ) (items : List LogItem) → own_items g items ≡ true → every is_passed items ≡ true
unfolding own_items
own-passed g items h =
    every-from (is_own g) is_passed items (λ it k. unfold is_own in both_right (eqb it.group g && each_entry (entry_by (context Rewrite)) it.content) (is_passed it) k) h

every-last : {A : Type 0} (p : A → Bool) (xs : List A) (x : A) → every p xs ≡ true → last xs ≡ Some x → p x ≡ true
unfolding last
every-last p [] x h e = absurd (none-some x e)
every-last p (y ∷ []) x h e = rw (same_Some y x e) at (every-head p y [] h)
every-last p (y ∷ (z ∷ zs)) x h e = every-last p (z ∷ zs) x (every-tail p y (z ∷ zs) h) e

accepted-meets : (g : ℕ) (new : Part) (a : Accepted) → own_items g new.items ≡ true → OwnAccepted g a → finished_meets (entry_by (context Rewrite)) (finished_by new a) ≡ true
unfolding finished_by finished_meets or_else
accepted-meets g new (wait ps) hn h = refl
accepted-meets g new (finish old ps) hn h = own-each g (old.items ++ new.items) (own-items-append g old.items new.items (own_old g old ps h) hn)
accepted-meets g new back hn h = refl

last-own : (g : ℕ) (ps : List Part) (p : Part) → own_parts g ps ≡ true → last ps ≡ Some p → own_items g p.items ≡ true
unfolding own_parts
last-own g ps p h e = every-last (λ (x : Part). own_items g x.items) ps p h e

-- the entries of what finishes are of the Rewrite queue
pub finished-meets : (g : ℕ) (newer older : Option (List Part)) → own_parts g (parts_of newer) ≡ true → own_parts g (parts_of older) ≡ true → finished_meets (entry_by (context Rewrite)) (finished_of newer older) ≡ true
unfolding finished_of
finished-meets g newer older hn ho =
    by_option (last (parts_of newer))
    (λ e. rw e (unfold or_else finished_meets in refl))
    (λ p e. let own = last-own g (parts_of newer) p hn e in rw e (unfold or_else in accepted-meets g p (accept (parts_of older) p) own (accept-own g (parts_of older) p ho own)))
