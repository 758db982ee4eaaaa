-- How large a group's table can be on the way of a merge or a join, before the newer table is laid over: what room the work needs.
-- Assumes nothing.
use Rattle.std.specs.Prelude.{◌≡◌, refl, true, cond, ◌&&◌, ltb, leb, eqb}
use Rattle.std.proofs.Math.Path.{ap}
use mathlib.Core.List.{List, [], ◌∷◌, ◌++◌}
use Rattle.std.specs.Prelude.{Option, None, Some}
use Rattle.std.proofs.lemmas.Option.{none-some, same_Some}
use Prim.Native.Nat.{ℕ, suc, ◌+◌, ◌≤◌}
use native.Mathlib.Omega.{arith}
use Rattle.std.proofs.Math.ListN.{length}
use Rattle.std.proofs.Common.{length-append, leb-true}
use Rattle.maps.specs.Lists.{select, sum, last, or_else}
use Rattle.maps.specs.Maps.{Pair, Map, lookup, insert, merge_with, numbers, bytes}
use Rattle.maps.specs.BoolLaws.{both_left, both_right}
use Rattle.maps.specs.ListLaws.{length-select, sum-append}
use Rattle.maps.specs.OrderLaws.{split, numbers_lawful, bytes_lawful}
use Rattle.maps.specs.MapLaws.{length-insert-most, length-remove-le, sum-remove-some}
use Rattle.rules.specs.Limits.{max_entries, max_keys, max_waiting_groups, max_waiting_items, max_waiting_entries}
use Rattle.rules.specs.Causes.{left, and_then}
use Rattle.rules.specs.Items.{LogQueue, Append, Rewrite, EntryIndex, FileId, Status, begin, middle, end, clean, compact, put, del, Content, entries, command, kv, LogItem, is_reserved, replay_rewrite, is_live_rewrite}
use Rattle.rules.specs.Table.{Held, Table, empty_table, over_keys, made, with_entries, with_keys, with_span, is_above_last, entries_below, entries_from, over, over_gap, compacted, replayed_rewrite, put_key, delete_key, put_held, entries_to, put_to, change_to, command_to, change}
use Rattle.rules.specs.Context.{Part, table_fits, entries_in, waiting_fits}
use Rattle.rules.specs.Waiting.{Accepted, wait, finish, back, joined, accept_by, accept}
use Rattle.rules.specs.Calls.{over_of, merge_table}
use Rattle.rules_by_group.specs.Group.{changed, effect, effected, tombed, parts_of, Finished, finished_by, finished_of, replayed_items}
use Rattle.rules_by_group.specs.Kept.{Within}
use Rattle.rules_by_group.proofs.ResultLaws.{by_option}

-- ---- tables

over-room : (older es : List EntryIndex) → length (over older es) ≤ length older + length es
unfolding over entries_below
over-room older [] = omega arith
over-room older (e ∷ es) =
    let l = length-select (λ (x : EntryIndex). ltb x.index e.index) older in
    rw (length-append (select (λ (x : EntryIndex). ltb x.index e.index) older) (e ∷ es)) (omega (arith, l))

gap-room : (older es : List EntryIndex) → length (over_gap older es) ≤ length older + length es
unfolding over_gap
gap-room older [] = omega arith
gap-room older (e ∷ es) = split (is_above_last e.index older) (λ s. rw s (omega arith)) (λ s. rw s (over-room older (e ∷ es)))

from-room : (i : ℕ) (es : List EntryIndex) → length (entries_from i es) ≤ length es
unfolding entries_from
from-room i es = length-select (λ (x : EntryIndex). leb i x.index) es

made_none : (e k : ℕ) → Within e k None
unfolding made or_else empty_table
made_none e k = record { few-entries = omega arith; few-keys = omega arith }

within-some : (e k : ℕ) (t : Table) → length t.entries ≤ e → length t.keys ≤ k → Within e k (Some t)
unfolding made or_else
within-some e k t a b = record { few-entries = a; few-keys = b }

pub within_more : (e k e₂ k₂ : ℕ) (o : Option Table) → e ≤ e₂ → k ≤ k₂ → Within e k o → Within e₂ k₂ o
within_more e k e₂ k₂ o a b w = record { few-entries = omega (arith, w.few-entries); few-keys = omega (arith, w.few-keys) }

module _ (e k : ℕ) (o : Option Table) (w : Within e k o) where
  compact-room : (i : ℕ) → Within e k (Some (compacted i (made o)))
  compact-room i =
      within-some e k (compacted i (made o))
      (unfold compacted with_entries in (let l = from-room i (made o).entries in omega (arith, w.few-entries)))
      (unfold compacted with_entries in w.few-keys)

  delete-room : (j : List ℕ) → Within e k (Some (delete_key j (made o)))
  delete-room j =
      within-some e k (delete_key j (made o))
      (unfold delete_key with_keys in w.few-entries)
      (unfold delete_key with_keys in (let l = length-remove-le bytes bytes_lawful j (made o).keys in omega (arith, w.few-keys)))

  replay-room : (es : List EntryIndex) → Within (e + length es) k (Some (replayed_rewrite es (made o)))
  replay-room es =
      within-some (e + length es) k (replayed_rewrite es (made o))
      (unfold replayed_rewrite with_entries in (let l = gap-room (made o).entries es in omega (arith, w.few-entries)))
      (unfold replayed_rewrite with_entries in w.few-keys)

  held-room : (j : List ℕ) (v : Option (List ℕ)) (f : Option FileId) → Within e (k + 1) (Some (put_held j v f (made o)))
  unfolding put_held
  held-room j (Some v) (Some f) =
      within-some e (k + 1) (put_key j (record { value = v; file = f }) (made o))
      (unfold put_key with_keys in w.few-entries)
      (unfold put_key with_keys in (let l = length-insert-most bytes bytes_lawful j (record { value = v; file = f }) (made o).keys in omega (arith, w.few-keys)))
  held-room j (Some v) None = within-some e (k + 1) (made o) w.few-entries (omega (arith, w.few-keys))
  held-room j None (Some f) = within-some e (k + 1) (made o) w.few-entries (omega (arith, w.few-keys))
  held-room j None None = within-some e (k + 1) (made o) w.few-entries (omega (arith, w.few-keys))

  -- ---- tombstones take away

  effect-room : (x : Content) → Within e k (effect x o)
  unfolding effect
  effect-room (entries es) = w
  effect-room (command clean) = made_none e k
  effect-room (command (compact i)) = compact-room i
  effect-room (kv j (put v f)) = w
  effect-room (kv j del) = delete-room j

  pub tomb-room : (x : Content) → Within e k (effected x o)
  unfolding effected
  tomb-room x = split (is_reserved x) (λ s. rw s w) (λ s. rw s (effect-room x))

pub tombed-room : (e k g : ℕ) (xs : List LogItem) (o : Option Table) → Within e k o → Within e k (tombed g xs o)
unfolding tombed
tombed-room e k g [] o w = w
tombed-room e k g (x ∷ xs) o w =
    tombed-room e k g xs (cond (eqb x.group g) (effected x.content o) o)
    (split (eqb x.group g) (λ s. rw s (tomb-room e k o w x.content)) (λ s. rw s w))

-- ---- items of a finished part: an item adds its entries, and at most one key

module _ (e k : ℕ) (o : Option Table) (w : Within e k o) where
  change-room : (g : ℕ) (x : Content) → Within (e + entries_in (record { group = g; content = x })) (k + 1) (left o (change replay_rewrite x o))
  unfolding entries_in change command_to change_to entries_to put_to and_then left is_live_rewrite
  change-room g (entries es) = within_more (e + length es) k (e + length es) (k + 1) (Some (replayed_rewrite es (made o))) (omega arith) (omega arith) (replay-room e k o w es)
  change-room g (command clean) = made_none (e + 0) (k + 1)
  change-room g (command (compact i)) = within_more e k (e + 0) (k + 1) (Some (compacted i (made o))) (omega arith) (omega arith) (compact-room e k o w i)
  change-room g (kv j (put v f)) = within_more e (k + 1) (e + 0) (k + 1) (Some (put_held j v f (made o))) (omega arith) (omega arith) (held-room e k o w j v f)
  change-room g (kv j del) = within_more e k (e + 0) (k + 1) (Some (delete_key j (made o))) (omega arith) (omega arith) (delete-room e k o w j)

  pub item_room : (x : LogItem) → Within (e + entries_in x) (k + 1) (left o (changed replay_rewrite x.content o))
  unfolding changed
  item_room x =
      split (is_reserved x.content)
      (λ s. rw s (unfold left in within_more e k (e + entries_in x) (k + 1) o (omega arith) (omega arith) w))
      (λ s. rw s (change-room x.group x.content))

pub items-room : (e k : ℕ) (xs : List LogItem) (o : Option Table) → Within e k o → Within (e + sum entries_in xs) (k + length xs) (replayed_items xs o)
unfolding replayed_items sum
items-room e k [] o w = within_more e k (e + 0) (k + 0) o (omega arith) (omega arith) w
items-room e k (x ∷ xs) o w =
    within_more ((e + entries_in x) + sum entries_in xs) ((k + 1) + length xs) (e + (entries_in x + sum entries_in xs)) (k + suc (length xs)) (replayed_items xs (left o (changed replay_rewrite x.content o))) (omega arith) (omega arith)
    (items-room (e + entries_in x) (k + 1) xs (left o (changed replay_rewrite x.content o)) (item_room e k o w x))

-- ---- what finishes has waited

module _ (h : Part → ℕ) where
  -- a part that finishes was one of those that waited
  unfoldable FinishRoom : ℕ → Accepted → Type 0
  FinishRoom n (wait ps) = Unit {0}
  FinishRoom n (finish old ps) = h old ≤ n
  FinishRoom n back = Unit {0}

  joined-room : (n : ℕ) (s : Status) (old new : Part) (ps : List Part) → FinishRoom n (joined s old new ps)
  unfolding joined FinishRoom
  joined-room n s old new ps = split (leb old.end new.start) (λ e. rw e tt) (λ e. rw e tt)

  by-room : (n : ℕ) (s r : Status) (old new : Part) (ps : List Part) → h old ≤ n → FinishRoom n (accept_by s r old new ps)
  unfolding accept_by
  by-room n begin begin old new ps l = unfold FinishRoom in tt
  by-room n middle begin old new ps l = unfold FinishRoom in tt
  by-room n end begin old new ps l = unfold FinishRoom in tt
  by-room n begin middle old new ps l = joined-room n begin old new ps
  by-room n middle middle old new ps l = joined-room n middle old new ps
  by-room n end middle old new ps l = unfold FinishRoom in tt
  by-room n begin end old new ps l = split (leb old.end new.start) (λ e. rw e (unfold FinishRoom in l)) (λ e. rw e (unfold FinishRoom in tt))
  by-room n middle end old new ps l = joined-room n end old new ps
  by-room n end end old new ps l = unfold FinishRoom in tt

  head-room : (p : Part) (ps : List Part) → h p ≤ sum h (p ∷ ps)
  unfolding sum
  head-room p ps = omega arith

  accept-room : (ps : List Part) (new : Part) → FinishRoom (sum h ps) (accept ps new)
  unfolding accept
  accept-room [] new = unfold FinishRoom in tt
  accept-room (p ∷ ps) new = by-room (sum h (p ∷ ps)) p.status new.status p new ps (head-room p ps)

  last-room : (ps : List Part) (p : Part) → last ps ≡ Some p → h p ≤ sum h ps
  unfolding last sum
  last-room [] p e = absurd (none-some p e)
  last-room (q ∷ []) p e = let f : h q ≡ h p = ap h (same_Some q p e) in omega (arith, f)
  last-room (q ∷ (r ∷ rs)) p e = let l = last-room (r ∷ rs) p e in omega arith

  -- a count of items that adds up
  module _ (f : List LogItem → ℕ) (adds : (xs ys : List LogItem) → f (xs ++ ys) ≡ f xs + f ys) (is : (p : Part) → h p ≡ f p.items) where
    by-finished : (n : ℕ) (p : Part) (a : Accepted) (x : Finished) → FinishRoom n a → finished_by p a ≡ Some x → f x.items ≤ n + h p
    unfolding finished_by FinishRoom
    by-finished n p (wait ps) x l e = absurd (none-some x e)
    by-finished n p (finish old ps) x l e =
        let y = same_Some _ x e in
        let z : f (old.items ++ p.items) ≡ f x.items = ap (λ (u : Finished). f u.items) y in
        let a = adds old.items p.items in
        let b = is old in
        let c = is p in
        omega (arith, z, a, b, c, l)
    by-finished n p back x l e = absurd (none-some x e)

    finished-sum : (newer older : Option (List Part)) (x : Finished) → finished_of newer older ≡ Some x → f x.items ≤ sum h (parts_of older) + sum h (parts_of newer)
    unfolding finished_of or_else
    finished-sum newer older x e =
        by_option (last (parts_of newer))
        (λ s. absurd (none-some x (rw s at e)))
        (λ p s.
        let l = last-room (parts_of newer) p s in
        let m = by-finished (sum h (parts_of older)) p (accept (parts_of older) p) x (accept-room (parts_of older) p) (rw s at e) in
        omega (arith, l, m))

  -- a group's parts among all that wait
  parts-room : (g : ℕ) (w : Map ℕ (List Part)) → sum h (parts_of (lookup numbers g w)) ≤ sum (λ x. sum h x.val) w
  parts-room g w =
      by_option (lookup numbers g w)
      (λ e. rw e (unfold parts_of or_else sum in omega arith))
      (λ ps e. rw e (unfold parts_of or_else in (let l = sum-remove-some numbers numbers_lawful (λ (x : Pair ℕ (List Part)). sum h x.val) g ps w e in omega (arith, l))))

-- ---- the room that a merge needs for one group

abbrev items_wait : Map ℕ (List Part) → ℕ
items_wait w = sum (λ g. sum (λ p. length p.items) g.val) w

abbrev entries_wait : Map ℕ (List Part) → ℕ
entries_wait w = sum (λ g. sum (λ p. sum entries_in p.items) g.val) w

few-wait : (w : Map ℕ (List Part)) → waiting_fits w ≡ true → (items_wait w ≤ max_waiting_items) × (entries_wait w ≤ max_waiting_entries)
unfolding waiting_fits
few-wait w h =
    let groups = leb (length w) max_waiting_groups in
    let items = leb (items_wait w) max_waiting_items in
    let entries = leb (entries_wait w) max_waiting_entries in
    (leb-true (items_wait w) max_waiting_items (both_right groups items (both_left (groups && items) entries h)), leb-true (entries_wait w) max_waiting_entries (both_right (groups && items) entries h))

-- what finishes of group g has at most as many items and entries as may wait in two contexts
pub finished-items : (g : ℕ) (newer older : Map ℕ (List Part)) (x : Finished) → waiting_fits newer ≡ true → waiting_fits older ≡ true → finished_of (lookup numbers g newer) (lookup numbers g older) ≡ Some x → length x.items ≤ max_waiting_items + max_waiting_items
finished-items g newer older x n o e =
    let h : Part → ℕ = λ p. length p.items in
    let a = finished-sum h (λ xs. length xs) (λ xs ys. length-append xs ys) (λ p. refl) (lookup numbers g newer) (lookup numbers g older) x e in
    let b = parts-room h g newer in
    let c = parts-room h g older in
    let d = (few-wait newer n).0 in
    let f = (few-wait older o).0 in
    omega (arith, a, b, c, d, f)

pub finished-entries : (g : ℕ) (newer older : Map ℕ (List Part)) (x : Finished) → waiting_fits newer ≡ true → waiting_fits older ≡ true → finished_of (lookup numbers g newer) (lookup numbers g older) ≡ Some x → sum entries_in x.items ≤ max_waiting_entries + max_waiting_entries
finished-entries g newer older x n o e =
    let h : Part → ℕ = λ p. sum entries_in p.items in
    let a = finished-sum h (λ xs. sum entries_in xs) (λ xs ys. sum-append entries_in xs ys) (λ p. refl) (lookup numbers g newer) (lookup numbers g older) x e in
    let b = parts-room h g newer in
    let c = parts-room h g older in
    let d = (few-wait newer n).1 in
    let f = (few-wait older o).1 in
    omega (arith, a, b, c, d, f)

pub table-room : (t : Table) → table_fits t ≡ true → Within max_entries max_keys (Some t)
unfolding table_fits
table-room t h =
    within-some max_entries max_keys t (leb-true (length t.entries) max_entries (both_left (leb (length t.entries) max_entries) (leb (length t.keys) max_keys) h)) (leb-true (length t.keys) max_keys (both_right (leb (length t.entries) max_entries) (leb (length t.keys) max_keys) h))

-- 320 entries and 144 keys are enough
pub finished-room : (g : ℕ) (newer older : Map ℕ (List Part)) (x : Finished) (o : Option Table) → waiting_fits newer ≡ true → waiting_fits older ≡ true → finished_of (lookup numbers g newer) (lookup numbers g older) ≡ Some x → Within max_entries max_keys o → Within 320 144 (replayed_items x.items o)
finished-room g newer older x o n l e w =
    let a = finished-items g newer older x n l e in
    let b = finished-entries g newer older x n l e in
    within_more (max_entries + sum entries_in x.items) (max_keys + length x.items) 320 144 (replayed_items x.items o) (omega (arith, b)) (omega (arith, a)) (items-room max_entries max_keys x.items o w)

-- ---- the newer table laid over

keys-room : (older newer : Map (List ℕ) Held) → length (over_keys older newer) ≤ length older + length newer
unfolding over_keys merge_with
keys-room older [] = omega arith
keys-room older (x ∷ xs) =
    let l = length-insert-most bytes bytes_lawful x.key x.val older in
    let m = keys-room (insert bytes x.key x.val older) xs in
    omega (arith, l, m)

entries-room : (q : LogQueue) (t newer : Table) → length (over_of q t newer).entries ≤ length t.entries + length newer.entries
unfolding over_of with_entries
entries-room Append t newer = over-room t.entries newer.entries
entries-room Rewrite t newer = gap-room t.entries newer.entries

-- a table laid over adds no more than it has
pub laid-room : (q : LogQueue) (e k : ℕ) (o : Option Table) (newer : Table) → Within e k o → Within (e + length newer.entries) (k + length newer.keys) (Some (merge_table q o newer))
laid-room q e k o newer w =
    within-some (e + length newer.entries) (k + length newer.keys) (merge_table q o newer)
    (unfold merge_table with_span with_keys in (let l = entries-room q (made o) newer in omega (arith, l, w.few-entries)))
    (unfold merge_table with_span with_keys in (let l = keys-room (made o).keys newer.keys in omega (arith, l, w.few-keys)))
