-- Batches keep what every context keeps: items in order, and marked batches.
-- Assumes nothing.
use Rattle.std.specs.Prelude.{◌≡◌, Bool, true, false, ◌&&◌, ◌||◌, List, [], ◌∷◌, ◌++◌, eqb}
use Rattle.std.proofs.Math.Path.{refl}
use Rattle.std.proofs.Common.{sym, ap, ◌∙◌, true≢false, append_assoc, append-nil}
use Rattle.std.proofs.Math.Bool.{not}
use Rattle.std.specs.Prelude.{Option, None, Some}
use Rattle.maps.specs.ListLaws.{some-none}
use Prim.Native.Nat.{ℕ, suc}
use borrow.Author.Tests.{not-false, not-true}
use Rattle.maps.specs.Lists.{select, any, every, or_else, find_from}
use Rattle.maps.specs.Maps.{Pair, Map, lookup, insert, store, numbers}
use Rattle.maps.specs.BoolLaws.{both, both_left, both_right, neither_left, neither_right}
use Rattle.maps.specs.ListLaws.{every_append, every_and, every-from, every_map, every-selected, every-head, every-tail, every-cons}
use Rattle.maps.specs.OrderLaws.{split, numbers_lawful}
use Rattle.maps.specs.MapLaws.{Ascending, ascending-store, ascending-insert, every-insert, every-store}
use Rattle.rules.specs.Limits.{max_items}
use Rattle.rules.specs.Causes.{Cause, Refusal, Ok}
use Rattle.rules.specs.Items.{LogQueue, Append, Rewrite, EntryIndex, same_queue, has_file, file_of, Content, entries, command, kv, LogItem, Placed, placed_at, placed_from, is_reserved, is_clean, is_tombstone, is_mark, Call, replay_append, replay_rewrite, live_append, live_rewrite, writes}
use Rattle.rules.specs.Checks.{long, consecutive, is_incomplete, is_out_of_range, is_other_queue, Mark, first_mark, breaks_mark, is_rewrite_replay, meets3, meets7, or_next, unless_reserved, checks}
use Rattle.rules.specs.Table.{Span, Table, made, spanned}
use Rattle.rules.specs.Context.{Kind, context, index, Part, Context, with_groups, with_waiting, limited, keeps, step, run}
use Rattle.rules.specs.Waiting.{Accepted, wait, finish, back, accept, some_parts, set_waiting, set_span, finish_group, become, accept_new_group, part_of, replay_marked}
use Rattle.rules_by_group.specs.Group.{tomb_of, clean_of, cleans_of, parts_of, waits}
use Rattle.rules_by_group.specs.Kept.{shaped, entry_by, each_entry, is_passed, is_own, own_items, own_parts, all_tombstones, KeptBy, KeptAt}
use Rattle.rules_by_group.proofs.ResultLaws.{ok_inj, refused_not_ok, and_then_ok, in_order-kept}
use Rattle.rules_by_group.proofs.KindLaws.{kept_at, kept_by_lem, rewrite-cleaned, own-made}
use Rattle.rules_by_group.proofs.ItemLaws.{cleaned_by, kept_by, after, limited_ok, step-taken}
use Rattle.rules_by_group.proofs.PartLaws.{OwnAccepted, own_old, accept-own, ShapedAccepted, accept-shaped, PartsKept, waits_kept, kept-own, kept-shaped}
use Rattle.rules_by_group.proofs.WaitingLaws.{all-kept, kept_of}
use Rattle.rules_by_group.proofs.EntryLaws.{changed-meets, spanned-meets, own-each}

-- ---- lists of tombstones and their Cleans

pub cleans-append : (xs ys : List LogItem) → cleans_of (xs ++ ys) ≡ cleans_of xs ++ cleans_of ys
unfolding cleans_of
cleans-append [] ys = refl
cleans-append (x ∷ xs) ys = ap (λ l. clean_of x ++ l) (cleans-append xs ys) ∙ sym (append_assoc (clean_of x) (cleans_of xs) (cleans_of ys))

-- a clean is a tombstone
tomb-clean : (x : Content) → is_tombstone x ≡ false → is_clean x ≡ false
unfolding is_tombstone is_clean
tomb-clean (entries es) h = refl
tomb-clean (command c) h = absurd (true≢false h)
tomb-clean (kv k c) h = refl

clean-one : (it : LogItem) → cleans_of (it ∷ []) ≡ clean_of it
unfolding cleans_of
clean-one it = append-nil (clean_of it)

clean-none : (it : LogItem) → is_tombstone it.content ≡ false → cleans_of [] ≡ clean_of it
unfolding cleans_of clean_of
clean-none it e = rw (tomb-clean it.content e)

pub clean_tomb : (it : LogItem) → cleans_of (tomb_of it) ≡ clean_of it
unfolding tomb_of
clean_tomb it = split (is_tombstone it.content) (λ e. rw e (clean-one it)) (λ e. rw e (clean-none it e))

pub tombs-append : (xs ys : List LogItem) → all_tombstones xs ≡ true → all_tombstones ys ≡ true → all_tombstones (xs ++ ys) ≡ true
unfolding all_tombstones
tombs-append xs ys a b = every_append (λ (it : LogItem). is_tombstone it.content) xs ys ∙ both a b

pub tombs-nil : all_tombstones [] ≡ true
unfolding all_tombstones every
tombs-nil = refl

pub every_tomb : (it : LogItem) → all_tombstones (tomb_of it) ≡ true
unfolding tomb_of all_tombstones every
every_tomb it = split (is_tombstone it.content) (λ e. rw (e, e)) (λ e. rw e)

tombs-kept : (call : Call) (it : LogItem) → all_tombstones (kept_by call it) ≡ true
unfolding kept_by
tombs-kept call it = split (keeps call) (λ e. rw e (every_tomb it)) (λ e. rw e tombs-nil)

-- ---- one item

-- an item of the call keeps what a context of the kind keeps
unfoldable pub KindKept : Kind → Call → Type 0
KindKept k call = (it : LogItem) (t : Option Table) (c : Context) → KeptBy k c → KeptBy k (after call it t c)

pub append-keeps : KindKept (context Append) replay_append
unfolding KindKept KeptBy after kept_by cleaned_by keeps writes same_queue
append-keeps it t c h =
    (h.0, ap (λ l. l ++ clean_of it) h.1 ∙ ap (λ l. cleans_of c.tombstones ++ l) (sym (clean_tomb it)) ∙ sym (cleans-append c.tombstones (tomb_of it)))

pub rewrite-keeps : KindKept (context Rewrite) replay_rewrite
unfolding KindKept KeptBy after cleaned_by writes same_queue
rewrite-keeps it t c h = append-nil c.cleaned ∙ h

pub live-append-keeps : KindKept index live_append
unfolding KindKept KeptBy after kept_by keeps
live-append-keeps it t c h = (h.0, append-nil c.tombstones ∙ h.1)

pub live-rewrite-keeps : (gate : Option ℕ) (s : ℕ) → KindKept index (live_rewrite gate s)
unfolding KindKept KeptBy after kept_by keeps
live-rewrite-keeps gate s it t c h = (h.0, append-nil c.tombstones ∙ h.1)

kind-kept : (k : Kind) (call : Call) (it : LogItem) (t : Option Table) (c : Context) → KindKept k call → KeptBy k c → KeptBy k (after call it t c)
unfolding KindKept
kind-kept k call it t c f h = f it t c h

-- the tables after a store
store-own : (k : Kind) (g : ℕ) (t : Option Table) (m : Map ℕ Table) → every (λ (x : Pair ℕ Table). every (entry_by k) x.val.entries) m ≡ true → every (entry_by k) (made t).entries ≡ true → every (λ (x : Pair ℕ Table). every (entry_by k) x.val.entries) (store numbers g t m) ≡ true
store-own k g t m h o =
    every-store numbers numbers_lawful (λ (x : Pair ℕ Table). every (entry_by k) x.val.entries) g t m h (λ u e. unfold made or_else in (rw e at o))

module _ (k : Kind) (call : Call) (keep : KindKept k call) where
  after-keeps : (it : LogItem) (t : Option Table) (c : Context) → KeptAt k c → every (entry_by k) (made t).entries ≡ true → KeptAt k (after call it t c)
  after-keeps it t c h o =
      record {
        is-kind = unfold after in h.is-kind;
        kept = record {
          groups-ascend = unfold after in ascending-store numbers numbers_lawful it.group t c.groups h.kept.groups-ascend;
          waiting-ascends = unfold after in h.kept.waiting-ascends;
          own-items = unfold after in h.kept.own-items;
          shapes = unfold after in h.kept.shapes;
          own-entries = unfold after in store-own c.kind it.group t c.groups h.kept.own-entries (rw (sym h.is-kind) at o);
          tombstones-only = unfold after in tombs-append c.tombstones (kept_by call it) h.kept.tombstones-only (tombs-kept call it);
          by_kind = kept_by_lem (after call it t c) k (unfold after in h.is-kind) (kind-kept k call it t c keep (kept_at c k h.kept h.is-kind));
        };
      }

  -- an item of the call, judged by the limits
  pub step_keeps : (x : Placed) (c d : Context) → each_entry (entry_by k) x.item.content ≡ true → KeptAt k c → step limited call x c ≡ Ok d → KeptAt k d
  step_keeps x c d o h e =
      let s = step-taken call x c d h.kept.groups-ascend e in
      rw s.2 (after-keeps x.item s.0 c h (changed-meets (entry_by k) call x.item.content (lookup numbers x.item.group c.groups) s.0 o (own-made c k h.kept h.is-kind x.item.group) s.1))

  -- items in order, each judged by the limits
  pub run-keeps : (xs : List Placed) (c d : Context) → every (λ (x : Placed). each_entry (entry_by k) x.item.content) xs ≡ true → KeptAt k c → run limited call xs c ≡ Ok d → KeptAt k d
  unfolding run
  run-keeps xs c d o h e =
      in_order-kept (step limited call) (λ (x : Placed). each_entry (entry_by k) x.item.content) (KeptAt k) step_keeps xs c d o h e

-- ---- a marked batch

-- an item with entries of the Rewrite queue
abbrev placed_rewrite : Placed → Bool
placed_rewrite x = each_entry (entry_by (context Rewrite)) x.item.content

module _ (g : ℕ) (c : Context) (h : KeptAt (context Rewrite) c) where
  abbrev waiting_now : List Part → Map ℕ (List Part)
  waiting_now ps = store numbers g (some_parts ps) c.waiting

  waiting-keeps : (ps : List Part) → PartsKept g (some_parts ps) → KeptAt (context Rewrite) (set_waiting g ps c)
  waiting-keeps ps k =
      record {
        is-kind = unfold set_waiting with_waiting in h.is-kind;
        kept = record {
          groups-ascend = unfold set_waiting with_waiting in h.kept.groups-ascend;
          waiting-ascends = unfold set_waiting with_waiting in ascending-store numbers numbers_lawful g (some_parts ps) c.waiting h.kept.waiting-ascends;
          own-items = unfold set_waiting with_waiting in every-store numbers numbers_lawful (λ (x : Pair ℕ (List Part)). own_parts x.key x.val) g (some_parts ps) c.waiting h.kept.own-items (λ qs e. kept-own g qs (rw e at k));
          own-entries = unfold set_waiting with_waiting in h.kept.own-entries;
          shapes = unfold set_waiting with_waiting in every-store numbers numbers_lawful (λ (x : Pair ℕ (List Part)). shaped x.val) g (some_parts ps) c.waiting h.kept.shapes (λ qs e. kept-shaped g qs (rw e at k));
          tombstones-only = unfold set_waiting with_waiting in h.kept.tombstones-only;
          by_kind = kept_by_lem (set_waiting g ps c) (context Rewrite) (unfold set_waiting with_waiting in h.is-kind) (unfold set_waiting with_waiting KeptBy in rewrite-cleaned c h.kept h.is-kind);
        };
      }

  groups-keep : (m : Map ℕ Table) → Ascending numbers m → every (λ (x : Pair ℕ Table). every (entry_by c.kind) x.val.entries) m ≡ true → KeptAt (context Rewrite) (with_groups m c)
  groups-keep m asc o =
      record {
        is-kind = unfold with_groups in h.is-kind;
        kept = record {
          groups-ascend = unfold with_groups in asc;
          waiting-ascends = unfold with_groups in h.kept.waiting-ascends;
          own-items = unfold with_groups in h.kept.own-items;
          shapes = unfold with_groups in h.kept.shapes;
          own-entries = unfold with_groups in o;
          tombstones-only = unfold with_groups in h.kept.tombstones-only;
          by_kind = kept_by_lem (with_groups m c) (context Rewrite) (unfold with_groups in h.is-kind) (unfold with_groups KeptBy in rewrite-cleaned c h.kept h.is-kind);
        };
      }

  span-keeps : (p : Option ℕ) (s : Span) (d : Context) → set_span limited p g s c ≡ Ok d → KeptAt (context Rewrite) d
  unfolding set_span
  span-keeps p s d e =
      let r = and_then_ok (spanned s (made (lookup numbers g c.groups))) (λ t. limited p (with_groups (insert numbers g t c.groups) c)) d e in
      let o = spanned-meets (entry_by c.kind) s (made (lookup numbers g c.groups)) r.0 (own-made c c.kind h.kept refl g) r.1 in
      rw (← (limited_ok p (with_groups (insert numbers g r.0 c.groups) c) d r.2).0)
      (groups-keep (insert numbers g r.0 c.groups) (ascending-insert numbers numbers_lawful g r.0 c.groups h.kept.groups-ascend)
      (every-insert numbers numbers_lawful (λ (x : Pair ℕ Table). every (entry_by c.kind) x.val.entries) g r.0 c.groups h.kept.own-entries o))

finish-keeps : (p : Option ℕ) (g : ℕ) (s : Span) (xs : List Placed) (c d : Context) → every placed_rewrite xs ≡ true → KeptAt (context Rewrite) c → finish_group limited p g s xs c ≡ Ok d → KeptAt (context Rewrite) d
unfolding finish_group
finish-keeps p g s [] c d o h e = rw (← (ok_inj e)) h
finish-keeps p g s (x ∷ xs) c d o h e =
    let r = and_then_ok (run limited replay_rewrite (x ∷ xs) c) (set_span limited p g s) d e in
    span-keeps g r.0 (run-keeps (context Rewrite) replay_rewrite rewrite-keeps (x ∷ xs) c r.0 o h r.1) p s d r.2

-- the items of both parts
both-placed : (p : Option ℕ) (g : ℕ) (items : List LogItem) (xs : List Placed) → own_items g items ≡ true → every placed_rewrite xs ≡ true → every placed_rewrite (placed_at p items ++ xs) ≡ true
unfolding placed_at
both-placed p g items xs h o =
    every_append placed_rewrite (placed_at p items) xs
    ∙ both (every_map placed_rewrite (λ (x : LogItem). record { item = x; place = p }) items ∙ own-each g items h) o

become-keeps : (p : Option ℕ) (g : ℕ) (new : Part) (xs : List Placed) (c d : Context) (a : Accepted) → every placed_rewrite xs ≡ true → OwnAccepted g a → ShapedAccepted a → KeptAt (context Rewrite) c → become limited p g new xs c a ≡ Ok d → KeptAt (context Rewrite) d
unfolding become
become-keeps p g new xs c d (wait ps) w o s h e =
    rw (← (limited_ok p (set_waiting g ps c) d e).0) (waiting-keeps g c h ps (waits_kept g (wait ps) (some_parts ps) o s (unfold waits in refl)))
become-keeps p g new xs c d (finish old ps) w o s h e =
    finish-keeps p g (record { start = old.start; end = new.end }) (placed_at p old.items ++ xs) (set_waiting g ps c) d (both-placed p g old.items xs (own_old g old ps o) w) (waiting-keeps g c h ps (waits_kept g (finish old ps) (some_parts ps) o s (unfold waits in refl))) e
become-keeps p g new xs c d back w o s h e = absurd (refused_not_ok e)

accept-keeps : (p : Option ℕ) (g : ℕ) (new : Part) (xs : List Placed) (c d : Context) → own_items g new.items ≡ true → every placed_rewrite xs ≡ true → KeptAt (context Rewrite) c → accept_new_group limited p g new xs c ≡ Ok d → KeptAt (context Rewrite) d
unfolding accept_new_group parts_of
accept-keeps p g new xs c d hn w h e =
    let k = kept_of c.waiting g (all-kept c.waiting h.kept.own-items h.kept.shapes) in
    become-keeps p g new xs c d (accept (parts_of (lookup numbers g c.waiting)) new) w (accept-own g (parts_of (lookup numbers g c.waiting)) new k.own hn) (accept-shaped (parts_of (lookup numbers g c.waiting)) new k.shape) h e

-- ---- the items of a batch that passed the checks

found_none : {A : Type 0} (p : ℕ → A → Bool) (q : A → Bool) → ((i : ℕ) (x : A) → p i x ≡ false → q x ≡ true) → (i : ℕ) (xs : List A) → find_from p i xs ≡ None → every q xs ≡ true
unfolding find_from every
found_none p q f i [] e = refl
found_none p q f i (x ∷ xs) e =
    split (p i x)
    (λ s. absurd (some-none i (rw s at e)))
    (λ s. both (f i x s) (found_none p q f (suc i) xs (rw s at e)))

mark-own : (m : Mark) (i : ℕ) (it : LogItem) → meets7 replay_rewrite (Some m) i it ≡ false → eqb it.group m.group ≡ true
unfolding meets7 is_rewrite_replay or_else breaks_mark
mark-own m i it e =
    not-false (eqb it.group m.group)
    (neither_left (not (eqb it.group m.group)) _ (neither_left _ _ e))

next-none : (n : Cause) (o : Option ℕ) (next : Option Refusal) → or_next n o next ≡ None → (o ≡ None) × (next ≡ None)
unfolding or_next
next-none n None next e = (refl, e)
next-none n (Some i) next e = absurd (some-none _ e)

-- what the checks found none of
pub record Passed (call : Call) (items : List LogItem) : Type 0 where
  pub no-2 : find_from (λ i it. eqb i max_items || long it.content) 0 items ≡ None
  pub no-3 : find_from (λ i it. meets3 call it.content) 0 items ≡ None
  pub no-4 : find_from (unless_reserved is_out_of_range) 0 items ≡ None
  pub no-5 : find_from (unless_reserved (is_other_queue call)) 0 items ≡ None
  pub no-7 : find_from (meets7 call (first_mark 0 items)) 0 items ≡ None

passed : (call : Call) (items : List LogItem) → checks call items ≡ None → Passed call items
unfolding checks
passed call items e =
    let a = next-none _ _ _ e in
    let b = next-none _ _ _ a.1 in
    let c = next-none _ _ _ b.1 in
    let d = next-none _ _ _ c.1 in
    let f = (next-none _ _ _ d.1).1 in
    record { no-2 = a.0; no-3 = b.0; no-4 = c.0; no-5 = d.0; no-7 = (next-none _ _ _ f).0 }

-- entries that have a file, and none of another queue
pub queue-files : (q : LogQueue) (es : List EntryIndex) → any (λ e. not (has_file e.entries)) es ≡ false → any (λ e. has_file e.entries && not (same_queue (file_of e).queue q)) es ≡ false → every (λ e. same_queue (file_of e).queue q) es ≡ true
unfolding any every
queue-files q [] h k = refl
queue-files q (e ∷ es) h k =
    let has = not-false (has_file e.entries) (neither_left (not (has_file e.entries)) (any (λ x. not (has_file x.entries)) es) h) in
    let queue = neither_left (has_file e.entries && not (same_queue (file_of e).queue q)) (any (λ x. has_file x.entries && not (same_queue (file_of x).queue q)) es) k in
    both (not-false (same_queue (file_of e).queue q) (rw has at queue)) (queue-files q es (neither_right (not (has_file e.entries)) (any (λ x. not (has_file x.entries)) es) h) (neither_right (has_file e.entries && not (same_queue (file_of e).queue q)) (any (λ x. has_file x.entries && not (same_queue (file_of x).queue q)) es) k))

queue-content : (call : Call) (x : Content) → meets3 call x ≡ false → (not (is_reserved x) && is_other_queue call x) ≡ false → each_entry (entry_by (context (writes call))) x ≡ true
unfolding each_entry
queue-content call (entries es) h k =
    unfold entry_by meets3 is_reserved is_incomplete is_other_queue in
    queue-files (writes call) es (neither_left (any (λ e. not (has_file e.entries)) es) (not (consecutive es)) h) k
queue-content call (command c) h k = refl
queue-content call (kv y c) h k = refl

-- the entries of a batch that passed the checks are of the queue that the call writes
pub batch-queue : (call : Call) (items : List LogItem) → checks call items ≡ None → every (λ (it : LogItem). each_entry (entry_by (context (writes call))) it.content) items ≡ true
batch-queue call items e =
    let p = passed call items e in
    let three = found_none (λ i it. meets3 call it.content) (λ (it : LogItem). not (meets3 call it.content)) (λ i it h. rw h) 0 items p.no-3 in
    let five = found_none (unless_reserved (is_other_queue call)) (λ (it : LogItem). not (unless_reserved (is_other_queue call) 0 it)) (λ i it h. unfold unless_reserved in rw h) 0 items p.no-5 in
    every-from (λ (it : LogItem). not (meets3 call it.content) && not (unless_reserved (is_other_queue call) 0 it)) (λ (it : LogItem). each_entry (entry_by (context (writes call))) it.content) items
    (λ it h. queue-content call it.content (not-true (meets3 call it.content) (both_left (not (meets3 call it.content)) (not (unless_reserved (is_other_queue call) 0 it)) h)) (unfold unless_reserved in not-true (not (is_reserved it.content) && is_other_queue call it.content) (both_right (not (meets3 call it.content)) (not (unless_reserved (is_other_queue call) 0 it)) h)))
    (every_and (λ (it : LogItem). not (meets3 call it.content)) (λ (it : LogItem). not (unless_reserved (is_other_queue call) 0 it)) items three five)

-- each item of a batch that passed the checks meets none of 2 to 5
batch-passed : (items : List LogItem) → checks replay_rewrite items ≡ None → every is_passed items ≡ true
unfolding is_passed
batch-passed items e =
    let p = passed replay_rewrite items e in
    let two = found_none (λ i it. eqb i max_items || long it.content) (λ (it : LogItem). not (long it.content)) (λ i it h. rw (neither_right (eqb i max_items) (long it.content) h)) 0 items p.no-2 in
    let three = found_none (λ i it. meets3 replay_rewrite it.content) (λ (it : LogItem). not (meets3 replay_rewrite it.content)) (λ i it h. rw h) 0 items p.no-3 in
    let four = found_none (unless_reserved is_out_of_range) (λ (it : LogItem). not (unless_reserved is_out_of_range 0 it)) (λ i it h. unfold unless_reserved in rw h) 0 items p.no-4 in
    let five = found_none (unless_reserved (is_other_queue replay_rewrite)) (λ (it : LogItem). not (unless_reserved (is_other_queue replay_rewrite) 0 it)) (λ i it h. unfold unless_reserved in rw h) 0 items p.no-5 in
    every_and _ _ items (every_and _ _ items (every_and _ _ items two three) four) five

-- in a marked batch they are of the mark's group
batch-own : (items : List LogItem) (m : Mark) → checks replay_rewrite items ≡ None → first_mark 0 items ≡ Some m → own_items m.group items ≡ true
unfolding own_items is_own
batch-own items m e f =
    every_and (λ (it : LogItem). eqb it.group m.group && each_entry (entry_by (context Rewrite)) it.content) is_passed items
    (every_and (λ (it : LogItem). eqb it.group m.group) (λ (it : LogItem). each_entry (entry_by (context Rewrite)) it.content) items
    (found_none (meets7 replay_rewrite (Some m)) (λ (it : LogItem). eqb it.group m.group) (mark-own m) 0 items (ap (λ o. find_from (meets7 replay_rewrite o) 0 items) (sym f) ∙ (passed replay_rewrite items e).no-7))
    (unfold writes in batch-queue replay_rewrite items e))
    (batch-passed items e)

pub every-placed : (p : LogItem → Bool) (i : ℕ) (xs : List LogItem) → every p xs ≡ true → every (λ (x : Placed). p x.item) (placed_from i xs) ≡ true
unfolding placed_from
every-placed p i [] h = unfold every in refl
every-placed p i (x ∷ xs) h =
    every-cons (λ (y : Placed). p y.item) (record { item = x; place = Some i }) (placed_from (suc i) xs) (every-head p x xs h) (every-placed p (suc i) xs (every-tail p x xs h))

part-own : (g byte seq : ℕ) (p : Placed → Bool) (items : List LogItem) → own_items g items ≡ true → own_items g (part_of byte seq (select p (placed_from 0 items))).items ≡ true
unfolding own_items part_of
part-own g byte seq p items h =
    every_map (is_own g) (λ (x : Placed). x.item) (select p (placed_from 0 items))
    ∙ every-selected (λ (x : Placed). is_own g x.item) p (placed_from 0 items) (every-placed (is_own g) 0 items h)

-- a marked batch that passed the checks
pub marked-keeps : (items : List LogItem) (m : Mark) (seq : ℕ) (c d : Context) → checks replay_rewrite items ≡ None → first_mark 0 items ≡ Some m → KeptAt (context Rewrite) c → replay_marked m seq (placed_from 0 items) c ≡ Ok d → KeptAt (context Rewrite) d
unfolding replay_marked
marked-keeps items m seq c d e f h k =
    accept-keeps (Some m.at) m.group (part_of m.byte seq (select (λ x. not (is_mark x.item)) (placed_from 0 items))) (select (λ x. not (is_mark x.item)) (placed_from 0 items)) c d (part-own m.group m.byte seq (λ x. not (is_mark x.item)) items (batch-own items m e f))
    (every-selected placed_rewrite (λ x. not (is_mark x.item)) (placed_from 0 items) (every-placed (λ (it : LogItem). each_entry (entry_by (context Rewrite)) it.content) 0 items (unfold writes in batch-queue replay_rewrite items e))) h k
