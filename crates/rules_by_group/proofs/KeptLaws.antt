-- Every call keeps what every context keeps, and a fresh context has it.
-- Assumes nothing.
use Rattle.std.specs.Prelude.{◌≡◌, true, ◌&&◌}
use Rattle.std.proofs.Math.Path.{refl, ap}
use Rattle.std.proofs.Common.{sym, ◌∙◌}
use Rattle.std.proofs.lemmas.Bool.{false≢true}
use mathlib.Core.List.{List, [], ◌∷◌, ◌++◌, append-nil}
use Rattle.std.specs.Prelude.{Option, None, Some}
use Prim.Native.Nat.{ℕ}
use Rattle.maps.specs.Lists.{every, last, or_else}
use Rattle.maps.specs.Maps.{Pair, Map, lookup, numbers}
use Rattle.maps.specs.BoolLaws.{both_left, both_right}
use Rattle.maps.specs.ListLaws.{every_all, every-select}
use Rattle.maps.specs.OrderLaws.{split, numbers_lawful}
use Rattle.maps.specs.MapLaws.{Ascending, ascending-nil, every_intro}
use Rattle.rules.specs.Causes.{Result, Ok, Err, in_order, left}
use Rattle.rules.specs.Items.{LogQueue, Append, Rewrite, same_queue, Batch, LogItem, placed_from, is_tombstone, Call, replay_append, replay_rewrite, live_append, live_rewrite, writes}
use Rattle.rules.specs.Checks.{Mark, first_mark, checks}
use Rattle.rules.specs.Table.{Table, made}
use Rattle.rules.specs.Context.{Kind, context, index, is_context, is_index, Part, Context, fresh, with_groups, with_cleaned}
use Rattle.rules.specs.Waiting.{replay_marked}
use Rattle.rules.specs.Calls.{checked, run_batch, replay_batch, replay, merge_contexts, both, merge, join_contexts, join, write, append, rewrite}
use Rattle.rules.specs.Queries.{take_cleaned, after_taking}
use Rattle.rules_by_group.specs.Group.{cleans_of, parts_of, Finished, finished_of}
use Rattle.rules_by_group.specs.Stage.{accept_parts_of, waiting_after, tombs_in, finished_tombs, merged_rest, merged_at, joined_rest}
use Rattle.rules_by_group.specs.Kept.{shaped, entry_by, each_entry, own_parts, all_tombstones, KeptBy, Kept}
use Rattle.rules_by_group.proofs.ResultLaws.{ok_inj, refused_not_ok, by_result, by_option, and_then_ok, in_order-kept}
use Rattle.rules_by_group.proofs.DeedLaws.{do-ascends, by-group_at}
use Rattle.rules_by_group.proofs.ItemLaws.{limited_ok}
use Rattle.rules_by_group.proofs.KindLaws.{kept_by_lem, append-cleaned, append-waits, rewrite-cleaned, index_empty, own-made, index-entries, index-content}
use Rattle.rules_by_group.proofs.PartLaws.{kept-own, kept-shaped}
use Rattle.rules_by_group.proofs.MergeLaws.{merged_deeds, merged_by-group}
use Rattle.rules_by_group.proofs.WaitingLaws.{AllKept, all-kept, kept_of, after-ascends, after_kept}
use Rattle.rules_by_group.proofs.EntryLaws.{finished_meets, merged-meets, finished-meets}
use Rattle.rules_by_group.proofs.JoinLaws.{joined_deeds}
use Rattle.rules_by_group.proofs.ByGroupLaws.{kept-accepts}
use Rattle.rules_by_group.proofs.RunLaws.{cleans-append, tombs-append, tombs-nil, KindKept, append-keeps, rewrite-keeps, live-append-keeps, live-rewrite-keeps, run-keeps, batch-queue, every-placed, marked-keeps}
use Rattle.rules_by_group.specs.Kept.{KeptAt}

-- ---- fresh

pub fresh_kept : (q : LogQueue) → Kept (fresh q)
unfolding fresh
fresh_kept q =
    record {
      groups-ascend = ascending-nil Table numbers;
      waiting-ascends = ascending-nil (List Part) numbers;
      own-items = unfold every in refl;
      shapes = unfold every in refl;
      own-entries = unfold every in refl;
      tombstones-only = tombs-nil;
      by_kind = by-queue q;
    }
  where
    by-queue : (r : LogQueue) → KeptBy (context r) (record { kind = context q; groups = []; tombstones = []; cleaned = []; waiting = [] })
    by-queue Append = unfold KeptBy cleans_of in (refl, refl)
    by-queue Rewrite = unfold KeptBy in refl

-- ---- replay

-- what a call that passed the checks went on with
checked_ok : (call : Call) (b : Batch) (next : Result Context) (d : Context) → checked call b next ≡ Ok d → (checks call b.items ≡ None) × (next ≡ Ok d)
unfolding checked or_else
checked_ok call b next d e =
    by_option (checks call b.items)
    (λ h. (h, rw h at e))
    (λ r h. absurd (refused_not_ok (rw h at e)))

run-batch-keeps : (k : Kind) (call : Call) (b : Batch) (c d : Context) → KindKept k call → every (λ (it : LogItem). each_entry (entry_by k) it.content) b.items ≡ true → KeptAt k c → run_batch call b c ≡ Ok d → KeptAt k d
unfolding run_batch
run-batch-keeps k call b c d keep o h e =
    run-keeps k call keep (placed_from 0 b.items) c d (every-placed (λ (it : LogItem). each_entry (entry_by k) it.content) 0 b.items o) h e

replay-append-keeps : (b : Batch) (c d : Context) → KeptAt (context Append) c → replay_batch Append b c ≡ Ok d → KeptAt (context Append) d
unfolding replay_batch
replay-append-keeps b c d h e =
    let s = checked_ok replay_append b (run_batch replay_append b c) d e in
    run-batch-keeps (context Append) replay_append b c d append-keeps (unfold writes in batch-queue replay_append b.items s.0) h s.1

replay-rewrite-keeps : (b : Batch) (c d : Context) → KeptAt (context Rewrite) c → replay_batch Rewrite b c ≡ Ok d → KeptAt (context Rewrite) d
unfolding replay_batch
replay-rewrite-keeps b c d h e =
    let marked : Option Mark → Result Context = or_else (run_batch replay_rewrite b c) (λ m. replay_marked m b.file.seq (placed_from 0 b.items) c) in
    let s = checked_ok replay_rewrite b (marked (first_mark 0 b.items)) d e in
    by_option (first_mark 0 b.items)
    (λ f. run-batch-keeps (context Rewrite) replay_rewrite b c d rewrite-keeps (unfold writes in batch-queue replay_rewrite b.items s.0) h (none-marked (run_batch replay_rewrite b c) _ (first_mark 0 b.items) d f s.1))
    (λ m f. marked-keeps b.items m b.file.seq c d s.0 f h (some-marked (run_batch replay_rewrite b c) _ (first_mark 0 b.items) m d f s.1))
  where
    none-marked : (r : Result Context) (f : Mark → Result Context) (o : Option Mark) (d : Context) → o ≡ None → or_else r f o ≡ Ok d → r ≡ Ok d
    none-marked r f o d e h = unfold or_else in (rw e at h)

    some-marked : (r : Result Context) (f : Mark → Result Context) (o : Option Mark) (m : Mark) (d : Context) → o ≡ Some m → or_else r f o ≡ Ok d → f m ≡ Ok d
    some-marked r f o m d e h = unfold or_else in (rw e at h)

context-is : (q : LogQueue) (k : Kind) → is_context q k ≡ true → k ≡ context q
unfolding is_context same_queue
context-is Append (context Append) h = refl
context-is Append (context Rewrite) h = absurd (false≢true h)
context-is Append index h = absurd (false≢true h)
context-is Rewrite (context Append) h = absurd (false≢true h)
context-is Rewrite (context Rewrite) h = refl
context-is Rewrite index h = absurd (false≢true h)

index_is : (k : Kind) → is_index k ≡ true → k ≡ index
unfolding is_index
index_is (context q) h = absurd (false≢true h)
index_is index h = refl

replay-batch-keeps : (q : LogQueue) (b : Batch) (c d : Context) → KeptAt (context q) c → replay_batch q b c ≡ Ok d → KeptAt (context q) d
replay-batch-keeps Append b c d h e = replay-append-keeps b c d h e
replay-batch-keeps Rewrite b c d h e = replay-rewrite-keeps b c d h e

pub replay-kept : (b : Batch) (c d : Context) → Kept c → replay b c ≡ Ok d → Kept d
unfolding replay
replay-kept b c d k e =
    split (is_context b.file.queue c.kind)
    (λ s. (replay-batch-keeps b.file.queue b c d (record { is-kind = context-is b.file.queue c.kind s; kept = k }) (rw s at e)).kept)
    (λ s. absurd (refused_not_ok (rw s at e)))

-- ---- merge

tombs-in : (f : Option Finished) → all_tombstones (tombs_in f) ≡ true
unfolding tombs_in or_else
tombs-in None = tombs-nil
tombs-in (Some f) = unfold all_tombstones in every-select (λ (it : LogItem). is_tombstone it.content) f.items

finished-tombs : (newer older : Map ℕ (List Part)) → all_tombstones (finished_tombs newer older) ≡ true
unfolding finished_tombs
finished-tombs [] older = tombs-nil
finished-tombs (x ∷ xs) older =
    tombs-append (tombs_in (finished_of (Some x.val) (lookup numbers x.key older))) (finished_tombs xs older) (tombs-in (finished_of (Some x.val) (lookup numbers x.key older))) (finished-tombs xs older)

-- what waits is kept
pub record WaitingKept (w : Map ℕ (List Part)) : Type 0 where
  pub ascends : Ascending numbers w
  pub parts : AllKept w

waiting_kept : (newer older w : Map ℕ (List Part)) → every (λ (x : Pair ℕ (List Part)). own_parts x.key x.val) newer ≡ true → WaitingKept older → waiting_after newer older ≡ Ok w → WaitingKept w
unfolding waiting_after
waiting_kept newer older w own h e =
    in_order-kept accept_parts_of (λ (x : Pair ℕ (List Part)). own_parts x.key x.val) WaitingKept
    (λ x a b o k f. record { ascends = after-ascends x a b k.ascends f; parts = after_kept x a b k.ascends o k.parts f }) newer older w own h e

all_own : (w : Map ℕ (List Part)) → WaitingKept w → every (λ (x : Pair ℕ (List Part)). own_parts x.key x.val) w ≡ true
all_own w h =
    every_intro numbers numbers_lawful (λ (x : Pair ℕ (List Part)). own_parts x.key x.val) w h.ascends (λ g ps e. kept-own g ps (rw e at (kept_of w g h.parts)))

all-shaped : (w : Map ℕ (List Part)) → WaitingKept w → every (λ (x : Pair ℕ (List Part)). shaped x.val) w ≡ true
all-shaped w h =
    every_intro numbers numbers_lawful (λ (x : Pair ℕ (List Part)). shaped x.val) w h.ascends (λ g ps e. kept-shaped g ps (rw e at (kept_of w g h.parts)))

module _ (newer c : Context) (kn : Kept newer) (kc : Kept c) where
  abbrev merged_lists : List LogItem
  merged_lists = (c.tombstones ++ newer.tombstones) ++ finished_tombs newer.waiting c.waiting

  none-wait : (w : Map ℕ (List Part)) → newer.waiting ≡ [] → waiting_after newer.waiting c.waiting ≡ Ok w → c.waiting ≡ w
  unfolding waiting_after in_order
  none-wait w n e = ok_inj (rw n at e)

  none-finish : newer.waiting ≡ [] → merged_lists ≡ c.tombstones ++ newer.tombstones
  unfolding finished_tombs
  none-finish n = rw (n, append-nil (c.tombstones ++ newer.tombstones))

  -- by kind
  rest_by_lem : (q : LogQueue) (w : Map ℕ (List Part)) (m : Map ℕ Table) → newer.kind ≡ context q → c.kind ≡ context q → waiting_after newer.waiting c.waiting ≡ Ok w → KeptBy (context q) (with_groups m (merged_rest newer w c))
  unfolding KeptBy with_groups merged_rest
  rest_by_lem Append w m n o e =
      let nw = append-waits newer kn n in
      (sym (none-wait w nw e) ∙ append-waits c kc o, λ i. (sym (cleans-append c.tombstones newer.tombstones ∙ ap (λ l. l ++ cleans_of newer.tombstones) (sym (append-cleaned c kc o)) ∙ ap (λ l. c.cleaned ++ l) (sym (append-cleaned newer kn n))) ∙ ap cleans_of (sym (none-finish nw))) i)
  rest_by_lem Rewrite w m n o e = ap (λ l. l ++ newer.cleaned) (rewrite-cleaned c kc o) ∙ rewrite-cleaned newer kn n

  -- what finishes has entries of the queue
  finished_of_lem : (q : LogQueue) (g : ℕ) → newer.kind ≡ context q → finished_meets (entry_by (context q)) (finished_of (lookup numbers g newer.waiting) (lookup numbers g c.waiting)) ≡ true
  finished_of_lem Append g n = rw (append-waits newer kn n) (unfold lookup finished_of parts_of last or_else finished_meets in refl)
  finished_of_lem Rewrite g n =
      finished-meets g (lookup numbers g newer.waiting) (lookup numbers g c.waiting) (kept_of newer.waiting g (all-kept newer.waiting kn.own-items kn.shapes)).own (kept_of c.waiting g (all-kept c.waiting kc.own-items kc.shapes)).own

  -- each group's table has entries of the queue
  merged-table : (q : LogQueue) (g : ℕ) (t : Option Table) → newer.kind ≡ context q → c.kind ≡ context q → merged_at q newer c g ≡ Ok t → every (entry_by (context q)) (made t).entries ≡ true
  unfolding merged_at
  merged-table q g t n o e =
      merged-meets (entry_by (context q)) q g (finished_of (lookup numbers g newer.waiting) (lookup numbers g c.waiting)) newer.tombstones (lookup numbers g newer.groups) (lookup numbers g c.groups) t (finished_of_lem q g n) (own-made newer (context q) kn n g) (own-made c (context q) kc o g) e

  merged-own : (q : LogQueue) (m : Map ℕ Table) → newer.kind ≡ context q → c.kind ≡ context q → Ascending numbers m → ((g : ℕ) → merged_at q newer c g ≡ Ok (lookup numbers g m)) → every (λ (x : Pair ℕ Table). every (entry_by (context q)) x.val.entries) m ≡ true
  unfolding made or_else
  merged-own q m n o asc at =
      every_intro numbers numbers_lawful (λ (x : Pair ℕ Table). every (entry_by (context q)) x.val.entries) m asc (λ g t e. merged-table q g (Some t) n o (at g ∙ ap (λ u. Ok u) e))

  merged_keeps : (q : LogQueue) (w : Map ℕ (List Part)) (m : Map ℕ Table) → newer.kind ≡ context q → c.kind ≡ context q → waiting_after newer.waiting c.waiting ≡ Ok w → Ascending numbers m → every (λ (x : Pair ℕ Table). every (entry_by (context q)) x.val.entries) m ≡ true → Kept (with_groups m (merged_rest newer w c))
  merged_keeps q w m n o e asc own =
      let k = waiting_kept newer.waiting c.waiting w kn.own-items (record { ascends = kc.waiting-ascends; parts = all-kept c.waiting kc.own-items kc.shapes }) e in
      record {
        groups-ascend = unfold with_groups merged_rest in asc;
        waiting-ascends = unfold with_groups merged_rest in k.ascends;
        own-items = unfold with_groups merged_rest in all_own w k;
        shapes = unfold with_groups merged_rest in all-shaped w k;
        own-entries = unfold with_groups merged_rest in rw o own;
        tombstones-only = unfold with_groups merged_rest in tombs-append (c.tombstones ++ newer.tombstones) (finished_tombs newer.waiting c.waiting) (tombs-append c.tombstones newer.tombstones kc.tombstones-only kn.tombstones-only) (finished-tombs newer.waiting c.waiting);
        by_kind = kept_by_lem (with_groups m (merged_rest newer w c)) (context q) (unfold with_groups merged_rest in o) (rest_by_lem q w m n o e);
      }

  merge_contexts-kept : (q : LogQueue) (d : Context) → newer.kind ≡ context q → c.kind ≡ context q → merge_contexts q newer c ≡ Ok d → Kept d
  merge_contexts-kept q d n o e =
      let s = and_then_ok _ _ d (sym (merged_deeds q newer c kn kc n (kept-accepts newer c kn kc)) ∙ e) in
      let t = and_then_ok _ _ d s.2 in
      let g = by-group_at (merged_at q newer c) _ t.0 (merged_by-group q newer c kn kc n (kept-accepts newer c kn kc)) t.1 in
      rw (← (limited_ok None (with_groups t.0 (merged_rest newer s.0 c)) d t.2).0) (merged_keeps q s.0 t.0 n o s.1 g.0 (merged-own q t.0 n o g.0 g.1))

  both-are : (q : LogQueue) → both q newer c ≡ true → (newer.kind ≡ context q) × (c.kind ≡ context q)
  unfolding both
  both-are q h =
      (context-is q newer.kind (both_left (is_context q newer.kind) (is_context q c.kind) h), context-is q c.kind (both_right (is_context q newer.kind) (is_context q c.kind) h))

  pub merge-kept : (d : Context) → merge newer c ≡ Ok d → Kept d
  unfolding merge
  merge-kept d e =
      split (both Append newer c)
      (λ a. let k = both-are Append a in merge_contexts-kept Append d k.0 k.1 (rw a at e))
      (λ a. split (both Rewrite newer c)
      (λ r. let k = both-are Rewrite r in merge_contexts-kept Rewrite d k.0 k.1 (rw (a, r) at e))
      (λ r. absurd (refused_not_ok (rw (a, r) at e))))

  -- ---- join

  joined_keeps : (m : Map ℕ Table) → Ascending numbers m → Kept (with_groups m (joined_rest newer c))
  unfolding with_groups joined_rest
  joined_keeps m asc =
      record {
        groups-ascend = asc;
        waiting-ascends = ascending-nil (List Part) numbers;
        own-items = unfold every in refl;
        shapes = unfold every in refl;
        own-entries = index-entries m;
        tombstones-only = tombs-nil;
        by_kind = unfold KeptBy in (refl, refl);
      }

  join_contexts-kept : (d : Context) → newer.kind ≡ context Append → join_contexts newer c ≡ Ok d → Kept d
  join_contexts-kept d n e =
      let t = and_then_ok _ _ d (sym (joined_deeds newer c kn kc n) ∙ e) in
      rw (← (limited_ok None (with_groups t.0 (joined_rest newer c)) d t.2).0) (joined_keeps t.0 (do-ascends _ c.groups t.0 kc.groups-ascend t.1))

  pub join_kept : (d : Context) → join newer c ≡ Ok d → Kept d
  unfolding join
  join_kept d e =
      split (is_context Append newer.kind && is_context Rewrite c.kind)
      (λ s. join_contexts-kept d (context-is Append newer.kind (both_left (is_context Append newer.kind) (is_context Rewrite c.kind) s)) (rw s at e))
      (λ s. absurd (refused_not_ok (rw s at e)))

-- ---- live writes

write_kept : (q : LogQueue) (call : Call) (b : Batch) (c d : Context) → KindKept index call → Kept c → write q call b c ≡ Ok d → Kept d
unfolding write
write_kept q call b c d keep k e =
    split (is_index c.kind && same_queue b.file.queue q)
    (λ s. (run-batch-keeps index call b c d keep (every_all (λ (it : LogItem). each_entry (entry_by index) it.content) b.items (λ it. index-content it.content)) (record { is-kind = index_is c.kind (both_left (is_index c.kind) (same_queue b.file.queue q) s); kept = k }) (checked_ok call b (run_batch call b c) d (rw s at e)).1).kept)
    (λ s. absurd (refused_not_ok (rw s at e)))

pub append-kept : (b : Batch) (c d : Context) → Kept c → append b c ≡ Ok d → Kept d
unfolding append
append-kept b c d k e = write_kept Append live_append b c d live-append-keeps k e

pub rewrite-kept : (gate : Option ℕ) (b : Batch) (c d : Context) → Kept c → rewrite gate b c ≡ Ok d → Kept d
unfolding rewrite
rewrite-kept gate b c d k e = write_kept Rewrite (live_rewrite gate b.file.seq) b c d (live-rewrite-keeps gate b.file.seq) k e

-- ---- the cleaned numbers, taken

taken-index : (lent : List ℕ) (c : Context) (rows : List ℕ) → take_cleaned lent c ≡ Ok rows → c.kind ≡ index
unfolding take_cleaned
taken-index lent c rows e =
    split (is_index c.kind) (λ s. index_is c.kind s) (λ s. absurd (refused_not_ok (rw s at e)))

uncleaned-kept : (c : Context) → c.kind ≡ index → Kept c → Kept (with_cleaned [] c)
uncleaned-kept c i k =
    record {
      groups-ascend = unfold with_cleaned in k.groups-ascend;
      waiting-ascends = unfold with_cleaned in k.waiting-ascends;
      own-items = unfold with_cleaned in k.own-items;
      shapes = unfold with_cleaned in k.shapes;
      own-entries = unfold with_cleaned in k.own-entries;
      tombstones-only = unfold with_cleaned in k.tombstones-only;
      by_kind = kept_by_lem (with_cleaned [] c) index (unfold with_cleaned in i) (unfold with_cleaned KeptBy in index_empty c i k);
    }

pub taking-kept : (lent : List ℕ) (c : Context) → Kept c → Kept (after_taking (take_cleaned lent c) c)
unfolding after_taking
taking-kept lent c k =
    by_result (take_cleaned lent c)
    (λ rows e. rw e (uncleaned-kept c (taken-index lent c rows e) k))
    (λ r e. rw e k)

-- ---- the state after a call, accepted or refused

pub left-kept : (c : Context) (r : Result Context) → Kept c → ((d : Context) → r ≡ Ok d → Kept d) → Kept (left c r)
unfolding left
left-kept c (Ok d) k f = f d refl
left-kept c (Err x) k f = k
