-- A merge group by group.
-- Assumes nothing.
use Rattle.std.specs.Prelude.{◌≡◌, false, List, [], ◌∷◌, ◌++◌, map}
use Rattle.std.proofs.Math.Path.{refl, sym, ap}
use Rattle.std.proofs.Common.{◌∙◌}
use Rattle.std.specs.Prelude.{Option, None, Some}
use Prim.Native.Nat.{ℕ}
use Rattle.maps.specs.Lists.{any, last, or_else}
use Rattle.maps.specs.Maps.{Map, lookup, numbers}
use Rattle.maps.specs.OrderLaws.{split}
use Rattle.maps.specs.MapLaws.{Ascending}
use Rattle.rules.specs.Causes.{number_of, Refusal, Result, Ok, Err, refuse, and_then, FilesGoBack}
use Rattle.rules.specs.Items.{LogQueue, Append, Rewrite, LogItem, is_live_rewrite}
use Rattle.rules.specs.Table.{Span, Table, made, span_goes_back, spanned}
use Rattle.rules.specs.Context.{context, Part, Context, with_groups, with_tombstones, limited, replay_tombstones}
use Rattle.rules.specs.Waiting.{accept_all}
use Rattle.rules.specs.Calls.{clashes, clash, merge_table, merge_tables, replay_call, merge_contexts}
use Rattle.rules_by_group.specs.Group.{tombed, Finished, parts_of, finished_of, replayed_items, finish_with, finish_table, lay_over, merged_group}
use Rattle.rules_by_group.specs.Stage.{stage_all, none_staged, answer, waiting_after, finished_tombs, merged_rest, merged_at, merged_by, is_in, Covers}
use Rattle.rules_by_group.specs.Kept.{Kept}
use Rattle.rules_by_group.proofs.KindLaws.{append-waits, cleaned-again}
use Rattle.rules_by_group.proofs.ResultLaws.{by_result, one-refusal, refusal_of, refused_not_ok, and_then_of, and_then-refused, and_then_same, and_then_same_at, and_then-assoc, and_then-map}
use Rattle.rules_by_group.proofs.DeedLaws.{Deed, do_all, do-append, do-ascends, deeds_of, own, own-append, own-map, ByGroup, by_group-ext, by-group-is, deeds_by-group}
use Rattle.rules_by_group.proofs.ItemLaws.{tomb_deed, own-tombs, cleans_by, replayed_to, tombs-replayed, tombed-other}
use Rattle.rules_by_group.proofs.LayLaws.{lay_by, lay_all, lookup_uncovered}
use Rattle.rules_by_group.proofs.StageLaws.{staged}

-- ---- the deeds of a merge: what finishes, the tombstones, the tables

abbrev pub finishing : Map ℕ (List Part) → ℕ → List Part → Option Table → Result (Option Table)
finishing older g ps = finish_table (finished_of (Some ps) (lookup numbers g older))

abbrev lays : LogQueue → ℕ → Table → Option Table → Result (Option Table)
lays q = lay_by (clashes q) (record { cause = (clash q); place = None }) (merge_table q)

abbrev finish_deeds : Context → Context → List (Deed Table)
finish_deeds newer c = deeds_of (finishing c.waiting) newer.waiting

abbrev tomb_deeds : Context → List (Deed Table)
tomb_deeds newer = map tomb_deed newer.tombstones

abbrev table_deeds : LogQueue → Context → List (Deed Table)
table_deeds q newer = deeds_of (lays q) newer.groups

abbrev merge_deeds : LogQueue → Context → Context → List (Deed Table)
merge_deeds q newer c = finish_deeds newer c ++ (tomb_deeds newer ++ table_deeds q newer)

finishing_all : (g : ℕ) (n older : Option (List Part)) (o : Option Table) → or_else (Ok o) (λ ps. finish_table (finished_of (Some ps) older) o) n ≡ finish_table (finished_of n older) o
unfolding or_else
finishing_all g None older o = unfold finished_of parts_of last finish_table in refl
finishing_all g (Some ps) older o = refl

lays-over : (q : LogQueue) (g : ℕ) (n o : Option Table) → or_else (Ok o) (λ t. lays q g t o) n ≡ lay_over q n o
unfolding or_else lay_over lay_by
lays-over q g None o = refl
lays-over q g (Some t) o = refl

-- the newer tables, laid over or refused
tables-laid : (q : LogQueue) (newer d : Context) → Ascending numbers newer.groups → merge_tables q newer d ≡ and_then (do_all (deeds_of (lays q) newer.groups) d.groups) (λ m. limited None (with_groups m d))
unfolding merge_tables
tables-laid q newer d asc =
    let bad = any (λ p. clashes q (lookup numbers p.key d.groups) p.val) newer.groups in
    let all = lay_all (clashes q) (record { cause = (clash q); place = None }) (merge_table q) newer.groups d.groups asc in
    split bad
    (λ e. rw (all, e) (unfold and_then in refl))
    (λ e. rw (all, e) (unfold and_then in refl))

-- ---- one group's deeds

module _ (q : LogQueue) (newer c : Context) (kn : Kept newer) where
  -- the tombstones and the tables, of one group
  own-later : (g : ℕ) (o : Option Table) → own g (tomb_deeds newer ++ table_deeds q newer) o ≡ lay_over q (lookup numbers g newer.groups) (tombed g newer.tombstones o)
  own-later g o =
      own-append g (tomb_deeds newer) (table_deeds q newer) o
      ∙ and_then_of (own g (tomb_deeds newer) o) (own g (table_deeds q newer)) (tombed g newer.tombstones o) (own-tombs g newer.tombstones o)
      ∙ own-map (lays q) g newer.groups (tombed g newer.tombstones o) kn.groups-ascend
      ∙ lays-over q g (lookup numbers g newer.groups) (tombed g newer.tombstones o)

  own-merged : (g : ℕ) → merged_at q newer c g ≡ own g (merge_deeds q newer c) (lookup numbers g c.groups)
  unfolding merged_at merged_group
  own-merged g =
      let o = lookup numbers g c.groups in
      let n = lookup numbers g newer.waiting in
      let older = lookup numbers g c.waiting in
      sym
      (own-append g (finish_deeds newer c) (tomb_deeds newer ++ table_deeds q newer) o
      ∙ ap (λ r. and_then r (own g (tomb_deeds newer ++ table_deeds q newer))) (own-map (finishing c.waiting) g newer.waiting o kn.waiting-ascends ∙ finishing_all g n older o)
      ∙ and_then_same (finish_table (finished_of n older) o) (own g (tomb_deeds newer ++ table_deeds q newer)) (λ u. lay_over q (lookup numbers g newer.groups) (tombed g newer.tombstones u)) (own-later g))

-- ---- refusals

spanned-refused : (s : Span) (t : Table) (x : Refusal) → spanned s t ≡ Err x → x ≡ refusal_of FilesGoBack
unfolding spanned
spanned-refused s t x e =
    split (span_goes_back t.span s)
    (λ b. one-refusal (refuse FilesGoBack) x (refusal_of FilesGoBack) (rw b at e) refl)
    (λ b. absurd (refused_not_ok (sym (rw b at e))))

with-refused : (s : Span) (xs : List LogItem) (o : Option Table) (x : Refusal) → finish_with s xs o ≡ Err x → x ≡ refusal_of FilesGoBack
unfolding finish_with
with-refused s [] o x e = absurd (refused_not_ok (sym e))
with-refused s (y ∷ ys) o x e =
    by_result (spanned s (made (replayed_items (y ∷ ys) o)))
    (λ t h. absurd (refused_not_ok (sym e ∙ and_then_of (spanned s (made (replayed_items (y ∷ ys) o))) (λ u. Ok (Some u)) t h)))
    (λ z h. spanned-refused s (made (replayed_items (y ∷ ys) o)) x (h ∙ ap (λ w. Err w) (one-refusal (finish_with s (y ∷ ys) o) z x (unfold finish_with in and_then-refused (spanned s (made (replayed_items (y ∷ ys) o))) (λ u. Ok (Some u)) z h) (unfold finish_with in e))))

-- a span whose files go back is 8
pub finish-refused : (f : Option Finished) (o : Option Table) (x : Refusal) → finish_table f o ≡ Err x → x ≡ refusal_of FilesGoBack
unfolding finish_table
finish-refused None o x e = absurd (refused_not_ok (sym e))
finish-refused (Some f) o x e = with-refused f.span f.items o x e

over-refused : (q : LogQueue) (n o : Option Table) (x : Refusal) → lay_over q n o ≡ Err x → x ≡ refusal_of (clash q)
unfolding lay_over
over-refused q None o x e = absurd (refused_not_ok (sym e))
over-refused q (Some t) o x e =
    split (clashes q o t)
    (λ b. one-refusal (refuse (clash q)) x (refusal_of (clash q)) (rw b at e) refl)
    (λ b. absurd (refused_not_ok (sym (rw b at e))))

-- a group of a Rewrite merge meets 8 alone
rewrite-refused : (g : ℕ) (f : Option Finished) (tombs : List LogItem) (n o : Option Table) (x : Refusal) → merged_group Rewrite g f tombs n o ≡ Err x → x ≡ refusal_of FilesGoBack
unfolding merged_group clash
rewrite-refused g f tombs n o x e =
    let over : Option Table → Result (Option Table) = λ u. lay_over Rewrite n (tombed g tombs u) in
    by_result (finish_table f o)
    (λ u k. over-refused Rewrite n (tombed g tombs u) x (sym (and_then_of (finish_table f o) over u k) ∙ e))
    (λ z k. one-refusal (and_then (finish_table f o) over) x z e (and_then-refused (finish_table f o) over z k) ∙ finish-refused f o z k)

-- with nothing that finishes
pub unfinished : (q : LogQueue) (newer c : Context) (g : ℕ) → newer.waiting ≡ [] → merged_at q newer c g ≡ lay_over q (lookup numbers g newer.groups) (tombed g newer.tombstones (lookup numbers g c.groups))
unfolding merged_at merged_group finished_of parts_of last finish_table or_else lookup and_then
unfinished q newer c g e = rw e

-- every refusal of a group is the clash of its queue
merged-refused : (q : LogQueue) (newer c : Context) → Kept newer → newer.kind ≡ context q → (g : ℕ) (x : Refusal) → merged_at q newer c g ≡ Err x → x ≡ refusal_of (clash q)
merged-refused Append newer c k is g x e =
    over-refused Append (lookup numbers g newer.groups) (tombed g newer.tombstones (lookup numbers g c.groups)) x (sym (unfinished Append newer c g (append-waits newer k is)) ∙ e)
merged-refused Rewrite newer c k is g x e =
    unfold clash in
    rewrite-refused g (finished_of (lookup numbers g newer.waiting) (lookup numbers g c.waiting)) newer.tombstones (lookup numbers g newer.groups) (lookup numbers g c.groups) x (unfold merged_at in e)

-- ---- the merge

-- the context after what finished, with these groups and waiting parts
abbrev pub accepted_to : Map ℕ (List Part) → List LogItem → Context → Map ℕ Table → Context
accepted_to w l c m = record { kind = c.kind; groups = m; tombstones = c.tombstones ++ l; cleaned = c.cleaned; waiting = w }

-- the newer waiting parts are accepted: what waits afterwards is a matter of the parts alone, and what finishes is done on the groups
unfoldable pub Accepts : Map ℕ (List Part) → Context → Type 0
Accepts newer c =
    accept_all newer c
    ≡ and_then (waiting_after newer c.waiting)
    (λ w. and_then (do_all (deeds_of (finishing c.waiting) newer) c.groups) (λ m. Ok (accepted_to w (finished_tombs newer c.waiting) c m)))

module _ (q : LogQueue) (newer c : Context) (kn : Kept newer) (kc : Kept c) (is : newer.kind ≡ context q) where
  abbrev from_groups : Map ℕ (List Part) → Map ℕ Table → Result Context
  from_groups w m = limited None (with_groups m (merged_rest newer w c))

  abbrev start : Context
  start = with_tombstones (c.tombstones ++ newer.tombstones) c

  abbrev finished_to : Map ℕ (List Part) → Map ℕ Table → Context
  finished_to w m = accepted_to w (finished_tombs newer.waiting c.waiting) start m

  rest-is : (w : Map ℕ (List Part)) (m n k : Map ℕ Table) → with_groups k (replayed_to (cleans_by (replay_call q) newer.tombstones) (finished_to w m) n) ≡ with_groups k (merged_rest newer w c)
  unfolding with_groups with_tombstones merged_rest
  rest-is w m n k =
      λ i. record {
        kind = c.kind;
        groups = k;
        tombstones = (c.tombstones ++ newer.tombstones) ++ finished_tombs newer.waiting c.waiting;
        cleaned = c.cleaned ++ cleaned-again q newer kn is i;
        waiting = w;
      }

  not_live : is_live_rewrite (replay_call q) ≡ false
  not_live = by-queue q
    where
      by-queue : (r : LogQueue) → is_live_rewrite (replay_call r) ≡ false
      by-queue Append = unfold replay_call is_live_rewrite in refl
      by-queue Rewrite = unfold replay_call is_live_rewrite in refl

  -- the tombstones and the tables, on the groups that what finished left
  later_deeds : (w : Map ℕ (List Part)) (m : Map ℕ Table) → Ascending numbers m → and_then (replay_tombstones (replay_call q) newer.tombstones (finished_to w m)) (merge_tables q newer) ≡ and_then (do_all (tomb_deeds newer ++ table_deeds q newer) m) (from_groups w)
  later_deeds w m asc =
      let more = replayed_to (cleans_by (replay_call q) newer.tombstones) (finished_to w m) in
      ap (λ r. and_then r (merge_tables q newer)) (tombs-replayed (replay_call q) not_live newer.tombstones (finished_to w m) asc kn.tombstones-only)
      ∙ and_then-map (do_all (tomb_deeds newer) m) more (merge_tables q newer)
      ∙ and_then_same (do_all (tomb_deeds newer) m) (λ n. merge_tables q newer (more n)) (λ n. and_then (do_all (table_deeds q newer) n) (from_groups w))
      (λ n. tables-laid q newer (more n) kn.groups-ascend
      ∙ and_then_same (do_all (table_deeds q newer) n) (λ k. limited None (with_groups k (more n))) (from_groups w) (λ k. ap (limited None) (rest-is w m n k)))
      ∙ sym (and_then-assoc (do_all (tomb_deeds newer) m) (do_all (table_deeds q newer)) (from_groups w))
      ∙ ap (λ r. and_then r (from_groups w)) (sym (do-append (tomb_deeds newer) (table_deeds q newer) m))

  module _ (accepts : Accepts newer.waiting start) where
    finish-then : (w : Map ℕ (List Part)) → and_then (and_then (do_all (finish_deeds newer c) c.groups) (λ m. Ok (finished_to w m))) (λ d. and_then (replay_tombstones (replay_call q) newer.tombstones d) (merge_tables q newer)) ≡ and_then (do_all (merge_deeds q newer c) c.groups) (from_groups w)
    finish-then w =
        let later : Context → Result Context = λ d. and_then (replay_tombstones (replay_call q) newer.tombstones d) (merge_tables q newer) in
        and_then-map (do_all (finish_deeds newer c) c.groups) (finished_to w) later
        ∙ and_then_same_at (do_all (finish_deeds newer c) c.groups) (λ m. later (finished_to w m)) (λ m. and_then (do_all (tomb_deeds newer ++ table_deeds q newer) m) (from_groups w)) (λ m e. later_deeds w m (do-ascends (finish_deeds newer c) c.groups m kc.groups-ascend e))
        ∙ sym (and_then-assoc (do_all (finish_deeds newer c) c.groups) (do_all (tomb_deeds newer ++ table_deeds q newer)) (from_groups w))
        ∙ ap (λ r. and_then r (from_groups w)) (sym (do-append (finish_deeds newer c) (tomb_deeds newer ++ table_deeds q newer) c.groups))

    accepted : accept_all newer.waiting start ≡ and_then (waiting_after newer.waiting c.waiting) (λ w. and_then (do_all (finish_deeds newer c) c.groups) (λ m. Ok (finished_to w m)))
    unfolding Accepts with_tombstones
    accepted = accepts

    -- a merge is its deeds on the groups, and what waits afterwards
    pub merged_deeds : merge_contexts q newer c ≡ and_then (waiting_after newer.waiting c.waiting) (λ w. and_then (do_all (merge_deeds q newer c) c.groups) (from_groups w))
    unfolding merge_contexts
    merged_deeds =
        let later : Context → Result Context = λ d. and_then (replay_tombstones (replay_call q) newer.tombstones d) (merge_tables q newer) in
        let finished : Map ℕ (List Part) → Result Context = λ w. and_then (do_all (finish_deeds newer c) c.groups) (λ m. Ok (finished_to w m)) in
        ap (λ r. and_then r later) accepted
        ∙ and_then-assoc (waiting_after newer.waiting c.waiting) finished later
        ∙ and_then_same (waiting_after newer.waiting c.waiting) (λ w. and_then (finished w) later) (λ w. and_then (do_all (merge_deeds q newer c) c.groups) (from_groups w)) finish-then

    pub merged_by-group : ByGroup (merged_at q newer c) (do_all (merge_deeds q newer c) c.groups)
    merged_by-group =
        by_group-ext (merged_at q newer c) (λ g. own g (merge_deeds q newer c) (lookup numbers g c.groups)) (do_all (merge_deeds q newer c) c.groups) (own-merged q newer c kn) (deeds_by-group (merge_deeds q newer c) c.groups kc.groups-ascend)

    merged-out : (gs : List ℕ) → Covers gs newer c → (g : ℕ) → is_in g gs ≡ false → merged_at q newer c g ≡ Ok None
    unfolding merged_at merged_group
    merged-out gs v g n =
        rw (lookup_uncovered gs g newer.waiting v.newer-waiting n, lookup_uncovered gs g newer.groups v.newer-groups n, lookup_uncovered gs g c.groups v.older-groups n)
        (unfold finished_of parts_of last finish_table and_then lay_over or_else in ap (λ o. Ok o) (tombed-other (λ k. is_in k gs) g newer.tombstones None v.newer-tombstones n))

    -- where every group's own result is known
    pub merge_of-groups : (w : Map ℕ (List Part)) (m : Map ℕ Table) → waiting_after newer.waiting c.waiting ≡ Ok w → Ascending numbers m → ((g : ℕ) → merged_at q newer c g ≡ Ok (lookup numbers g m)) → merge_contexts q newer c ≡ limited None (with_groups m (merged_rest newer w c))
    merge_of-groups w m e asc h =
        merged_deeds
        ∙ and_then_of (waiting_after newer.waiting c.waiting) (λ v. and_then (do_all (merge_deeds q newer c) c.groups) (from_groups v)) w e
        ∙ and_then_of (do_all (merge_deeds q newer c) c.groups) (from_groups w) m (by-group-is (merged_at q newer c) (do_all (merge_deeds q newer c) c.groups) m merged_by-group asc h)

    -- over any list of numbers that covers, the merge is the answer read off the staged groups
    pub merge_by-accepts : (gs : List ℕ) → Covers gs newer c → merge_contexts q newer c ≡ merged_by q newer c gs
    unfolding merged_by
    merge_by-accepts gs v =
        let at = merged_at q newer c in
        let done = do_all (merge_deeds q newer c) c.groups in
        merged_deeds
        ∙ and_then_same (waiting_after newer.waiting c.waiting) (λ w. and_then done (from_groups w)) (λ w. answer (clash q) (merged_rest newer w c) (stage_all at gs none_staged))
        (λ w. staged at done gs (clash q) (merged_rest newer w c) merged_by-group (merged-refused q newer c kn is) (merged-out gs v))
