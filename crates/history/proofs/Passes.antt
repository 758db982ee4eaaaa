-- Batches: what the checks show of their items, and a pass over batches that a newer context takes too.
-- Assumes nothing.
use mathlib.Core.Path.{◌≡◌, refl, sym, ◌∙◌}
use mathlib.Core.Logic.{inl, inr}
use mathlib.Core.Bool.{Bool, true, false, not, ◌||◌, true≢false}
use mathlib.Core.List.{List, [], ◌∷◌, ◌++◌}
use Rattle.std.specs.Prelude.{Option, None, Some}
use Prim.Native.Nat.{ℕ, suc}
use lib.Dec.{eqb}
use borrow.Author.Tests.{not-false}
use Rattle.maps.specs.Lists.{every, any, or_else, find_from}
use Rattle.maps.specs.OrderLaws.{split}
use Rattle.rules.specs.Limits.{max_items}
use Rattle.rules.specs.Causes.{Cause, TooLong, Incomplete, OutOfRange, WrongQueue, Refusal, Ok, in_order}
use Rattle.rules.specs.Items.{Append, FileId, same_queue, has_file, file_of, put, del, Content, entries, command, kv, LogItem, Batch, Placed, placed_from, is_reserved, writes, replay_append, is_live_rewrite}
use Rattle.rules.specs.Checks.{consecutive, long, is_incomplete, is_out_of_range, is_other_queue, other_file, lacks_value, lacks_file, meets3, or_next, unless_reserved, checks}
use Rattle.rules.specs.Context.{context, is_context, Context, fresh, limited, step, run}
use Rattle.rules.specs.Calls.{checked, run_batch, replay_batch, replay, merge}
use Rattle.maps.specs.BoolLaws.{neither_left, neither_right}
use Rattle.rules_by_group.proofs.ResultLaws.{ok_inj, and_then_of}
use Rattle.rules_by_group.proofs.RunLaws.{queue-files}
use Rattle.history.proofs.Basics.{some-not-none}
use Rattle.history.proofs.Group.{Fit, FitPut}
use Rattle.history.proofs.Contexts.{FitIf, GoodContext, good_step, LeavesAt, Related, related-start, related_step}
use Rattle.history.proofs.Merging.{merge-related}

-- ---- the checks

fit-put : (k : List ℕ) (v : Option (List ℕ)) (f : Option FileId) → is_incomplete replay_append (kv k (put v f)) ≡ false → is_other_queue replay_append (kv k (put v f)) ≡ false → FitPut v f
unfolding is_incomplete is_other_queue is_live_rewrite lacks_value lacks_file other_file writes or_else FitPut
fit-put k None f h q = absurd (true≢false h)
fit-put k (Some v) None h q = absurd (true≢false h)
fit-put k (Some v) (Some f) h q = not-false (same_queue f.queue Append) q

fit_of : (x : Content) → is_incomplete replay_append x ≡ false → is_other_queue replay_append x ≡ false → Fit x
unfolding Fit
fit_of (entries es) h q = (window, files)
  where
    window : consecutive es ≡ true
    window = unfold is_incomplete in not-false (consecutive es) (neither_right (any (λ e. not (has_file e.entries)) es) (not (consecutive es)) h)

    files : every (λ e. same_queue (file_of e).queue Append) es ≡ true
    files = unfold is_incomplete is_other_queue writes in queue-files Append es (neither_left (any (λ e. not (has_file e.entries)) es) (not (consecutive es)) h) q
fit_of (command c) h q = tt
fit_of (kv k (put v f)) h q = fit-put k v f h q
fit_of (kv k del) h q = tt

fit_if : (x : Content) (i : ℕ) (it : LogItem) → it.content ≡ x → meets3 replay_append x ≡ false → unless_reserved (is_other_queue replay_append) i it ≡ false → FitIf x
unfolding FitIf meets3 unless_reserved
fit_if x i it e h q =
    split (is_reserved x)
    (λ u. inl u)
    (λ u. inr (fit_of x (rw u at h) (rw (e, u) at q)))

-- a search that finds nothing, at its first element and behind it
find_head : {A : Type 0} (p : ℕ → A → Bool) (i : ℕ) (x : A) (xs : List A) → find_from p i (x ∷ xs) ≡ None → p i x ≡ false
unfolding find_from
find_head p i x xs h = split (p i x) (λ e. absurd (some-not-none (rw e at h))) (λ e. e)

find-tail : {A : Type 0} (p : ℕ → A → Bool) (i : ℕ) (x : A) (xs : List A) → find_from p i (x ∷ xs) ≡ None → find_from p (suc i) xs ≡ None
unfolding find_from
find-tail p i x xs h = rw (find_head p i x xs h) at h

-- what holds of every item of a list
unfoldable pub AllFit : List LogItem → Type 0
AllFit [] = Unit {0}
AllFit (x ∷ xs) = FitIf x.content × AllFit xs

found-fit : (i : ℕ) (xs : List LogItem) → find_from (λ j it. meets3 replay_append it.content) i xs ≡ None → find_from (unless_reserved (is_other_queue replay_append)) i xs ≡ None → AllFit xs
unfolding AllFit
found-fit i [] h q = tt
found-fit i (x ∷ xs) h q =
    (fit_if x.content i x refl (find_head (λ j it. meets3 replay_append it.content) i x xs h) (find_head (unless_reserved (is_other_queue replay_append)) i x xs q), found-fit (suc i) xs (find-tail (λ j it. meets3 replay_append it.content) i x xs h) (find-tail (unless_reserved (is_other_queue replay_append)) i x xs q))

none_of : (n : Cause) (o : Option ℕ) (next : Option Refusal) → or_next n o next ≡ None → (o ≡ None) × (next ≡ None)
unfolding or_next
none_of n None next h = (refl, h)
none_of n (Some i) next h = absurd (some-not-none h)

-- a batch that the checks pass has fit items
pub checks-fit : (items : List LogItem) → checks replay_append items ≡ None → AllFit items
unfolding checks
checks-fit items h =
    let a = none_of TooLong (find_from (λ i it. eqb i max_items || long it.content) 0 items) _ h in
    let b = none_of Incomplete (find_from (λ i it. meets3 replay_append it.content) 0 items) _ a.1 in
    let c = none_of OutOfRange (find_from (unless_reserved is_out_of_range) 0 items) _ b.1 in
    let d = none_of WrongQueue (find_from (unless_reserved (is_other_queue replay_append)) 0 items) _ c.1 in
    found-fit 0 items b.0 d.0

-- ---- a pass that is accepted and meets the premise

pub data Steps : List Placed → Context → Context → Type 0 where
  done : {c : Context} → Steps [] c c
  more : {x : Placed} {xs : List Placed} {c e : Context} (d : Context) → step limited replay_append x c ≡ Ok d → FitIf x.item.content → LeavesAt x.item c → Steps xs d e → Steps (x ∷ xs) c e

pub data Pass : List Batch → Context → Context → Type 0 where
  done : {c : Context} → Pass [] c c
  more : {b : Batch} {bs : List Batch} {c e : Context} (d : Context) → b.file.queue ≡ Append → checks replay_append b.items ≡ None → Steps (placed_from 0 b.items) c d → Pass bs d e → Pass (b ∷ bs) c e

pub steps-good : {xs : List Placed} {c d : Context} → Steps xs c d → GoodContext c → GoodContext d
steps-good done g = g
steps-good (more {x = x} {c = c} d h f l s) g = steps-good s (good_step x c d g f h)

pub pass-good : {bs : List Batch} {c d : Context} → Pass bs c d → GoodContext c → GoodContext d
pass-good done g = g
pass-good (more d q k s p) g = pass-good p (steps-good s g)

-- the steps are the calls
pub steps_run : {xs : List Placed} {c d : Context} → Steps xs c d → run limited replay_append xs c ≡ Ok d
unfolding run in_order
steps_run done = refl
steps_run (more {x = x} {xs = xs} {c = c} d h f l s) = and_then_of (step limited replay_append x c) (in_order (step limited replay_append) xs) d h ∙ steps_run s

-- a batch in an Append context whose checks pass
pub replay_run : (b : Batch) (c : Context) → c.kind ≡ context Append → b.file.queue ≡ Append → checks replay_append b.items ≡ None → replay b c ≡ run limited replay_append (placed_from 0 b.items) c
unfolding replay is_context same_queue replay_batch checked or_else run_batch
replay_run b c k q h = rw (q, k, h)

pub batch-replay : (b : Batch) {c d : Context} → GoodContext c → b.file.queue ≡ Append → checks replay_append b.items ≡ None → Steps (placed_from 0 b.items) c d → replay b c ≡ Ok d
batch-replay b {c} g q h s = replay_run b c g.is-append q h ∙ steps_run s

pub pass_calls : {bs : List Batch} {c d : Context} → GoodContext c → Pass bs c d → in_order replay bs c ≡ Ok d
unfolding in_order
pass_calls g done = refl
pass_calls g (more {b = b} {bs = bs} {c = c} d q h s p) =
    and_then_of (replay b c) (in_order replay bs) d (batch-replay b g q h s) ∙ pass_calls (steps-good s g) p

pub pass-unique : {bs : List Batch} {c d e : Context} → GoodContext c → Pass bs c d → Pass bs c e → d ≡ e
pass-unique g p q = ok_inj (sym (pass_calls g p) ∙ pass_calls g q)

pub pass-append : {xs ys : List Batch} {c d e : Context} → Pass xs c d → Pass ys d e → Pass (xs ++ ys) c e
pass-append done q = q
pass-append (more d u h s p) q = more d u h s (pass-append p q)

pub pass_split : (xs ys : List Batch) {c e : Context} → Pass (xs ++ ys) c e → (d : Context) × Pass xs c d × Pass ys d e
pass_split [] ys {c} p = (c, done, p)
pass_split (a ∷ xs) ys (more d u h s p) = let r = pass_split xs ys p in (r.0, more d u h s r.1, r.2)

-- ---- the newer context takes the same batches

pub newer-steps : {xs : List Placed} {older pass pass' newer : Context} → Related older pass newer → Steps xs pass pass' → (next : Context) × Steps xs newer next × Related older pass' next
newer-steps {newer = newer} r done = (newer, done, r)
newer-steps {older = older} {pass = pass} {newer = newer} r (more {x = x} d h f l s) =
    let t = related_step older pass newer x r d f l h in
    let u = newer-steps t.related s in
    (u.0, more t.next t.taken f t.leaves u.1, u.2)

pub newer-pass : {bs : List Batch} {older pass pass' newer : Context} → Related older pass newer → Pass bs pass pass' → (next : Context) × Pass bs newer next × Related older pass' next
newer-pass {newer = newer} r done = (newer, done, r)
newer-pass r (more d q h s p) =
    let t = newer-steps r s in
    let u = newer-pass t.2 p in
    (u.0, more t.0 q h t.1 u.1, u.2)

-- a fresh context takes what a good one takes, and merged into that one it gives the same
pub run-merges : {bs : List Batch} {c e : Context} → GoodContext c → Pass bs c e → (d : Context) × Pass bs (fresh Append) d × (merge d c ≡ Ok e)
run-merges {c = c} {e = e} g p =
    let t = newer-pass (related-start c g) p in
    (t.0, t.1, merge-related c e t.0 t.2)
