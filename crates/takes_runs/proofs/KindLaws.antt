-- A replay and a merge leave an Append context one. Assumes nothing.
use mathlib.Core.List.{List}
use Rattle.std.specs.Prelude.{None}
use mathlib.Core.Path.{◌≡◌, refl, sym, ap, ◌∙◌}
use Prim.Native.Nat.{ℕ}
use Rattle.maps.specs.Lists.{or_else}
use Rattle.rules.specs.Causes.{Result, Ok, Err, refuse, left, WrongKind}
use Rattle.rules.specs.Items.{LogQueue, Append, Rewrite, same_queue, LogItem, Batch, placed_from, writes, replay_append}
use Rattle.rules.specs.Checks.{checks}
use Rattle.rules.specs.Context.{context, is_context, Context, with_groups, fresh}
use Rattle.rules.specs.Calls.{checked, run_batch, replay_batch, replay, merge}
use Rattle.rules_by_group.proofs.ResultLaws.{by_option, refused_not_ok, and_then_ok}
use Rattle.rules_by_group.specs.Kept.{Kept, entry_by, each_entry}
use Rattle.rules_by_group.specs.Stage.{merged_rest}
use Rattle.rules_by_group.proofs.RunLaws.{append-keeps, run-keeps, batch-queue, every-placed}
use Rattle.rules_by_group.proofs.MergeLaws.{merged_deeds}
use Rattle.rules_by_group.proofs.ItemLaws.{limited_ok}
use Rattle.rules_by_group.proofs.ByGroupLaws.{kept-accepts, merge-is}
use Rattle.contexts.specs.Contexts.{context_of, Called, FreshArea}
use Rattle.takes_runs.specs.Steps.{AppendArea}

-- ---- the kind that the rules leave

-- what a batch that passed the checks went on with
checked_ok : (b : Batch) (next : Result Context) (d : Context) → checked replay_append b next ≡ Ok d → (checks replay_append b.items ≡ None) × (next ≡ Ok d)
unfolding checked or_else
checked_ok b next d e =
    by_option (checks replay_append b.items)
    (λ h. (h, rw h at e))
    (λ r h. absurd (refused_not_ok (rw h at e)))

batch-kind : (b : Batch) (c d : Context) → Kept c → c.kind ≡ context Append → replay_batch Append b c ≡ Ok d → d.kind ≡ context Append
unfolding replay_batch run_batch writes
batch-kind b c d k i e =
    let s = checked_ok b (run_batch replay_append b c) d e in
    (run-keeps (context Append) replay_append append-keeps (placed_from 0 b.items) c d (every-placed (λ (it : LogItem). each_entry (entry_by (context Append)) it.content) 0 b.items (batch-queue replay_append b.items s.0)) (record { is-kind = i; kept = k }) s.1).is-kind

-- a batch of the other queue is refused
other-queue : (b : Batch) (c : Context) → c.kind ≡ context Append → b.file.queue ≡ Rewrite → replay b c ≡ refuse WrongKind
unfolding replay is_context same_queue
other-queue b c i q = rw (q, i)

replay-is : (b : Batch) (c : Context) → c.kind ≡ context Append → b.file.queue ≡ Append → replay b c ≡ replay_batch Append b c
unfolding replay is_context same_queue
replay-is b c i q = rw (q, i)

replay-kind : (b : Batch) (c d : Context) → Kept c → c.kind ≡ context Append → replay b c ≡ Ok d → d.kind ≡ context Append
replay-kind b c d k i e = by b.file.queue refl
  where
    by : (q : LogQueue) → b.file.queue ≡ q → d.kind ≡ context Append
    by Append h = batch-kind b c d k i (sym (replay-is b c i h) ∙ e)
    by Rewrite h = absurd (refused_not_ok (sym (other-queue b c i h) ∙ e))

merge-kind : (newer c d : Context) → Kept newer → Kept c → newer.kind ≡ context Append → c.kind ≡ context Append → merge newer c ≡ Ok d → d.kind ≡ context Append
merge-kind newer c d kn kc n o e =
    let s = and_then_ok _ _ d (sym (merged_deeds Append newer c kn kc n (kept-accepts newer c kn kc)) ∙ sym (merge-is Append newer c n o) ∙ e) in
    let t = and_then_ok _ _ d s.2 in
    sym (ap (λ (x : Context). x.kind) (limited_ok None (with_groups t.0 (merged_rest newer s.0 c)) d t.2).0)
    ∙ unfold with_groups merged_rest in o

left-kind : (c : Context) (r : Result Context) → c.kind ≡ context Append → ((d : Context) → r ≡ Ok d → d.kind ≡ context Append) → (left c r).kind ≡ context Append
unfolding left
left-kind c (Ok d) k f = f d refl
left-kind c (Err x) k f = k

-- ---- areas

pub replay-area : (b : Batch) (ys cs : List ℕ) (a : Result (Unit {0})) (ys' cs' : List ℕ) → AppendArea ys cs → Called (replay b) ys cs a ys' cs' → AppendArea ys' cs'
replay-area b ys cs a ys' cs' k h =
    record {
      wf = h.wf;
      kind = ap (λ (x : Context). x.kind) h.leaves ∙ left-kind (context_of ys cs) (replay b (context_of ys cs)) k.kind (λ d e. replay-kind b (context_of ys cs) d k.wf.kept k.kind e);
    }

pub merge-area : (ys cs xs bs : List ℕ) (a : Result (Unit {0})) (xs' bs' : List ℕ) → AppendArea xs bs → AppendArea ys cs → Called (merge (context_of ys cs)) xs bs a xs' bs' → AppendArea xs' bs'
merge-area ys cs xs bs a xs' bs' k n h =
    record {
      wf = h.wf;
      kind = ap (λ (x : Context). x.kind) h.leaves ∙ left-kind (context_of xs bs) (merge (context_of ys cs) (context_of xs bs)) k.kind (λ d e. merge-kind (context_of ys cs) (context_of xs bs) d n.wf.kept k.wf.kept n.kind k.kind e);
    }

pub fresh-area : (xs bs : List ℕ) → FreshArea Append xs bs → AppendArea xs bs
unfolding fresh
fresh-area xs bs f = record { wf = f.wf; kind = ap (λ (x : Context). x.kind) f.context-is }
