-- Demand 3 of the calls, from demand 3 of the rules.
-- Assumes nothing.
use mathlib.Core.List.{List, [], ◌∷◌, ◌++◌, map, append_assoc, append-nil}
use mathlib.Core.Path.{◌≡◌, sym, ap, ◌∙◌}
use lib.ListN.{length}
use native.Mathlib.Omega.{arith}
use Rattle.rules.specs.Items.{Append, Batch}
use Rattle.rules.specs.Context.{fresh}
use Rattle.rules.specs.Calls.{replay, merge}
use Rattle.history.specs.Recovery.{history, Runs, run, merged, batches_of}
use Rattle.history.specs.Demand3 as rules
use Rattle.history.proofs.Theorem as rules·theorem
use Rattle.recovery.specs.Areas.{Area, context_in, WfIn, CallOn, MadeBy, LentBatch, batch_in, Ending}
use Rattle.recovery.specs.Demand3.{Demand3, Claim, Reached}
use Rattle.recovery.proofs.Passes.{answers-accepted, made_by, TookAs, took-as}

module _ (batches taken : List Batch) (a : Area) (t : TookAs batches taken a) (d : rules.Demand3 batches) where
  -- a cutting of what was accepted is one of the rules' history
  cutting : (cut : List Batch) → taken ≡ cut → history batches (fresh Append) ≡ cut
  cutting cut e = sym t.history-is ∙ e

  last-is : (runs : Runs) (z : Area) → batches_of runs ≡ taken → MadeBy runs z → rules.Last batches (context_in z)
  last-is runs z e m = d.last runs (context_in z) (e ∙ t.history-is) (made_by m)

  demands : Demand3 batches taken a
  demands =
      record {
        replay-accepted = λ before so_far after b c z r e m h.
            let next = d.replay-accepted before so_far after b (context_in c) (cutting _ e) (made_by m) in
            answers-accepted (replay b) c z r next.0 h next.1;
        merge-accepted = λ before after older newer c n z r e m k h.
            let next = d.merge-accepted before after older newer (context_in c) (context_in n) (cutting _ e) (made_by m) (made_by k) in
            answers-accepted (merge (context_in n)) c z r next.0 h next.1;
        last = last-is;
        same = λ runs z e m. (last-is runs z e m).alike (λ c. c) ∙ sym t.context-is;
      }

pub demand-3 : Claim
demand-3 batches taken a t premise =
    let w = took-as t in
    demands batches taken a w (rules·theorem.demand-3 batches (rw w.history-is at premise))

-- ---- every cutting has a last area

no_more : {A : Type 0} (before after : List A) (b : A) → [] ≡ before ++ (b ∷ after) → ⊥
no_more [] after b e = let l = ap length e in omega (arith, l)
no_more (x ∷ before) after b e = let l = ap length e in omega (arith, l)

-- a batch of a list that was lent was lent
lent_one : (lent : List LentBatch) (before after : List Batch) (b : Batch) → map batch_in lent ≡ before ++ (b ∷ after) → (l : LentBatch) × (batch_in l ≡ b)
lent_one [] before after b e = absurd (no_more before after b e)
lent_one (l ∷ lent) [] after b e = (l, cc)
lent_one (l ∷ lent) (x ∷ before) after b e = lent_one lent before after b cc

-- areas that calls made are well formed
made_wf : {runs : Runs} {a : Area} → MadeBy runs a → WfIn a
made_wf (MadeBy.started a f) = f.wf
made_wf (MadeBy.replayed b z m h) = h.wf
made_wf (MadeBy.merged_into z m n h) = h.wf
made_wf (MadeBy.refused_replay b n p z m h) = h.wf
made_wf (MadeBy.refused_merge d n p z m h) = h.wf
made_wf (MadeBy.refused_join d n p z m h) = h.wf
made_wf (MadeBy.refused_append b n p z m h) = h.wf
made_wf (MadeBy.refused_rewrite gate b n p z m h) = h.wf
made_wf (MadeBy.refused_taking lent r z m e h w) = w

module _ (ends : Ending) (batches : List Batch) (lent : List LentBatch) (a : Area) (d : Demand3 batches (map batch_in lent) a) where
  -- the next batch of a run, which was lent, is replayed
  next : (before so_far after : List Batch) (b : Batch) (c : Area) → map batch_in lent ≡ before ++ (so_far ++ (b ∷ after)) → MadeBy (run so_far) c → (z : Area) × MadeBy (run (so_far ++ (b ∷ []))) z
  next before so_far after b c e m =
      let one = lent_one lent (before ++ so_far) after b (e ∙ sym (append_assoc before so_far (b ∷ after))) in
      let end = ends.replay-ends one.0 c (made_wf m) in
      let h : CallOn (replay b) c end.0 end.1 = rw one.1 at end.2 in
      let yes = d.replay-accepted before so_far after b c end.1 end.0 e m h in
      (end.1, MadeBy.replayed b end.1 m (rw yes at h))

  -- the rest of a run is replayed
  goes_on : (before so_far rest after : List Batch) (c : Area) → map batch_in lent ≡ before ++ (so_far ++ (rest ++ after)) → MadeBy (run so_far) c → (z : Area) × MadeBy (run (so_far ++ rest)) z
  goes_on before so_far [] after c e m = (c, rw (append-nil so_far) m)
  goes_on before so_far (b ∷ rest) after c e m =
      let one = next before so_far (rest ++ after) b c e m in
      rw (append_assoc so_far (b ∷ []) rest) at
      (goes_on before (so_far ++ (b ∷ [])) rest after one.0 (e ∙ ap (λ bs. before ++ bs) (sym (append_assoc so_far (b ∷ []) (rest ++ after)))) one.1)

  -- neighbouring runs are merged
  next-merged : (before after : List Batch) (older newer : Runs) (c n : Area) → map batch_in lent ≡ before ++ (batches_of (merged older newer) ++ after) → MadeBy older c → MadeBy newer n → (z : Area) × MadeBy (merged older newer) z
  next-merged before after older newer c n e m k =
      let end = ends.merge-ends n c (made_wf k) (made_wf m) in
      let yes = d.merge-accepted before after older newer c n end.1 end.0 e m k end.2 in
      (end.1, MadeBy.merged_into end.1 m k (rw yes at end.2))

  started : (z : Area) × MadeBy (run []) z
  started = let f = ends.fresh-ends in (f.0, MadeBy.started f.0 f.1)

  reaches : (runs : Runs) (before after : List Batch) → map batch_in lent ≡ before ++ (batches_of runs ++ after) → (z : Area) × MadeBy runs z
  unfolding batches_of
  reaches (run bs) before after e = goes_on before [] bs after started.0 e started.1
  reaches (merged older newer) before after e =
      let l = e ∙ ap (λ bs. before ++ bs) (append_assoc (batches_of older) (batches_of newer) after) in
      let o = reaches older before (batches_of newer ++ after) l in
      let n = reaches newer (before ++ batches_of older) after (l ∙ sym (append_assoc before (batches_of older) (batches_of newer ++ after))) in
      next-merged before after older newer o.0 n.0 e o.1 n.1

  reached-last : (runs : Runs) → batches_of runs ≡ map batch_in lent → (z : Area) × MadeBy runs z × rules.Last batches (context_in z)
  reached-last runs e =
      let r = reaches runs [] [] (sym e ∙ sym (append-nil (batches_of runs))) in
      (r.0, r.1, d.last runs r.0 e r.1)

pub reached : Reached
reached ends batches lent a t premise = reached-last ends batches lent a (demand-3 batches (map batch_in lent) a t premise)
