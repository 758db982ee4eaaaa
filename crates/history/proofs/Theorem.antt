-- Demand 3.
-- Assumes nothing.
use mathlib.Core.Path.{◌≡◌, sym, ap, ◌∙◌}
use mathlib.Core.List.{List, [], ◌∷◌, ◌++◌, append_assoc, append-nil}
use Prim.Native.Nat.{ℕ}
use Rattle.rules.specs.Causes.{Refusal, Result, Ok, Err, left}
use Rattle.rules.specs.Items.{Append, Batch}
use Rattle.rules.specs.Context.{Context, fresh}
use Rattle.rules.specs.Calls.{replay, merge, join, append, rewrite}
use Rattle.rules.specs.Queries.{take_cleaned, after_taking}
use Rattle.history.specs.Held.{Premise}
use Rattle.history.specs.Recovery.{one_pass, history, items_of, Runs, run, merged, batches_of, Made}
use Rattle.history.specs.Demand3.{Last, Demand3, Claim, Reached}
use Rattle.rules_by_group.proofs.ResultLaws.{ok_inj}
use Rattle.history.proofs.Contexts.{GoodContext, good-fresh}
use Rattle.history.proofs.Passes.{Pass, pass-good, pass_split, pass-unique, batch-replay, run-merges}
use Rattle.history.proofs.Rule.{held-fresh}
use Rattle.history.proofs.OnePass.{PremiseFrom, Passed, one-pass}
use Rattle.history.proofs.Counts.{live-append, live-rewrite}

-- ---- a stretch of the history, in a fresh context

stretch : (before some after : List Batch) (e : Context) → Pass (before ++ (some ++ after)) (fresh Append) e → (d : Context) × Pass some (fresh Append) d
stretch before some after e p =
    let a = pass_split before (some ++ after) p in
    let b = pass_split some after a.2 in
    let m = run-merges (pass-good a.1 good-fresh) b.1 in
    (m.0, m.1)

-- a call that was refused left the context as it was
left-refused : {A : Type 0} (c : A) (r : Result A) (x : Refusal) → r ≡ Err x → left c r ≡ c
unfolding left
left-refused c r x e = rw e

taking-refused : (c : Context) (r : Result (List ℕ)) (x : Refusal) → r ≡ Err x → after_taking r c ≡ c
unfolding after_taking
taking-refused c r x e = rw e

-- the next batch of a run: where the run's context is c, the batch is taken
next-batch : (bs : List Batch) (b : Batch) (c t : Context) → Pass bs (fresh Append) c → Pass (bs ++ (b ∷ [])) (fresh Append) t → replay b c ≡ Ok t
next-batch bs b c t q p =
    let s = pass_split bs (b ∷ []) p in
    let same = pass-unique good-fresh q s.1 in
    rw same (one s.0 (pass-good s.1 good-fresh) s.2)
  where
    one : (x : Context) → GoodContext x → Pass (b ∷ []) x t → replay b x ≡ Ok t
    one x g (Pass.more d u h s Pass.done) = batch-replay b g u h s

-- neighbouring stretches: where their contexts are c and d, the merge is taken
next-merge : (xs ys : List Batch) (c d t : Context) → Pass xs (fresh Append) c → Pass ys (fresh Append) d → Pass (xs ++ ys) (fresh Append) t → merge d c ≡ Ok t
next-merge xs ys c d t q r p =
    let s = pass_split xs ys p in
    let m = run-merges (pass-good s.1 good-fresh) s.2 in
    rw (pass-unique good-fresh q s.1, pass-unique good-fresh r m.1) m.2

-- what was made of runs that are a stretch of the history is what one pass over that stretch gives
made-pass : {runs : Runs} {c : Context} → Made runs c → (before after : List Batch) (e : Context) → Pass (before ++ (batches_of runs ++ after)) (fresh Append) e → Pass (batches_of runs) (fresh Append) c
unfolding batches_of
made-pass Made.started before after e p = Pass.done
made-pass (Made.replayed {bs = bs} {c = c} b d m h) before after e p =
    let q = made-pass m before (b ∷ after) e (rw (append_assoc bs (b ∷ []) after) at p) in
    let s = stretch before (bs ++ (b ∷ [])) after e p in
    rw (← (ok_inj (sym h ∙ next-batch bs b c s.0 q s.1))) at s.1
made-pass (Made.merged_into {s = older} {t = newer} {c = c} {d = d} x m n h) before after e p =
    let q = made-pass m before (batches_of newer ++ after) e (rw (append_assoc (batches_of older) (batches_of newer) after) at p) in
    let r = made-pass n (before ++ batches_of older) after e (rw (append_assoc (batches_of older) (batches_of newer) after, ← (append_assoc before (batches_of older) (batches_of newer ++ after))) at p) in
    let s = stretch before (batches_of older ++ batches_of newer) after e p in
    rw (← (ok_inj (sym h ∙ next-merge (batches_of older) (batches_of newer) c d s.0 q r s.1))) at s.1
made-pass (Made.refused_replay {c = c} b r m h) before after e p = rw (left-refused c (replay b c) r h) (made-pass m before after e p)
made-pass (Made.refused_merge {c = c} d r m h) before after e p = rw (left-refused c (merge d c) r h) (made-pass m before after e p)
made-pass (Made.refused_join {c = c} d r m h) before after e p = rw (left-refused c (join d c) r h) (made-pass m before after e p)
made-pass (Made.refused_append {c = c} b r m h) before after e p = rw (left-refused c (append b c) r h) (made-pass m before after e p)
made-pass (Made.refused_rewrite {c = c} gate b r m h) before after e p = rw (left-refused c (rewrite gate b c) r h) (made-pass m before after e p)
made-pass (Made.refused_taking {c = c} lent r m h) before after e p = rw (taking-refused c (take_cleaned lent c) r h) (made-pass m before after e p)

-- ---- the theorem

module _ (batches : List Batch) (premise : Premise (items_of (history batches (fresh Append)))) where
  whole : Passed batches [] (fresh Append)
  whole = one-pass batches [] (fresh Append) good-fresh held-fresh (unfold PremiseFrom Premise in premise)

  -- the history, cut in any way, is a pass
  cut : (cutting : List Batch) → history batches (fresh Append) ≡ cutting → Pass cutting (fresh Append) (one_pass batches (fresh Append))
  cut cutting e = rw e at whole.pass

  next-replay : (before so_far after : List Batch) (b : Batch) (c : Context) → history batches (fresh Append) ≡ before ++ (so_far ++ (b ∷ after)) → Made (run so_far) c → (d : Context) × (replay b c ≡ Ok d)
  unfolding batches_of
  next-replay before so_far after b c e m =
      let p = cut (before ++ (so_far ++ (b ∷ after))) e in
      let q = made-pass m before (b ∷ after) (one_pass batches (fresh Append)) p in
      let s = stretch before (so_far ++ (b ∷ [])) after (one_pass batches (fresh Append)) (rw (append_assoc so_far (b ∷ []) after) p) in
      (s.0, next-batch so_far b c s.0 q s.1)

  next-merged : (before after : List Batch) (older newer : Runs) (c d : Context) → history batches (fresh Append) ≡ before ++ (batches_of (merged older newer) ++ after) → Made older c → Made newer d → (e : Context) × (merge d c ≡ Ok e)
  unfolding batches_of
  next-merged before after older newer c d e m n =
      let p = cut (before ++ ((batches_of older ++ batches_of newer) ++ after)) e in
      let l = rw (append_assoc (batches_of older) (batches_of newer) after) at p in
      let q = made-pass m before (batches_of newer ++ after) (one_pass batches (fresh Append)) l in
      let r = made-pass n (before ++ batches_of older) after (one_pass batches (fresh Append)) (rw (← (append_assoc before (batches_of older) (batches_of newer ++ after))) at l) in
      let s = stretch before (batches_of older ++ batches_of newer) after (one_pass batches (fresh Append)) p in
      (s.0, next-merge (batches_of older) (batches_of newer) c d s.0 q r s.1)

  -- the last context is the one that took the whole list
  same-context : (runs : Runs) (c : Context) → batches_of runs ≡ history batches (fresh Append) → Made runs c → c ≡ one_pass batches (fresh Append)
  same-context runs c e m =
      let p = cut (batches_of runs) (sym e) in
      pass-unique good-fresh (made-pass m [] [] (one_pass batches (fresh Append)) (rw (append-nil (batches_of runs)) p)) p

  last-context : (c : Context) → c ≡ one_pass batches (fresh Append) → Last batches c
  last-context c e =
      let good = rw (← e) at (pass-good whole.pass good-fresh) in
      record {
        entries-held = λ g. rw e (whole.held.entries-held g);
        keys-held = λ g k n. rw e (whole.held.keys-held g k n);
        live-append = live-append c good;
        live-rewrite = live-rewrite c good;
        same-groups = ap (λ (x : Context). x.groups) e;
        same-tombstones = ap (λ (x : Context). x.tombstones) e;
        same-cleaned = ap (λ (x : Context). x.cleaned) e;
        alike = λ query. ap query e;
      }

  demands : Demand3 batches
  demands =
      record {
        replay-accepted = next-replay;
        merge-accepted = next-merged;
        last = λ runs c e m. last-context c (same-context runs c e m);
      }

pub demand-3 : Claim
demand-3 batches premise = demands batches premise

-- ---- every cutting has a last context, by what is accepted

module _ (batches : List Batch) (d : Demand3 batches) where
  -- the rest of a run is replayed
  goes_on : (before so_far rest after : List Batch) (c : Context) → history batches (fresh Append) ≡ before ++ (so_far ++ (rest ++ after)) → Made (run so_far) c → (x : Context) × Made (run (so_far ++ rest)) x
  goes_on before so_far [] after c e m = (c, rw (append-nil so_far) m)
  goes_on before so_far (b ∷ rest) after c e m =
      let next = d.replay-accepted before so_far (rest ++ after) b c e m in
      rw (append_assoc so_far (b ∷ []) rest) at
      (goes_on before (so_far ++ (b ∷ [])) rest after next.0 (e ∙ ap (λ bs. before ++ bs) (sym (append_assoc so_far (b ∷ []) (rest ++ after)))) (Made.replayed b next.0 m next.1))

  -- neighbouring runs are merged
  reaches : (runs : Runs) (before after : List Batch) → history batches (fresh Append) ≡ before ++ (batches_of runs ++ after) → (c : Context) × Made runs c
  unfolding batches_of
  reaches (run bs) before after e = goes_on before [] bs after (fresh Append) e Made.started
  reaches (merged older newer) before after e =
      let l = e ∙ ap (λ bs. before ++ bs) (append_assoc (batches_of older) (batches_of newer) after) in
      let o = reaches older before (batches_of newer ++ after) l in
      let n = reaches newer (before ++ batches_of older) after (l ∙ sym (append_assoc before (batches_of older) (batches_of newer ++ after))) in
      let m = d.merge-accepted before after older newer o.0 n.0 e o.1 n.1 in
      (m.0, Made.merged_into m.0 o.1 n.1 m.1)

  reached-last : (runs : Runs) → batches_of runs ≡ history batches (fresh Append) → (c : Context) × Made runs c × Last batches c
  reached-last runs e =
      let r = reaches runs [] [] (sym e ∙ sym (append-nil (batches_of runs))) in
      (r.0, r.1, d.last runs r.0 e r.1)

pub reached : Reached
reached batches premise = reached-last batches (demand-3 batches premise)
