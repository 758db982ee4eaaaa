-- What calls on areas do is what the rules' calls do to the contexts that the areas stand for.
-- Assumes nothing.
use Rattle.std.specs.Prelude.{Option}
use mathlib.Core.List.{List, [], ◌∷◌, ◌++◌}
use mathlib.Core.Path.{◌≡◌, refl, sym, ap, ◌∙◌}
use Prim.Native.Nat.{ℕ}
use Rattle.rules.specs.Causes.{Cause, Refusal, Result, Ok, Err, left}
use Rattle.rules.specs.Items.{Append, Batch}
use Rattle.rules.specs.Context.{Context, fresh}
use Rattle.rules.specs.Calls.{replay, merge, join, append, rewrite}
use Rattle.rules_by_group.proofs.ResultLaws.{refused_not_ok}
use Rattle.contexts.specs.Contexts.{answer_as}
use Rattle.history.specs.Recovery.{one_pass, keep_if, history, Runs, Made}
use Rattle.recovery.specs.Areas.{Area, context_in, CallOn, Took, MadeBy}

-- ---- one call

-- an accepted call
accepted-is : (call : Context → Result Context) (a z : Area) → CallOn call a (Ok tt) z → call (context_in a) ≡ Ok (context_in z)
unfolding answer_as
accepted-is call a z h = sym h.answers

-- a refused one, and what it leaves
abbrev refusal_of : Cause → Option ℕ → Refusal
refusal_of n p = record { cause = n; place = p }

refused-is : (call : Context → Result Context) (a z : Area) (n : Cause) (p : Option ℕ) → CallOn call a (Err (record { cause = n; place = p })) z → call (context_in a) ≡ Err (refusal_of n p)
unfolding answer_as
refused-is call a z n p h = sym h.answers

-- a call of which the rules accept is answered so
pub answers-accepted : (call : Context → Result Context) (a z : Area) (r : Result (Unit {0})) (d : Context) → CallOn call a r z → call (context_in a) ≡ Ok d → r ≡ Ok tt
unfolding answer_as
answers-accepted call a z (Ok _) d h e = refl
answers-accepted call a z (Err r) d h e = absurd (refused_not_ok (h.answers ∙ e))

-- ---- runs

-- what was made by calls on areas was made by the rules' calls
pub made_by : {runs : Runs} {a : Area} → MadeBy runs a → Made runs (context_in a)
made_by (MadeBy.started a f) = rw f.context-is Made.started
made_by (MadeBy.replayed {a = a} b z m h) = Made.replayed b (context_in z) (made_by m) (accepted-is (replay b) a z h)
made_by (MadeBy.merged_into {a = a} {d = d} z m n h) = Made.merged_into (context_in z) (made_by m) (made_by n) (accepted-is (merge (context_in d)) a z h)
made_by (MadeBy.refused_replay {a = a} b n p z m h) = rw h.leaves (Made.refused_replay b (refusal_of n p) (made_by m) (refused-is (replay b) a z n p h))
made_by (MadeBy.refused_merge {a = a} d n p z m h) = rw h.leaves (Made.refused_merge (context_in d) (refusal_of n p) (made_by m) (refused-is (merge (context_in d)) a z n p h))
made_by (MadeBy.refused_join {a = a} d n p z m h) = rw h.leaves (Made.refused_join (context_in d) (refusal_of n p) (made_by m) (refused-is (join (context_in d)) a z n p h))
made_by (MadeBy.refused_append {a = a} b n p z m h) = rw h.leaves (Made.refused_append b (refusal_of n p) (made_by m) (refused-is (append b) a z n p h))
made_by (MadeBy.refused_rewrite {a = a} gate b n p z m h) = rw h.leaves (Made.refused_rewrite gate b (refusal_of n p) (made_by m) (refused-is (rewrite gate b) a z n p h))
made_by (MadeBy.refused_taking lent r z m e h w) = rw h (Made.refused_taking lent r (made_by m) e)

-- ---- one pass

module _ (b : Batch) where
  -- one more batch
  pass-more : (bs : List Batch) (c : Context) → one_pass (bs ++ (b ∷ [])) c ≡ left (one_pass bs c) (replay b (one_pass bs c))
  unfolding one_pass
  pass-more [] c = refl
  pass-more (x ∷ bs) c = pass-more bs (left c (replay x c))

  keep_append : (x : Batch) (r : Result Context) (hs : List Batch) → keep_if r x (hs ++ (b ∷ [])) ≡ keep_if r x hs ++ (b ∷ [])
  unfolding keep_if
  keep_append x (Ok y) hs = refl
  keep_append x (Err y) hs = refl

  -- is part of the history if it is accepted
  history-kept : (bs : List Batch) (c d : Context) → replay b (one_pass bs c) ≡ Ok d → history (bs ++ (b ∷ [])) c ≡ history bs c ++ (b ∷ [])
  unfolding one_pass history
  history-kept [] c d e = rw e (unfold keep_if in refl)
  history-kept (x ∷ bs) c d e =
      ap (keep_if (replay x c) x) (history-kept bs (left c (replay x c)) d e) ∙ keep_append x (replay x c) (history bs (left c (replay x c)))

  history-dropped : (bs : List Batch) (c : Context) (r : Refusal) → replay b (one_pass bs c) ≡ Err r → history (bs ++ (b ∷ [])) c ≡ history bs c
  unfolding one_pass history
  history-dropped [] c r e = rw e (unfold keep_if in refl)
  history-dropped (x ∷ bs) c r e = ap (keep_if (replay x c) x) (history-dropped bs (left c (replay x c)) r e)

-- the area that took a list stands for what the rules' pass gives, and what was accepted is the rules' history
pub record TookAs (bs taken : List Batch) (a : Area) : Type 0 where
  pub context-is : context_in a ≡ one_pass bs (fresh Append)
  pub history-is : taken ≡ history bs (fresh Append)

pub took-as : {bs taken : List Batch} {a : Area} → Took bs taken a → TookAs bs taken a
took-as (Took.started a f) = record { context-is = f.context-is ∙ unfold one_pass in refl; history-is = unfold history in refl }
took-as (Took.accepted {bs = bs} {taken = taken} {a = a} b z t h) =
    let w = took-as t in
    let e : replay b (one_pass bs (fresh Append)) ≡ Ok (context_in z) = rw w.context-is at (accepted-is (replay b) a z h) in
    record {
      context-is = h.leaves ∙ ap (λ c. left c (replay b c)) w.context-is ∙ sym (pass-more b bs (fresh Append));
      history-is = ap (λ hs. hs ++ (b ∷ [])) w.history-is ∙ sym (history-kept b bs (fresh Append) (context_in z) e);
    }
took-as (Took.refused_one {bs = bs} {taken = taken} {a = a} b n p z t h) =
    let w = took-as t in
    let e : replay b (one_pass bs (fresh Append)) ≡ Err (refusal_of n p) = rw w.context-is at (refused-is (replay b) a z n p h) in
    record {
      context-is = h.leaves ∙ ap (λ c. left c (replay b c)) w.context-is ∙ sym (pass-more b bs (fresh Append));
      history-is = w.history-is ∙ sym (history-dropped b bs (fresh Append) (refusal_of n p) e);
    }
