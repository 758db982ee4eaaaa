-- A call with its answer, told as number and place. Assumes nothing.
use mathlib.Core.List.{List}
use mathlib.Core.Path.{◌≡◌, ap, subst, ◌∙◌}
use Rattle.std.specs.Prelude.{Option}
use Prim.Native.Nat.{ℕ}
use Rattle.rules.specs.Causes.{Result}
use Rattle.rules.specs.Items.{FileId}
use Rattle.rules.specs.Context.{Context}
use Rattle.rules.specs.Calls.{replay, append, rewrite}
use Rattle.log_batch.specs.Lent.{batch_of}
use Rattle.contexts.specs.Contexts.{context_of, answer_as, Called}
use Rattle.galdnyrr.specs.Told.{number_of, place_of, Told}

module _ (xs bs : List ℕ) (r : Result (Unit {0})) (n p : ℕ) (ys fs : List ℕ) (tells : (c : Context) → (n ≡ number_of (answer_as r c)) × (p ≡ place_of (answer_as r c))) where
  pub told : (call : Context → Result Context) → Called call xs bs r ys fs → Told call xs bs n p ys fs
  told call k =
      record {
        number_is = (tells (context_of ys fs)).0 ∙ ap number_of k.answers;
        place_is = (tells (context_of ys fs)).1 ∙ ap place_of k.answers;
        leaves = k.leaves;
        wf = k.wf;
      }

  module _ (items es ds : List ℕ) (file lent : FileId) (same : file ≡ lent) where
    pub replay_told : Called (replay (batch_of file items es ds)) xs bs r ys fs → Told (replay (batch_of lent items es ds)) xs bs n p ys fs
    replay_told k =
        told (replay (batch_of lent items es ds)) (subst (λ f. Called (replay (batch_of f items es ds)) xs bs r ys fs) same k)

    pub append_told : Called (append (batch_of file items es ds)) xs bs r ys fs → Told (append (batch_of lent items es ds)) xs bs n p ys fs
    append_told k =
        told (append (batch_of lent items es ds)) (subst (λ f. Called (append (batch_of f items es ds)) xs bs r ys fs) same k)

    pub rewrite_told : (gate given : Option ℕ) → gate ≡ given → Called (rewrite gate (batch_of file items es ds)) xs bs r ys fs → Told (rewrite given (batch_of lent items es ds)) xs bs n p ys fs
    rewrite_told gate given e k =
        told (rewrite given (batch_of lent items es ds))
        (subst (λ f. Called (rewrite given (batch_of f items es ds)) xs bs r ys fs) same (subst (λ g. Called (rewrite g (batch_of file items es ds)) xs bs r ys fs) e k))
