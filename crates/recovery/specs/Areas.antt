-- Areas as calls leave them. A call is known by its contract alone: the answer, and the area at exit.
use Rattle.std.specs.Prelude.{List, [], ◌∷◌, ◌++◌, ◌≡◌, ℕ}
use Rattle.std.specs.Prelude.{Option}
use Rattle.rules.specs.Causes.{Cause, Ok, Refusal, Result, Err}
use Rattle.rules.specs.Items.{Append, FileId, Batch}
use Rattle.rules.specs.Context.{Context}
use Rattle.rules.specs.Calls.{replay, merge, join, append, rewrite}
use Rattle.rules.specs.Queries.{take_cleaned, after_taking}
use Rattle.log_batch.specs.Lent.{batch_of}
use Rattle.contexts.specs.Contexts.{context_of, Wf, Called, FreshArea}
use Rattle.history.specs.Recovery.{Runs, run, merged}

-- the two slices of an area
pub record Area : Type 0 where
  pub numbers : List ℕ
  pub bytes : List ℕ

-- what an area stands for
abbrev pub context_in : Area → Context
context_in a = context_of a.numbers a.bytes

-- what a call requires of an area
abbrev pub WfIn : Area → Type 0
WfIn a = Wf a.numbers a.bytes

-- `fresh` left area a
abbrev pub FreshIn : Area → Type 0
FreshIn a = FreshArea Append a.numbers a.bytes

-- a call on area a was answered r and left area z
abbrev pub CallOn : (Context → Result Context) → Area → Result (Unit {0}) → Area → Type 0
CallOn call a r z = Called call a.numbers a.bytes r z.numbers z.bytes

-- the area that took a list of batches, each replayed in order into it, with those of them that were accepted
pub data Took : List Batch → List Batch → Area → Type 0 where
  started : (a : Area) → FreshIn a → Took [] [] a
  accepted : {bs taken : List Batch} {a : Area} (b : Batch) (z : Area) → Took bs taken a → CallOn (replay b) a (Ok tt) z → Took (bs ++ (b ∷ [])) (taken ++ (b ∷ [])) z
  refused_one : {bs taken : List Batch} {a : Area} (b : Batch) (n : Cause) (p : Option ℕ) (z : Area) → Took bs taken a → CallOn (replay b) a (Err (record { cause = n; place = p })) z → Took (bs ++ (b ∷ [])) taken z

-- the areas that runs are made into by calls of `fresh`, `replay` and `merge` on areas as the last call left them; calls of any
-- kind that are refused may come in between
pub data MadeBy : Runs → Area → Type 0 where
  started : (a : Area) → FreshIn a → MadeBy (run []) a
  replayed : {bs : List Batch} {a : Area} (b : Batch) (z : Area) → MadeBy (run bs) a → CallOn (replay b) a (Ok tt) z → MadeBy (run (bs ++ (b ∷ []))) z
  merged_into : {s t : Runs} {a d : Area} (z : Area) → MadeBy s a → MadeBy t d → CallOn (merge (context_in d)) a (Ok tt) z → MadeBy (merged s t) z
  refused_replay : {t : Runs} {a : Area} (b : Batch) (n : Cause) (p : Option ℕ) (z : Area) → MadeBy t a → CallOn (replay b) a (Err (record { cause = n; place = p })) z → MadeBy t z
  refused_merge : {t : Runs} {a : Area} (d : Area) (n : Cause) (p : Option ℕ) (z : Area) → MadeBy t a → CallOn (merge (context_in d)) a (Err (record { cause = n; place = p })) z → MadeBy t z
  refused_join : {t : Runs} {a : Area} (d : Area) (n : Cause) (p : Option ℕ) (z : Area) → MadeBy t a → CallOn (join (context_in d)) a (Err (record { cause = n; place = p })) z → MadeBy t z
  refused_append : {t : Runs} {a : Area} (b : Batch) (n : Cause) (p : Option ℕ) (z : Area) → MadeBy t a → CallOn (append b) a (Err (record { cause = n; place = p })) z → MadeBy t z
  refused_rewrite : {t : Runs} {a : Area} (gate : Option ℕ) (b : Batch) (n : Cause) (p : Option ℕ) (z : Area) → MadeBy t a → CallOn (rewrite gate b) a (Err (record { cause = n; place = p })) z → MadeBy t z
  refused_taking : {t : Runs} {a : Area} (lent : List ℕ) (r : Refusal) (z : Area) → MadeBy t a → take_cleaned lent (context_in a) ≡ Err r → context_in z ≡ after_taking (take_cleaned lent (context_in a)) (context_in a) → WfIn z → MadeBy t z

-- a batch as a caller lends it
pub record LentBatch : Type 0 where
  pub file : FileId
  pub items : List ℕ
  pub entries : List ℕ
  pub bytes : List ℕ

abbrev pub batch_in : LentBatch → Batch
batch_in b = batch_of b.file b.items b.entries b.bytes

-- what a call's proof shows: on every area that meets its `requires` it ends, with an answer and an area that meet its `ensures`
pub record Ending : Type 0 where
  pub fresh-ends : (a : Area) × FreshIn a
  pub replay-ends : (b : LentBatch) (a : Area) → WfIn a → (r : Result (Unit {0})) × (z : Area) × CallOn (replay (batch_in b)) a r z
  pub merge-ends : (d a : Area) → WfIn d → WfIn a → (r : Result (Unit {0})) × (z : Area) × CallOn (merge (context_in d)) a r z
