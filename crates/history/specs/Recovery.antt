-- One pass over a list of batches, its history, and recovery by runs that are merged.
use Rattle.std.specs.Prelude.{◌≡◌, List, [], ◌∷◌, ◌++◌, ℕ}
use Rattle.std.specs.Prelude.{Option}
use Rattle.rules.specs.Causes.{Refusal, Result, Ok, Err, left}
use Rattle.rules.specs.Items.{Append, LogItem, Batch}
use Rattle.rules.specs.Context.{Context, fresh}
use Rattle.rules.specs.Calls.{replay, merge, join, append, rewrite}
use Rattle.rules.specs.Queries.{take_cleaned, after_taking}

-- the context that took the whole list: batches replayed in order, a refused one leaving it as it was
unfoldable pub one_pass : List Batch → Context → Context
one_pass [] c = c
one_pass (b ∷ bs) c = one_pass bs (left c (replay b c))

-- a batch is kept in the history if it was accepted
unfoldable pub keep_if : Result Context → Batch → List Batch → List Batch
keep_if (Ok d) b bs = b ∷ bs
keep_if (Err r) b bs = bs

-- the history: the accepted batches
unfoldable pub history : List Batch → Context → List Batch
history [] c = []
history (b ∷ bs) c = keep_if (replay b c) b (history bs (left c (replay b c)))

unfoldable pub items_of : List Batch → List LogItem
items_of [] = []
items_of (b ∷ bs) = b.items ++ items_of bs

-- runs, which may be empty, and the order in which neighbouring ones are merged, newer into older
pub data Runs : Type 0 where
  run : List Batch → Runs
  merged : Runs → Runs → Runs

unfoldable pub batches_of : Runs → List Batch
batches_of (run bs) = bs
batches_of (merged older newer) = batches_of older ++ batches_of newer

-- the contexts that these runs are made into by calls of replay and merge on contexts as the last call left them;
-- calls of any kind that are refused may come in between
pub data Made : Runs → Context → Type 0 where
  started : Made (run []) (fresh Append)
  replayed : {bs : List Batch} {c : Context} (b : Batch) (d : Context) → Made (run bs) c → replay b c ≡ Ok d → Made (run (bs ++ (b ∷ []))) d
  merged_into : {s t : Runs} {c d : Context} (e : Context) → Made s c → Made t d → merge d c ≡ Ok e → Made (merged s t) e
  refused_replay : {t : Runs} {c : Context} (b : Batch) (r : Refusal) → Made t c → replay b c ≡ Err r → Made t (left c (replay b c))
  refused_merge : {t : Runs} {c : Context} (d : Context) (r : Refusal) → Made t c → merge d c ≡ Err r → Made t (left c (merge d c))
  refused_join : {t : Runs} {c : Context} (d : Context) (r : Refusal) → Made t c → join d c ≡ Err r → Made t (left c (join d c))
  refused_append : {t : Runs} {c : Context} (b : Batch) (r : Refusal) → Made t c → append b c ≡ Err r → Made t (left c (append b c))
  refused_rewrite : {t : Runs} {c : Context} (gate : Option ℕ) (b : Batch) (r : Refusal) → Made t c → rewrite gate b c ≡ Err r → Made t (left c (rewrite gate b c))
  refused_taking : {t : Runs} {c : Context} (lent : List ℕ) (r : Refusal) → Made t c → take_cleaned lent c ≡ Err r → Made t (after_taking (take_cleaned lent c) c)
