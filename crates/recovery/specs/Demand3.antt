-- Demand 3 of the calls, clause by clause.
use Rattle.rules.specs.Causes.{Result, Ok}
use Rattle.std.specs.Prelude.{List, ◌∷◌, ◌++◌, map, ◌≡◌}
use Rattle.rules.specs.Items.{Batch}
use Rattle.rules.specs.Calls.{replay, merge}
use Rattle.history.specs.Held.{Premise}
use Rattle.history.specs.Recovery.{items_of, Runs, run, merged, batches_of}
use Rattle.history.specs.Demand3.{Last}
use Rattle.recovery.specs.Areas.{Area, context_in, CallOn, Took, MadeBy, LentBatch, batch_in, Ending}

-- 'every list of Append batches replayed in order into one fresh Append context, refused ones included': area a took the batches, and
-- `taken` are those that were accepted, 'the history'
pub record Demand3 (batches taken : List Batch) (a : Area) : Type 1 where
  -- 'every replay .. is accepted': whatever the call of the next batch of a run answers, it is that the batch is accepted
  pub replay-accepted :
      (before so_far after : List Batch) (b : Batch) (c z : Area) (r : Result (Unit {0}))
      → taken ≡ before ++ (so_far ++ (b ∷ after))
      → MadeBy (run so_far) c
      → CallOn (replay b) c r z
      → r ≡ Ok tt
  -- 'and merge': of neighbouring stretches of the history, newer into older, each made by runs and merges of its own
  pub merge-accepted :
      (before after : List Batch) (older newer : Runs) (c d z : Area) (r : Result (Unit {0}))
      → taken ≡ before ++ (batches_of (merged older newer) ++ after)
      → MadeBy older c
      → MadeBy newer d
      → CallOn (merge (context_in d)) c r z
      → r ≡ Ok tt
  -- 'The last context': of runs that the whole history was cut into
  pub last : (runs : Runs) (z : Area) → batches_of runs ≡ taken → MadeBy runs z → Last batches (context_in z)
  -- it 'equals the one that took the whole list'
  pub same : (runs : Runs) (z : Area) → batches_of runs ≡ taken → MadeBy runs z → context_in z ≡ context_in a

-- demand 3 as one claim: premise, 'there each compaction leaves its group an entry or finds none'
abbrev pub Claim : Type 1
Claim = (batches taken : List Batch) (a : Area) → Took batches taken a → Premise (items_of taken) → Demand3 batches taken a

-- and it is never empty: since the calls end, every cutting of the history of lent batches, merged in any order, has a last area
abbrev pub Reached : Type 1
Reached =
    Ending → (batches : List Batch) (lent : List LentBatch) (a : Area) → Took batches (map batch_in lent) a → Premise (items_of (map batch_in lent))
    → (runs : Runs) → batches_of runs ≡ map batch_in lent
    → (z : Area) × MadeBy runs z × Last batches (context_in z)
