-- `take_cleaned_region_logs`: what is answered, the lent list and the area at exit.
use Rattle.std.specs.Prelude.{List, [], ◌≡◌, ℕ, length}
use Rattle.rules.specs.Causes.{by_cause, ByCause, Err, Ok, and_then}
use Rattle.rules.specs.Context.{with_cleaned}
use Rattle.rules.specs.Queries.{take_cleaned, after_taking, answered, lent_after}
use Rattle.lists.specs.Rest.{cleaned_in, rest_of}
use Rattle.lists.specs.Rest as lists
use Rattle.lists.specs.Calls.{Becomes}
use Rattle.contexts.specs.Contexts.{context_of, Wf}

pub record CleanedTaken (xs bs lent : List ℕ) (r : ByCause ℕ) (xs' lent' : List ℕ) : Type 0 where
  pub number : by_cause r ≡ and_then (take_cleaned lent (context_of xs bs)) (λ rows. Ok (length rows))
  pub list-is : lent' ≡ lent_after lent (take_cleaned lent (context_of xs bs))
  pub context-is : context_of xs' bs ≡ after_taking (take_cleaned lent (context_of xs bs)) (context_of xs bs)
  pub wf : Wf xs' bs

-- the numbers ys behind the groups after the cleaned numbers were handed out; where there is no room they are as they were
unfoldable pub EmptiedBy : ByCause ℕ → List ℕ → List ℕ → List ℕ → Type 0
EmptiedBy (Ok n) ys cs ys' = Becomes (with_cleaned [] (rest_of ys cs)) ys cs ys'
EmptiedBy (Err e) ys cs ys' = ys' ≡ ys

pub record HandedOut (ys lent : List ℕ) (r : ByCause ℕ) (ys' lent' : List ℕ) : Type 0 where
  pub number : by_cause r ≡ and_then (answered lent (Ok (cleaned_in ys))) (λ rows. Ok (length rows))
  pub list-is : lent' ≡ lent_after lent (answered lent (Ok (cleaned_in ys)))
  pub emptied : (cs : List ℕ) → lists.Wf ys cs → EmptiedBy r ys cs ys'
