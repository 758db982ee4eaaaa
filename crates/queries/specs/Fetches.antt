-- Queries with lent lists: what is answered, and what stands in the lists at exit.
use Rattle.std.specs.Prelude.{List, ◌≡◌, ℕ, length, Option, option_copied}
use denote.Ref.{Bor}
use Rattle.rules.specs.Causes.{by_cause, ByCause, Result, Ok, Err, refuse, and_then}
use Rattle.rules.specs.TableQueries.{KeyValue}
use Rattle.rules.specs.Queries.{answered, lent_after}
use Rattle.key_lists.specs.Lists.{lent_list, lens_after, bytes_after}

-- an answer of the rules, given in two lent lists of rows: r is returned, and lens' and out' are the lists at exit
pub record KeysFetched (answer : Result (List KeyValue)) (lens out : List ℕ) (r : ByCause ℕ) (lens' out' : List ℕ) : Type 0 where
  pub number : by_cause r ≡ and_then (answered (lent_list lens out) answer) (λ rows. Ok (length rows))
  pub lens-are : lens' ≡ lens_after (answered (lent_list lens out) answer) lens
  pub bytes-are : out' ≡ bytes_after (answered (lent_list lens out) answer) out
  -- the rows of the list at exit are those that the rules leave there
  pub rows_are : lent_list lens' out' ≡ lent_after (lent_list lens out) (answered (lent_list lens out) answer)

-- numbers, given in a lent list: r is returned, and lent' is the list at exit
pub record NumbersFetched (answer : Result (List ℕ)) (lent : List ℕ) (r : ByCause ℕ) (lent' : List ℕ) : Type 0 where
  pub number : by_cause r ≡ and_then answer (λ rows. Ok (length rows))
  pub list-is : lent' ≡ lent_after lent answer

-- ---- `get`

-- what is answered, where the part of the area that is handed back is read as the value
abbrev pub got_of : ByCause (Option (Bor (List ℕ))) → Result (Option (List ℕ))
got_of (Ok value) = Ok (option_copied value)
got_of (Err e) = refuse e
