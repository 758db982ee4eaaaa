-- Every answer as three numbers: the number of the refusal, 0 for none, and what else is told.
use Rattle.rules.specs.Items.{EntryIndex}
use Rattle.rules.specs.Causes.{Cause, number_of, ByCause, Result, Ok, Err}
use Rattle.std.specs.Prelude.{Option, Some, None, Bool, true, false, List, [], ◌∷◌, ℕ}

abbrev pub three : ℕ → ℕ → ℕ → List ℕ
three n c v = n ∷ c ∷ v ∷ []

abbrev pub told_refused : Cause → List ℕ
told_refused e = three (number_of e) 0 0

-- a value that may be absent: 1 and the value, or 0 0
abbrev pub told_option : ℕ → Option ℕ → List ℕ
told_option n None = three n 0 0
told_option n (Some i) = three n 1 i

-- a refusal with its position
abbrev pub told_answer : Result (Unit {0}) → List ℕ
told_answer (Ok _) = three 0 0 0
told_answer (Err r) = told_option (number_of r.cause) r.place

abbrev pub told_number : ByCause (Option ℕ) → List ℕ
told_number (Ok found) = told_option 0 found
told_number (Err e) = told_refused e

-- the number of rows of a list that was lent
abbrev pub told_count : ByCause ℕ → List ℕ
told_count (Ok n) = three 0 n 0
told_count (Err e) = told_refused e

-- 1 for true, and 0 for false
abbrev pub told_flag : Bool → List ℕ
told_flag true = three 0 1 0
told_flag false = three 0 0 0

abbrev pub told_entry : ByCause (Option EntryIndex) → List ℕ
told_entry (Ok None) = three 0 0 0
told_entry (Ok (Some e)) = three 0 1 0
told_entry (Err e) = told_refused e

abbrev pub told_before : ByCause Bool → List ℕ
told_before (Ok b) = told_flag b
told_before (Err e) = told_refused e
