-- The plan of a fetch, or its refusal.
use Rattle.std.specs.Prelude.{List, ◌≡◌, ℕ, drop}
use Rattle.pipe_log.specs.Rows.{window}
use Rattle.rules.specs.Causes.{ByCause, Ok, Err, Result, refuse}
use Rattle.rules.specs.Items.{EntryIndex}
use Rattle.memtable.specs.Columns.{judged}
use Rattle.records.specs.declared.Plan.{Plan}
use Rattle.records.specs.Filling.{Fillable}

-- a plan stores the records of an answer, for which a list has room
pub record Storing (answer : Result (List EntryIndex)) (xs : List ℕ) (room : ℕ) (p : Plan) : Type 0 where
  pub fillable : Fillable p.at p.first p.count xs room
  pub records-are : answer ≡ Ok (window p.first p.count (drop p.at xs))

-- what is decided on an answer that goes into a list
abbrev pub Planned : Result (List EntryIndex) → List ℕ → ℕ → ByCause Plan → Type 0
Planned answer xs room (Ok p) = Storing answer xs room p
Planned answer xs room (Err e) = judged room answer ≡ refuse e
