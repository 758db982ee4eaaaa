-- What happens without the premise: the two smallest histories, of group 7, in which a compaction goes above all that its run
-- appended, so that it leaves its group no entry.
use mathlib.Core.Path.{◌≡◌, refl}
use mathlib.Core.List.{List, [], ◌∷◌, ◌++◌}
use Rattle.rules.specs.Causes.{Ok, refuse, AboveLast}
use Rattle.rules.specs.Items.{Append, Batch, entries, command, compact}
use Rattle.rules.proofs.Opened.{opened}
use Rattle.rules.proofs.Terms.{several, batch, recovered, merged, held}

-- run 1 is 1..4
abbrev pub first_run : List Batch
first_run = batch Append 1 (entries (several Append 1 1 4) ∷ []) ∷ []

-- run 2 appends 2 and compacts to 3
abbrev pub second_run : List Batch
second_run = batch Append 2 (entries (several Append 2 2 1) ∷ command (compact 3) ∷ []) ∷ []

-- the same with an append of 7 behind
abbrev pub longer_run : List Batch
longer_run = second_run ++ (batch Append 3 (entries (several Append 3 7 1) ∷ []) ∷ [])

pub record WithoutPremise : Type 0 where
  -- one pass holds none, and the runs merged hold 3..4
  pub pass-holds-none : held (recovered Append (first_run ++ second_run)) ≡ Ok []
  pub merged-holds : held (merged (recovered Append first_run) (recovered Append second_run)) ≡ Ok (3 ∷ 4 ∷ [])
  -- one pass holds 7, and the merge is refused with 14
  pub pass-holds-7 : held (recovered Append (first_run ++ longer_run)) ≡ Ok (7 ∷ [])
  pub merge-refused : merged (recovered Append first_run) (recovered Append longer_run) ≡ refuse AboveLast

pub without_premise : WithoutPremise
unfolding opened
without_premise = record { pass-holds-none = refl; merged-holds = refl; pass-holds-7 = refl; merge-refused = refl }
