-- The number of one place staged, and one place after the other. Assumes nothing.
use mathlib.Core.List.{List, [], ◌∷◌}
use Rattle.std.specs.Prelude.{Some, None, Option}
use mathlib.Core.Path.{◌≡◌}
use Prim.Native.Nat.{ℕ, suc, ◌+◌}
use native.Mathlib.Numerals.{add-one}
use native.Mathlib.Omega.{arith}
use lib.Dec.{ltb}
use borrow.Author.Tests.{ltb-true}
use Rattle.maps.specs.OrderLaws.{split}
use Rattle.rules.specs.Causes.{Result}
use Rattle.rules.specs.Table.{Table}
use Rattle.staging.specs.declared.Flags.{Flags}
use Rattle.groups.specs.AreaLaws.{same-stretch}
use Rattle.groups.specs.Undo.{live_numbers}
use Rattle.contexts.specs.Contexts.{context_of}
use Rattle.worktable.specs.declared.Mode.{Mode}
use Rattle.staging.specs.Staging.{no_flags, Ready, Beside, Staging}
use Rattle.staging.specs.StagingLaws.{staging-none, staging-then}
use Rattle.staging.specs.Modes.{group_by, Given, stretch_number, number_at, firsts, numbers_of}
use Rattle.staging.specs.ModeLaws.{beside-context}

none_of : (n : Option ℕ) (gs : List ℕ) → n ≡ None → numbers_of n ≡ gs → [] ≡ gs
unfolding numbers_of
none_of n gs e h = rw e at h

one_of : (n : Option ℕ) (g : ℕ) (gs : List ℕ) → n ≡ Some g → numbers_of n ≡ gs → g ∷ [] ≡ gs
unfolding numbers_of
one_of n g gs e h = rw e at h

module _ (at : ℕ → Result (Option Table)) (n : Option ℕ) (gs : List ℕ) (f : Flags) (xs bs : List ℕ) (h : numbers_of n ≡ gs) where
  pub turn-none : n ≡ None → Ready xs bs → Staging at gs f xs bs f xs bs
  turn-none e r = rw (← none_of n gs e h) (staging-none at f xs bs r)

  pub turn_one : (g : ℕ) (r : Flags) (xs' bs' : List ℕ) → n ≡ Some g → Staging at (g ∷ []) f xs bs r xs' bs' → Staging at gs f xs bs r xs' bs'
  turn_one g r xs' bs' e s = rw (← one_of n g gs e h) s

-- ---- one place after the other

-- the number of a place is as it was
number_same : (xs bs xs' bs' ys : List ℕ) (i : ℕ) → Beside xs bs xs' bs' → number_at xs' ys i ≡ number_at xs ys i
unfolding number_at stretch_number
number_same xs bs xs' bs' ys i b =
    split (ltb i 8)
    (λ e. let l = ltb-true i 8 e in rw (e, same-stretch i live_numbers xs' xs (omega arith) b.live))
    (λ e. rw e)

module _ (m : Mode) (xs₀ bs₀ ys cs : List ℕ) (given : Given m xs₀ bs₀ ys cs) where
  pub all_none : Ready xs₀ bs₀ → Staging (group_by m (context_of ys cs) (context_of xs₀ bs₀)) (firsts (number_at xs₀ ys) 0) no_flags xs₀ bs₀ no_flags xs₀ bs₀
  unfolding firsts
  all_none r = staging-none (group_by m (context_of ys cs) (context_of xs₀ bs₀)) no_flags xs₀ bs₀ r

  more : (i : ℕ) (f g : Flags) (xs bs xs' bs' : List ℕ) → Staging (group_by m (context_of ys cs) (context_of xs₀ bs₀)) (firsts (number_at xs₀ ys) i) no_flags xs₀ bs₀ f xs bs → Staging (group_by m (context_of ys cs) (context_of xs bs)) (number_at xs ys i) f xs bs g xs' bs' → Staging (group_by m (context_of ys cs) (context_of xs₀ bs₀)) (firsts (number_at xs₀ ys) (suc i)) no_flags xs₀ bs₀ g xs' bs'
  unfolding firsts
  more i f g xs bs xs' bs' a t =
      staging-then (group_by m (context_of ys cs) (context_of xs₀ bs₀)) (firsts (number_at xs₀ ys) i) (number_at xs₀ ys i) no_flags f g xs₀ bs₀ xs bs xs' bs' a
      (rw (beside-context a.beside given.wf, number_same xs₀ bs₀ xs bs ys i a.beside) at t)

  pub all_more : (i : ℕ) (f g : Flags) (xs bs xs' bs' : List ℕ) → Staging (group_by m (context_of ys cs) (context_of xs₀ bs₀)) (firsts (number_at xs₀ ys) i) no_flags xs₀ bs₀ f xs bs → Staging (group_by m (context_of ys cs) (context_of xs bs)) (number_at xs ys i) f xs bs g xs' bs' → Staging (group_by m (context_of ys cs) (context_of xs₀ bs₀)) (firsts (number_at xs₀ ys) (i + 1)) no_flags xs₀ bs₀ g xs' bs'
  all_more i f g xs bs xs' bs' a t = rw (add-one i) (more i f g xs bs xs' bs' a t)
