-- A loop that lays a stretch in: each store takes what is laid in so far to one element more. Assumes nothing.
use Prim.Native.Nat.{ℕ, ◌+◌, ◌<◌}
use native.Mathlib.Omega.{arith}
use mathlib.Core.Path.{◌≡◌, refl, sym, ◌∙◌}
use mathlib.Core.List.{List, [], ◌∷◌, ◌++◌}
use lib.ListN.{length, set, length-set}
use Rattle.cells.specs.Part.{put}
use Rattle.cells.specs.PartLaws.{put-nil, put-snoc}

module _ {A : Type 0} where
  -- l is d with s laid in from place at, and as long as d
  pub record Laid (d : List A) (at : ℕ) (s l : List A) : Type 0 where
    pub is : l ≡ put d at s
    pub long : length l ≡ length d

  -- before the first turn
  pub laid_none : (d : List A) (at : ℕ) → Laid d at [] d
  laid_none d at = record { is = sym (put-nil d at); long = refl }

  -- one more behind what is laid in
  pub laid-snoc : {d : List A} {at : ℕ} {s l s' : List A} (i : ℕ) (v : A) → Laid d at s l → s ++ (v ∷ []) ≡ s' → length s ≡ i → at + i < length d → Laid d at s' (set l (at + i) v)
  laid-snoc {d} {at} {s} {l} i v h e n b =
      record {
        is = rw (h.is, ← n, ← e) (put-snoc d at s v (omega arith));
        long = length-set l (at + i) v ∙ h.long;
      }
