-- What the calls on a context's lists promise.
use Rattle.std.specs.Prelude.{List, [], ◌∷◌, ◌++◌, ◌≡◌, ℕ, ◌≤◌, get_or, drop}
use Rattle.rules.specs.Items.{LogItem}
use Rattle.rules.specs.Context.{Kind, context, index, Context, with_tombstones, with_cleaned}
use Rattle.lists.specs.declared.Kind as kind
use Rattle.lists.specs.Rest.{list_numbers, list_bytes, tombstones_in, cleaned_in, rest_of, Wf, cut_to}

-- what an area stands for, as the rules' kind
unfoldable pub kind_as : kind.Kind → Kind
kind_as (kind.TheVariants.Context q) = context q
kind_as kind.TheVariants.Index = index

-- what lies behind the lists is as it was
pub record Behind (ys cs ys' cs' : List ℕ) : Type 0 where
  pub numbers : drop list_numbers ys' ≡ drop list_numbers ys
  pub bytes : drop list_bytes cs' ≡ drop list_bytes cs

-- the lists become those of r
pub record Becomes (r : Context) (ys cs ys' : List ℕ) : Type 0 where
  pub rest : rest_of ys' cs ≡ r
  pub behind : Behind ys cs ys' cs
  pub wf : Wf ys' cs

-- cut back to t tombstones and n cleaned numbers the lists are those of r
pub record Back (t n : ℕ) (r : Context) (ys cs : List ℕ) : Type 0 where
  pub rest : rest_of (cut_to t n ys) cs ≡ r
  pub wf : Wf (cut_to t n ys) cs

-- whatever shorter lists could be gone back to can be gone back to still
pub record Keeps (ys cs ys' cs' : List ℕ) : Type 0 where
  pub back : (t n : ℕ) (r : Context) → t ≤ get_or ys 1 0 → n ≤ get_or ys 2 0 → Back t n r ys cs → Back t n r ys' cs'
  pub tombstones-grow : get_or ys 1 0 ≤ get_or ys' 1 0
  pub cleaned-grow : get_or ys 2 0 ≤ get_or ys' 2 0

pub record TombstonesAdded (its : List LogItem) (ys cs ys' cs' : List ℕ) : Type 0 where
  pub rest : rest_of ys' cs' ≡ with_tombstones (tombstones_in ys cs ++ its) (rest_of ys cs)
  pub keeps : Keeps ys cs ys' cs'
  pub behind : Behind ys cs ys' cs'
  pub wf : Wf ys' cs'

abbrev pub TombstoneAdded : LogItem → List ℕ → List ℕ → List ℕ → List ℕ → Type 0
TombstoneAdded it = TombstonesAdded (it ∷ [])

pub record AllCleanedAdded (gs : List ℕ) (ys cs ys' : List ℕ) : Type 0 where
  pub rest : rest_of ys' cs ≡ with_cleaned (cleaned_in ys ++ gs) (rest_of ys cs)
  pub keeps : Keeps ys cs ys' cs
  pub behind : Behind ys cs ys' cs
  pub wf : Wf ys' cs

abbrev pub CleanedAdded : ℕ → List ℕ → List ℕ → List ℕ → Type 0
CleanedAdded g = AllCleanedAdded (g ∷ [])
