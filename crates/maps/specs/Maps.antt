-- Maps as association lists that ascend strictly by their keys, over one record of an order: groups by number, keys in byte order.
use Rattle.std.specs.Prelude.{Bool, true, false, cond, ◌&&◌, ◌||◌, List, [], ◌∷◌, ℕ, ltb, eqb}
use Rattle.std.specs.Prelude.{Option, None, Some}

pub record Order (K : Type 0) : Type 0 where
  pub same : K → K → Bool
  pub below : K → K → Bool

pub record Pair (K A : Type 0) : Type 0 where
  pub key : K
  pub val : A

abbrev pub Map : Type 0 → Type 0 → Type 0
Map K A = List (Pair K A)

module _ {K A : Type 0} (o : Order K) where
  unfoldable pub lookup : K → Map K A → Option A
  lookup k [] = None
  lookup k (x ∷ xs) = cond (o.same k x.key) (Some x.val) (lookup k xs)

  unfoldable pub insert : K → A → Map K A → Map K A
  insert k a [] = record { key = k; val = a } ∷ []
  insert k a (x ∷ xs) =
      cond (o.same k x.key)
      (record { key = k; val = a } ∷ xs)
      (cond (o.below k x.key) (record { key = k; val = a } ∷ (x ∷ xs)) (x ∷ insert k a xs))

  unfoldable pub remove : K → Map K A → Map K A
  remove k [] = []
  remove k (x ∷ xs) = cond (o.same k x.key) xs (x ∷ remove k xs)

  -- the map with k at what is given, or without k
  unfoldable pub store : K → Option A → Map K A → Map K A
  store k None m = remove k m
  store k (Some a) m = insert k a m

  -- each pair of the newer map laid over the older map by f
  unfoldable pub merge_with : (Option A → A → A) → Map K A → Map K A → Map K A
  merge_with f older [] = older
  merge_with f older (x ∷ xs) = merge_with f (insert x.key (f (lookup x.key older) x.val) older) xs

-- group numbers
abbrev pub numbers : Order ℕ
numbers = record { same = eqb; below = ltb }

-- byte order, a prefix first
unfoldable pub equal_bytes : List ℕ → List ℕ → Bool
equal_bytes [] [] = true
equal_bytes [] (y ∷ ys) = false
equal_bytes (x ∷ xs) [] = false
equal_bytes (x ∷ xs) (y ∷ ys) = eqb x y && equal_bytes xs ys

unfoldable pub bytes_below : List ℕ → List ℕ → Bool
bytes_below [] [] = false
bytes_below [] (y ∷ ys) = true
bytes_below (x ∷ xs) [] = false
bytes_below (x ∷ xs) (y ∷ ys) = ltb x y || (eqb x y && bytes_below xs ys)

abbrev pub bytes : Order (List ℕ)
bytes = record { same = equal_bytes; below = bytes_below }
