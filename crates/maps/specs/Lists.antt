-- Functions on lists that the rules are written with.
use Rattle.std.specs.Prelude.{Bool, true, false, cond, ◌&&◌, ◌||◌, List, [], ◌∷◌, ℕ, suc, ◌+◌, min}
use Rattle.std.specs.Prelude.{Option, None, Some}

module _ {A : Type 0} where
  -- the elements that meet p
  unfoldable pub select : (A → Bool) → List A → List A
  select p [] = []
  select p (x ∷ xs) = cond (p x) (x ∷ select p xs) (select p xs)

  -- the elements before the first that does not meet p
  unfoldable pub front : (A → Bool) → List A → List A
  front p [] = []
  front p (x ∷ xs) = cond (p x) (x ∷ front p xs) []

  -- the elements from the first that does not meet p
  unfoldable pub rest : (A → Bool) → List A → List A
  rest p [] = []
  rest p (x ∷ xs) = cond (p x) (rest p xs) (x ∷ xs)

  unfoldable pub any : (A → Bool) → List A → Bool
  any p [] = false
  any p (x ∷ xs) = p x || any p xs

  unfoldable pub every : (A → Bool) → List A → Bool
  every p [] = true
  every p (x ∷ xs) = p x && every p xs

  unfoldable pub sum : (A → ℕ) → List A → ℕ
  sum f [] = 0
  sum f (x ∷ xs) = f x + sum f xs

  unfoldable pub first : List A → Option A
  first [] = None
  first (x ∷ xs) = Some x

  unfoldable pub last : List A → Option A
  last [] = None
  last (x ∷ []) = Some x
  last (x ∷ (y ∷ ys)) = last (y ∷ ys)

  -- the first position, counted from i, of an element that meets p at its position
  unfoldable pub find_from : (ℕ → A → Bool) → ℕ → List A → Option ℕ
  find_from p i [] = None
  find_from p i (x ∷ xs) = cond (p i x) (Some i) (find_from p (suc i) xs)

module _ {A B : Type 0} where
  unfoldable pub map_option : (A → B) → Option A → Option B
  map_option f None = None
  map_option f (Some a) = Some (f a)

  -- f of what is there, and otherwise d
  unfoldable pub or_else : B → (A → B) → Option A → B
  or_else d f None = d
  or_else d f (Some a) = f a

-- the lesser of two numbers that may be absent
unfoldable pub least : Option ℕ → Option ℕ → Option ℕ
least None b = b
least (Some a) None = Some a
least (Some a) (Some b) = Some (min a b)
