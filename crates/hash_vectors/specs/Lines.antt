-- A line of the file of vectors.
use Rattle.std.specs.Prelude.{◌≡◌, List, ℕ, [], ◌∷◌, ◌++◌}
use Rattle.std.specs.Str.Parse.{digits_value}
use Rattle.text.specs.Decimals.{IsNumber}

-- two numbers, the first ended by a space and the second by a line end
pub record IsVector (line : List ℕ) (i o : ℕ) : Type 0 where
  pub input : List ℕ
  pub output : List ℕ
  pub line_is : line ≡ input ++ (32 ∷ (output ++ (10 ∷ [])))
  pub input_is : IsNumber input × (i ≡ digits_value 10 input)
  pub output_is : IsNumber output × (o ≡ digits_value 10 output)

-- a text whose first line is such a vector, with the rest behind it
abbrev pub BeginsWithVector : List ℕ → ℕ → ℕ → List ℕ → Type 0
BeginsWithVector text i o rest = (line : List ℕ) × (text ≡ line ++ rest) × IsVector line i o
