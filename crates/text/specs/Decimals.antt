-- The numbers that words of decimal digits stand for.
use Rattle.std.specs.Prelude.{List, ℕ, ◌<◌, ◌^◌, ◌==◌, ◌≡◌, [], ◌∷◌, ◌++◌, length, map, take, cond, slice_index, ◌≢◌, All}
use Rattle.std.specs.List.{slice_split}
use Rattle.std.specs.Str.Parse.{IsNumeral, digits_value}

-- a word is one or more decimal digits, of a value that a u64 holds
abbrev pub IsNumber : List ℕ → Type 0
IsNumber word = IsNumeral 10 word × (digits_value 10 word < 2 ^ 64)

-- a text begins with a word that is a number of this value, then the byte `end`, then the rest
pub record IsNumberBefore (text : List ℕ) (end value : ℕ) (rest : List ℕ) : Type 0 where
  pub word : List ℕ
  pub parts : text ≡ word ++ (end ∷ rest)
  pub number : IsNumber word × (value ≡ digits_value 10 word)

-- the words of a line, with a space between each two, and the numbers that they stand for
abbrev pub words_in : List ℕ → List (List ℕ)
words_in line = slice_split (λ b. b == 32) line

abbrev pub numbers_in : List ℕ → List ℕ
numbers_in line = map (digits_value 10) (words_in line)

-- the lines of a text, each of which a line end ends
abbrev pub lines_of : List ℕ → List (List ℕ)
lines_of [] = []
lines_of (b ∷ bs) = slice_split (λ c. c == 10) (take (length bs) (b ∷ bs))

-- a line that begins with # stands for no numbers, and may have any words
abbrev pub numbers_told : List ℕ → List ℕ
numbers_told line = cond (slice_index line 0 == 35) [] (numbers_in line)

abbrev pub IsWellFormed : List ℕ → Type 0
IsWellFormed line = slice_index line 0 ≢ 35 → All IsNumber (words_in line)
