-- The fields of a line of 01's program `takes`, and what a field says: a number or bytes. A line is its bytes without the newline.
use Rattle.std.specs.Prelude.{Bool, cond, ◌&&◌, List, [], ◌∷◌, ℕ, ◌+◌, ◌*◌, ◌-◌, eqb, leb, ltb}
use Rattle.std.specs.Prelude.{Option, None, Some}

module _ {A B : Type 0} where
  -- f of what is there; none without it
  unfoldable pub bind : Option A → (A → Option B) → Option B
  bind None f = None
  bind (Some a) f = f a

-- ---- fields are parted by commas, with no quoting

abbrev pub comma : ℕ
comma = 44

-- the bytes up to the first comma
unfoldable pub first_field : List ℕ → List ℕ
first_field [] = []
first_field (b ∷ s) = cond (eqb b comma) [] (b ∷ first_field s)

-- the fields behind the first, one for each comma
unfoldable pub other_fields : List ℕ → List (List ℕ)
other_fields [] = []
other_fields (b ∷ s) = cond (eqb b comma) (first_field s ∷ other_fields s) (other_fields s)

-- ---- numbers are decimal

unfoldable pub is_digit_byte : ℕ → Bool
is_digit_byte b = leb 48 b && leb b 57

-- the value of digits behind those of the value n; none if a byte is no digit
unfoldable pub decimal_from : ℕ → List ℕ → Option ℕ
decimal_from n [] = Some n
decimal_from n (b ∷ s) = cond (is_digit_byte b) (decimal_from (n * 10 + (b - 48)) s) None

unfoldable pub below : ℕ → Option ℕ → Option ℕ
below limit o = bind o (λ n. cond (ltb n limit) (Some n) None)

-- a number is one or more digits, leading zeros too, of a value below a limit
unfoldable pub number : ℕ → List ℕ → Option ℕ
number limit [] = None
number limit (b ∷ s) = below limit (decimal_from 0 (b ∷ s))

-- ---- bytes are hexadecimal, in either case

unfoldable pub hex_digit : ℕ → Option ℕ
hex_digit b =
    cond (is_digit_byte b) (Some (b - 48))
    (cond (leb 65 b && leb b 70) (Some (b - 55)) (cond (leb 97 b && leb b 102) (Some (b - 87)) None))

-- two digits a byte; an odd number of digits is none
unfoldable pub hexadecimal : List ℕ → Option (List ℕ)
hexadecimal [] = Some []
hexadecimal (a ∷ []) = None
hexadecimal (a ∷ (b ∷ s)) =
    bind (hex_digit a) (λ h. bind (hex_digit b) (λ l. bind (hexadecimal s) (λ bs. Some ((h * 16 + l) ∷ bs))))
