-- The lines that 01's program `takes` prints.
use Rattle.std.specs.Prelude.{cond, List, [], ◌∷◌, ◌++◌, ℕ, zero, suc, ◌+◌, ◌/◌, ◌%◌, ltb}
use Rattle.takes_rules.specs.Fields.{comma}

-- the decimal digits of n, of which there are at most k, before s
unfoldable pub digits_before : ℕ → ℕ → List ℕ → List ℕ
digits_before zero n s = s
digits_before (suc k) n s = cond (ltb n 10) ((48 + n) ∷ s) (digits_before k (n / 10) ((48 + n % 10) ∷ s))

-- a number below 2^64 has at most 20 digits
unfoldable pub decimal : ℕ → List ℕ
decimal n = digits_before 20 n []

-- numbers, each behind a comma
unfoldable pub fields_text : List ℕ → List ℕ
fields_text [] = []
fields_text (n ∷ ns) = comma ∷ (decimal n ++ fields_text ns)

-- a letter, its numbers and the newline
unfoldable pub line_text : ℕ → List ℕ → List ℕ
line_text letter ns = (letter ∷ fields_text ns) ++ (10 ∷ [])

-- G,group,first,entries,keys; first is 0 if there is none
unfoldable pub group_line : ℕ → ℕ → ℕ → ℕ → List ℕ
group_line group first entries keys = line_text 71 (group ∷ (first ∷ (entries ∷ (keys ∷ []))))

-- L,append,rewrite: live counts
unfoldable pub live_line : ℕ → ℕ → List ℕ
live_line append rewrite = line_text 76 (append ∷ (rewrite ∷ []))

-- R,line,number: a refusal
unfoldable pub refusal_line : ℕ → ℕ → List ℕ
refusal_line line number = line_text 82 (line ∷ (number ∷ []))

-- B,line: a malformed line
unfoldable pub malformed_line : ℕ → List ℕ
malformed_line line = line_text 66 (line ∷ [])
