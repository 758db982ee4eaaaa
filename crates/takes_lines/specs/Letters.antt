-- The bytes of the letters. Assumes nothing.
use Rattle.std.specs.Prelude.{false, ◌≡◌, ℕ, Option, None, Some, Result, MatchResult}
use Rattle.takes_lines.specs.declared.fields.Letter.{Letter}
use Rattle.takes_lines.specs.declared.fields.Letter.TheVariants.{Entries, Put, Del, Compact, Clean, Merge}
use Rattle.takes_lines.specs.declared.line.Malformed.{Malformed}
use Rattle.takes_rules.specs.Lines.{letter_e, letter_p, letter_d, letter_c, letter_x, letter_m}
use Rattle.takes_lines.specs.Reading.{is_letter}

abbrev pub byte_of : Letter → ℕ
byte_of Entries = letter_e
byte_of Put = letter_p
byte_of Del = letter_d
byte_of Compact = letter_c
byte_of Clean = letter_x
byte_of Merge = letter_m

-- 0 where there is none
abbrev pub letter_number : Option Letter → ℕ
letter_number None = 0
letter_number (Some l) = byte_of l

-- the result is the letter with this byte, or the byte is no letter
abbrev pub Decodes : ℕ → Result Letter Malformed → Type 0
Decodes b r = MatchResult r (λ l. byte_of l ≡ b) (λ e. is_letter b ≡ false)
