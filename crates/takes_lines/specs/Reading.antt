-- A line read byte by byte: what is known of it after each byte. `Reads` has the theorem that this is what the line says.
use Rattle.std.specs.Prelude.{Bool, false, cond, ◌&&◌, ◌||◌, List, [], ◌∷◌, ◌++◌, ℕ, suc, ◌+◌, ◌*◌, ◌-◌, eqb, ltb, take}
use Rattle.std.specs.Prelude.{Option, None, Some, is_some, unwrap_or}
use Rattle.rules.specs.Items.{EntryIndex, clean, compact, put, del, entries, command, kv}
use Rattle.takes_lines.specs.declared.fields.Field.{Field}
use Rattle.takes_lines.specs.declared.fields.Field.TheVariants.{Letter, Group, First, Index, File, Length, Key, Value, Extra}
use Rattle.takes_rules.specs.Fields.{bind, comma, is_digit_byte, hex_digit}
use Rattle.takes_rules.specs.Lines.{length_limit, number_limit, append_file, entry_at, batch_of_one, letter_e, letter_p, letter_d, letter_c, letter_x, letter_m, Line, malformed, next_run, batch}

-- what is kept of a list, a key or a value: one more than the bound of cause 2
abbrev pub kept_most : ℕ
kept_most = 33

-- the open field: the value of a number's digits, if it has one; the first digit of a byte, if it waits for the second
pub record Digits : Type 0 where
  pub number : Option ℕ
  pub high : Option ℕ

-- the fields by 01's names; `next` is the index of the next entry, from `first` on
pub record Named : Type 0 where
  pub group : ℕ
  pub next : ℕ
  pub index : ℕ
  pub file : ℕ
  pub entries : List EntryIndex
  pub key : List ℕ
  pub value : List ℕ

pub record Reading : Type 0 where
  pub letter : ℕ
  pub field : Field
  pub digits : Digits
  pub named : Named

-- ---- changes

abbrev pub no_digits : Digits
no_digits = record { number = None; high = None }

abbrev pub nothing : Named
nothing = record { group = 0; next = 0; index = 0; file = 0; entries = []; key = []; value = [] }

abbrev pub with_group : ℕ → Named → Named
with_group g n = record { group = g; next = n.next; index = n.index; file = n.file; entries = n.entries; key = n.key; value = n.value }

abbrev pub with_first : ℕ → Named → Named
with_first i n = record { group = n.group; next = i; index = n.index; file = n.file; entries = n.entries; key = n.key; value = n.value }

abbrev pub with_index : ℕ → Named → Named
with_index i n = record { group = n.group; next = n.next; index = i; file = n.file; entries = n.entries; key = n.key; value = n.value }

abbrev pub with_file : ℕ → Named → Named
with_file f n = record { group = n.group; next = n.next; index = n.index; file = f; entries = n.entries; key = n.key; value = n.value }

-- one more at the end, if there are not enough yet
unfoldable pub keep : {A : Type 0} → List A → A → List A
keep xs x = take kept_most (xs ++ (x ∷ []))

-- the entry of a length
abbrev pub with_entry : ℕ → Named → Named
with_entry length n =
    record {
      group = n.group;
      next = suc n.next;
      index = n.index;
      file = n.file;
      entries = keep n.entries (entry_at n.next n.file length);
      key = n.key;
      value = n.value;
    }

abbrev pub with_key_byte : ℕ → Named → Named
with_key_byte b n = record { group = n.group; next = n.next; index = n.index; file = n.file; entries = n.entries; key = keep n.key b; value = n.value }

abbrev pub with_value_byte : ℕ → Named → Named
with_value_byte b n = record { group = n.group; next = n.next; index = n.index; file = n.file; entries = n.entries; key = n.key; value = keep n.value b }

abbrev pub with_digits : Digits → Reading → Reading
with_digits d r = record { letter = r.letter; field = r.field; digits = d; named = r.named }

abbrev pub with_number : Option ℕ → Reading → Reading
with_number v r = with_digits (record { number = v; high = r.digits.high }) r

abbrev pub with_high : Option ℕ → Reading → Reading
with_high d r = with_digits (record { number = r.digits.number; high = d }) r

abbrev pub with_named : Named → Reading → Reading
with_named n r = record { letter = r.letter; field = r.field; digits = r.digits; named = n }

-- ---- one more byte of the open field; none is malformed

unfoldable pub is_letter : ℕ → Bool
is_letter b = eqb b letter_e || (eqb b letter_p || (eqb b letter_d || (eqb b letter_c || (eqb b letter_x || eqb b letter_m))))

unfoldable pub add_letter : Reading → ℕ → Option Reading
add_letter r b = cond (eqb r.letter 0 && is_letter b) (Some (record { letter = b; field = r.field; digits = r.digits; named = r.named })) None

-- a number without a digit counts as 0
unfoldable pub add_digit : ℕ → Reading → ℕ → Option Reading
add_digit limit r b =
    cond (is_digit_byte b && ltb (unwrap_or r.digits.number 0 * 10 + (b - 48)) limit)
    (Some (with_number (Some (unwrap_or r.digits.number 0 * 10 + (b - 48))) r))
    None

-- the digit d behind the one that waits, if one does: the two make a byte, which `with_byte` adds
unfoldable pub pair : (ℕ → Named → Named) → Option ℕ → ℕ → Reading → Reading
pair with_byte None d r = with_high (Some d) r
pair with_byte (Some high) d r = with_named (with_byte (high * 16 + d) r.named) (with_high None r)

unfoldable pub add_hex : (ℕ → Named → Named) → Reading → ℕ → Option Reading
add_hex with_byte r b = bind (hex_digit b) (λ d. Some (pair with_byte r.digits.high d r))

unfoldable pub add_to : Field → Reading → ℕ → Option Reading
add_to Letter = add_letter
add_to Group = add_digit number_limit
add_to First = add_digit number_limit
add_to Index = add_digit number_limit
add_to File = add_digit number_limit
add_to Length = add_digit length_limit
add_to Key = add_hex with_key_byte
add_to Value = add_hex with_value_byte
add_to Extra = λ r b. None

-- ---- the end of the open field

-- a number has a digit
unfoldable pub close_number : (ℕ → Named → Named) → Reading → Option Reading
close_number with_value r = bind r.digits.number (λ v. Some (with_named (with_value v r.named) (with_number None r)))

-- the index of a length's entry is below 2^64
unfoldable pub close_length : Reading → Option Reading
close_length r = cond (ltb r.named.next number_limit) (close_number with_entry r) None

-- no digit waits
unfoldable pub close_bytes : Reading → Option Reading
close_bytes r = cond (is_some r.digits.high) None (Some r)

unfoldable pub close_as : Field → Reading → Option Reading
close_as Letter = Some
close_as Group = close_number with_group
close_as First = close_number with_first
close_as Index = close_number with_index
close_as File = close_number with_file
close_as Length = close_length
close_as Key = close_bytes
close_as Value = close_bytes
close_as Extra = λ r. None

unfoldable pub close : Reading → Option Reading
close r = close_as r.field r

-- ---- the next field, by the letter

unfoldable pub after : ℕ → Field → Field
after l Letter = cond (eqb l 0) Extra (cond (eqb l letter_m) Extra Group)
after l Group =
    cond (eqb l letter_e) First (cond (eqb l letter_p) File (cond (eqb l letter_d) Key (cond (eqb l letter_c) Index Extra)))
after l First = File
after l Index = Extra
after l File = cond (eqb l letter_e) Length Key
after l Length = Length
after l Key = cond (eqb l letter_p) Value Extra
after l Value = Extra
after l Extra = Extra

abbrev pub with_next : Reading → Reading
with_next r = record { letter = r.letter; field = after r.letter r.field; digits = r.digits; named = r.named }

-- ---- a byte, and all bytes

unfoldable pub next_field : Option Reading → Option Reading
next_field None = None
next_field (Some r) = Some (with_next r)

unfoldable pub add_byte : Reading → ℕ → Option Reading
add_byte r b = cond (eqb b comma) (next_field (close r)) (add_to r.field r b)

unfoldable pub read_byte : Option Reading → ℕ → Option Reading
read_byte r b = bind r (λ x. add_byte x b)

unfoldable pub read_bytes : List ℕ → Option Reading → Option Reading
read_bytes [] r = r
read_bytes (b ∷ s) r = read_bytes s (read_byte r b)

abbrev pub begin : Reading
begin = record { letter = 0; field = Letter; digits = no_digits; named = nothing }

-- ---- the end of the line: its letter has the closed field as its last one

unfoldable pub is_last : Field → ℕ → Bool
is_last Letter l = eqb l letter_m
is_last Group l = eqb l letter_x
is_last First l = false
is_last Index l = eqb l letter_c
is_last File l = false
is_last Length l = eqb l letter_e
is_last Key l = eqb l letter_d
is_last Value l = eqb l letter_p
is_last Extra l = false

-- what a line with this last field says
unfoldable pub said_by : Field → Named → Line
said_by Letter n = next_run
said_by Group n = batch (batch_of_one n.file n.group (command clean))
said_by First n = malformed
said_by Index n = batch (batch_of_one n.file n.group (command (compact n.index)))
said_by File n = malformed
said_by Length n = batch (batch_of_one n.file n.group (entries n.entries))
said_by Key n = batch (batch_of_one n.file n.group (kv n.key del))
said_by Value n = batch (batch_of_one n.file n.group (kv n.key (put (Some n.value) (Some (append_file n.file)))))
said_by Extra n = malformed

unfoldable pub whole : Reading → Line
whole r = cond (is_last r.field r.letter) (said_by r.field r.named) malformed

unfoldable pub whole_line : Option Reading → Line
whole_line None = malformed
whole_line (Some r) = whole r

-- what the bytes read so far say, if the line ends here
unfoldable pub end_line : Option Reading → Line
end_line r = whole_line (bind r close)
