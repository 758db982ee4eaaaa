-- 01's sentences on the lines that `takes` reads, one by one; each group of facts begins with the sentence that it shows. Assumes nothing.
use mathlib.Core.Path.{◌≡◌, refl}
use mathlib.Core.List.{List, [], ◌∷◌, map}
use Rattle.std.specs.Prelude.{Some}
use Prim.Native.Nat.{ℕ}
use Prim.Native.String.{String}
use Rattle.pipe_log.specs.declared.CompressionType.TheVariants as compression
use Rattle.rules.specs.Items.{FileId, Append, EntryIndex, clean, compact, put, del, entries, command, kv}
use Rattle.takes_rules.specs.Lines.{append_file, entry_at, batch_of_one, Line, malformed, batch, line_of}
use Rattle.takes_rules.proofs.Texts.{bytes, lines}
use Rattle.takes_rules.proofs.Opened.{takes_opened}

abbrev EachMalformed : List String → Type 0
EachMalformed ls = map line_of (lines ls) ≡ map (λ (s : String). malformed) ls

-- ---- "Each line but M is a batch"; "Offsets and block lengths are 0": the batches are written out, with every field, and by numbers that differ

abbrev file3 : FileId
file3 = record { queue = Append; seq = 3 }

abbrev entry : ℕ → ℕ → EntryIndex
entry index length =
    record {
      index = index;
      entries = Some (record { id = file3; offset = 0; len = 0 });
      compression_type = compression.None;
      entry_offset = 0;
      entry_len = length;
    }

entries-said : line_of (bytes "E,7,5,3,9,8") ≡ batch (record { file = file3; items = record { group = 7; content = entries (entry 5 9 ∷ entry 6 8 ∷ []) } ∷ [] })
unfolding takes_opened
entries-said = refl

put-said : line_of (bytes "P,7,3,6b,76") ≡ batch (record { file = file3; items = record { group = 7; content = kv (0x6b ∷ []) (put (Some (0x76 ∷ [])) (Some file3)) } ∷ [] })
unfolding takes_opened
put-said = refl

-- ---- "fields in fixed order parted by commas, no quoting": the first field is a letter of 01's, and there are as many fields as its form has

-- another letter, a small one, more than a letter, none
letters-malformed : EachMalformed ("Q,7" ∷ " " ∷ "e,7,1,1,5" ∷ "p,7,1,6b,76" ∷ "d,7,6b" ∷ "c,7,2" ∷ "x,7" ∷ "m" ∷ "EE,7,1,1,5" ∷ "X7" ∷ " X,7" ∷ "X ,7" ∷ "M " ∷ ",X,7" ∷ "," ∷ "" ∷ [])
unfolding takes_opened
letters-malformed = refl

-- a field less or more
fields-malformed : EachMalformed ("E,7,1" ∷ "P,7,1,6b" ∷ "P,7,1,6b,76," ∷ "P,7,1,6b,76,76" ∷ "D,7" ∷ "D,7,6b," ∷ "D,7,6b,6b" ∷ "C,7" ∷ "C,7,2," ∷ "C,7,2,3" ∷ "X" ∷ "X,7," ∷ "X,7,7" ∷ "M," ∷ "M,7" ∷ [])
unfolding takes_opened
fields-malformed = refl

-- parted by other bytes; blanks and quotes
other-bytes-malformed : EachMalformed ("X;7" ∷ "X 7" ∷ "X\t7" ∷ "X, 7" ∷ "X,7 " ∷ "X,7\r" ∷ "X,\"7\"" ∷ "D,7,\"6b\"" ∷ [])
unfolding takes_opened
other-bytes-malformed = refl

-- ---- "numbers decimal (lengths below 2^32, others 2^64)"

-- the greatest number in each place
abbrev greatest : List Line
greatest =
    batch (batch_of_one 18446744073709551615 18446744073709551615 (entries (entry_at 0 18446744073709551615 4294967295 ∷ entry_at 1 18446744073709551615 0 ∷ []))) ∷
    batch (batch_of_one 18446744073709551615 18446744073709551615 (kv (0x6b ∷ []) (put (Some (0x76 ∷ [])) (Some (append_file 18446744073709551615))))) ∷
    batch (batch_of_one 0 18446744073709551615 (kv (0x6b ∷ []) del)) ∷
    batch (batch_of_one 0 18446744073709551615 (command (compact 18446744073709551615))) ∷
    batch (batch_of_one 0 18446744073709551615 (command clean)) ∷
    []

greatest-said : map line_of (lines ("E,18446744073709551615,0,18446744073709551615,4294967295,0" ∷ "P,18446744073709551615,18446744073709551615,6b,76" ∷ "D,18446744073709551615,6b" ∷ "C,18446744073709551615,18446744073709551615" ∷ "X,18446744073709551615" ∷ [])) ≡ greatest
unfolding takes_opened
greatest-said = refl

-- one more in each place
greater-malformed : EachMalformed ("E,18446744073709551616,1,1,5" ∷ "E,7,18446744073709551616,1,5" ∷ "E,7,1,18446744073709551616,5" ∷ "E,7,1,1,4294967296" ∷ "E,7,1,1,5,4294967296" ∷ "P,18446744073709551616,1,6b,76" ∷ "P,7,18446744073709551616,6b,76" ∷ "D,18446744073709551616,6b" ∷ "C,18446744073709551616,2" ∷ "C,7,18446744073709551616" ∷ "X,18446744073709551616" ∷ [])
unfolding takes_opened
greater-malformed = refl

-- every digit, and zeros in front
abbrev digits : List Line
digits =
    batch (batch_of_one 0 7 (command clean)) ∷
    batch (batch_of_one 0 1234567890 (command clean)) ∷
    batch (batch_of_one 0 0 (command clean)) ∷
    []

digits-said : map line_of (lines ("X,007" ∷ "X,1234567890" ∷ "X,0" ∷ [])) ≡ digits
unfolding takes_opened
digits-said = refl

-- no digit, or a byte that is none; `/` and `:` are those beside the digits
no-digits-malformed : EachMalformed ("X,/" ∷ "X,:" ∷ "X,0x7" ∷ "X,7a" ∷ "C,7,-1" ∷ "E,7,+1,1,5" ∷ "E,7, 1,1,5" ∷ "X,7.0" ∷ "X,1_0" ∷ "X," ∷ "C,,2" ∷ "C,7," ∷ "P,7,,6b,76" ∷ "E,7,,1,5" ∷ "E,7,1,,5" ∷ "E,7,1,1," ∷ "E,7,1,1,5,,5" ∷ [])
unfolding takes_opened
no-digits-malformed = refl

-- ---- "bytes hexadecimal": two digits a byte, the higher first

-- every digit
abbrev hexadecimals : List Line
hexadecimals =
    batch (batch_of_one 0 7 (kv (0x01 ∷ 0x23 ∷ 0x45 ∷ 0x67 ∷ 0x89 ∷ 0xab ∷ 0xcd ∷ 0xef ∷ []) del)) ∷
    batch (batch_of_one 0 7 (kv (0xab ∷ 0xcd ∷ 0xef ∷ []) del)) ∷
    batch (batch_of_one 1 7 (kv (0x00 ∷ 0xff ∷ []) (put (Some (0x10 ∷ [])) (Some (append_file 1))))) ∷
    batch (batch_of_one 0 7 (kv (0x6b ∷ 0x6b ∷ []) del)) ∷
    []

hexadecimals-said : map line_of (lines ("D,7,0123456789abcdef" ∷ "D,7,ABCDEF" ∷ "P,7,1,00ff,10" ∷ "D,7,6B6b" ∷ [])) ≡ hexadecimals
unfolding takes_opened
hexadecimals-said = refl

-- half a byte
half-bytes-malformed : EachMalformed ("D,7,6" ∷ "D,7,6b7" ∷ "P,7,1,6,76" ∷ "P,7,1,6b,7" ∷ [])
unfolding takes_opened
half-bytes-malformed = refl

-- a byte that is no digit; the first six are those beside the digits
no-bytes-malformed : EachMalformed ("D,7,/0" ∷ "D,7,:0" ∷ "D,7,@0" ∷ "D,7,G0" ∷ "D,7,`0" ∷ "D,7,g0" ∷ "D,7,0g" ∷ "D,7,0x6b" ∷ "D,7,6b 6b" ∷ "P,7,1,6g,76" ∷ "P,7,1,6b,7g" ∷ [])
unfolding takes_opened
no-bytes-malformed = refl

-- ---- "E has at least one length; one whose indexes would pass 2^64−1 is malformed"

-- the last index is 2^64−1
last-index-said : map line_of (lines ("E,7,18446744073709551615,1,5" ∷ "E,7,18446744073709551614,1,5,5" ∷ [])) ≡ batch (batch_of_one 1 7 (entries (entry_at 18446744073709551615 1 5 ∷ []))) ∷ batch (batch_of_one 1 7 (entries (entry_at 18446744073709551614 1 5 ∷ entry_at 18446744073709551615 1 5 ∷ []))) ∷ []
unfolding takes_opened
last-index-said = refl

-- no length, and a last index of 2^64
no-length_or-index-malformed : EachMalformed ("E,7,1,1" ∷ "E,7,18446744073709551614,1,5,5,5" ∷ "E,7,18446744073709551615,1,5,5" ∷ [])
unfolding takes_opened
no-length_or-index-malformed = refl
