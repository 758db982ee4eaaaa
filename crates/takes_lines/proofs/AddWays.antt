-- The ways through the functions that add a byte. Assumes nothing.
use Rattle.std.specs.Prelude.{Bool, true, None, Some, Ok}
use Rattle.std.proofs.Common.{◌≡◌, refl, sym, ap, ◌∙◌, List, [], ◌∷◌, ◌++◌, ℕ, ◌+◌, ◌*◌, ◌-◌, ◌≤◌, ◌<◌, arith, length, length-append}
use Rattle.std.proofs.Math.Nat.{zero-add}
use lib.ListN.{set, length-set, take, drop}
use lib.Seq.{take_all, take_at, get_or-set_same}
use Rattle.cells.specs.Part.{part, put}
use Rattle.cells.specs.PartLaws.{length_part, length-put, part_left, part_right, part-take, part-drop, part-snoc, part-set-after, part-put-before, part-put-within, loan-put}
use borrow.Rule.Slice.PartMut.{put_mid}
use Rattle.takes_rules.specs.Fields.{bind, hex_digit}
use Rattle.takes_lines.specs.declared.fields.Letter.{Letter}
use Rattle.takes_lines.specs.declared.fields.Letter.TheVariants.{Entries, Put, Del, Compact, Clean, Merge}
use Rattle.takes_lines.specs.declared.line.OpenLine.{OpenLine}
use Rattle.takes_lines.specs.Letters.{byte_of}
use Rattle.takes_lines.specs.Reading.{kept_most, keep, Named, Reading, is_letter, with_high, with_named, pair, add_hex}
use Rattle.takes_lines.specs.Views.{named_of, reading_of, read_of, TurnsBytes, byte_for}

-- ---- letters

pub letter_is : (l : Letter) → is_letter (byte_of l) ≡ true
unfolding is_letter
letter_is Entries = refl
letter_is Put = refl
letter_is Del = refl
letter_is Compact = refl
letter_is Clean = refl
letter_is Merge = refl

-- ---- bytes

-- one more is kept
pub keep_part : (n : ℕ) (l : List ℕ) (b : ℕ) → n < 33 → n < length l → part 0 (n + 1) (set l n b) ≡ keep (part 0 n l) b
unfolding keep
keep_part n l b k f =
    rw (← part-snoc 0 n (set l n b) 0 (simp length-set (omega arith)), zero-add, get_or-set_same l n b 0 f, part-set-after 0 n l n b (omega arith))
    (sym (take_all kept_most (part 0 n l ++ (b ∷ [])) (simp (length-append, length_part 0 n l (omega arith)) (omega arith))))

-- there are enough
pub keep_full : (n : ℕ) (l : List ℕ) (b : ℕ) → n ≡ 33 → n ≤ length l → part 0 n l ≡ keep (part 0 n l) b
unfolding keep
keep_full n l b k f = sym (take_at (part 0 n l) _ kept_most (length_part 0 n l (omega arith) ∙ k))

-- ---- the digits of bytes

module _ (with_byte : ℕ → Named → Named) (b : ℕ) (x : Reading) (d : ℕ) (is : hex_digit b ≡ Some d) where
  hex_second : (high : ℕ) → x.digits.high ≡ Some high → add_hex with_byte x b ≡ Some (with_named (with_byte (high * 16 + d) x.named) (with_high None x))
  unfolding add_hex bind pair
  hex_second high n = rw (is, n)

module _ (h : OpenLine) (is_key : Bool) (b : ℕ) (bytes : List ℕ) where
  pub second-hex : (d high : ℕ) (r : OpenLine) (bytes' : List ℕ) → hex_digit b ≡ Some d → h.high ≡ Some high → length bytes' ≡ length bytes → ((rows : List ℕ) → reading_of r rows bytes' ≡ with_named (byte_for is_key (high * 16 + d) (named_of h rows bytes)) (with_high None (reading_of h rows bytes))) → TurnsBytes h bytes (Ok r) bytes' (λ x. add_hex (byte_for is_key) x b)
  unfolding reading_of read_of
  second-hex d high r bytes' e n l f =
      record { same_length = l; reads = λ rows. ap Some (f rows) ∙ sym (hex_second (byte_for is_key) b (reading_of h rows bytes) d e high n) }

-- a byte of the key goes into the first 33, and one of the value into the others
module _ (bytes kept : List ℕ) (fits : length bytes ≡ 66) (same : length kept ≡ 33) where
  pub key-kept : (n m b : ℕ) → n ≤ 33 → m ≤ 33 → part 0 m kept ≡ keep (part 0 n (take 33 bytes)) b → part 0 m (kept ++ drop 33 bytes) ≡ keep (part 0 n bytes) b
  key-kept n m b h k e = part_left 0 m kept (drop 33 bytes) (omega arith) ∙ e ∙ ap (λ (l : List ℕ). keep l b) (part-take 0 n 33 bytes (omega arith))

  pub value-stays : (n : ℕ) → part 33 n (kept ++ drop 33 bytes) ≡ part 33 n bytes
  value-stays n = rw same at (part_right 0 n kept (drop 33 bytes)) ∙ part-drop 0 n 33 bytes

  laid : put_mid 33 (length bytes - 33) bytes kept ≡ put bytes 33 kept
  laid = loan-put 33 (length bytes - 33) bytes kept (omega arith)

  pub same-length : length (put_mid 33 (length bytes - 33) bytes kept) ≡ length bytes
  same-length = rw laid (length-put bytes 33 kept (omega arith))

  pub key-stays : (n : ℕ) → n ≤ 33 → part 0 n (put_mid 33 (length bytes - 33) bytes kept) ≡ part 0 n bytes
  key-stays n h = rw laid (part-put-before 0 n bytes 33 kept (omega arith) (omega arith))

  pub value-kept : (n m b : ℕ) → n ≤ 33 → m ≤ 33 → part 0 m kept ≡ keep (part 0 n (drop 33 bytes)) b → part 33 m (put_mid 33 (length bytes - 33) bytes kept) ≡ keep (part 33 n bytes) b
  value-kept n m b h k e = rw laid (part-put-within 0 m bytes 33 kept (omega arith) (omega arith)) ∙ e ∙ ap (λ (l : List ℕ). keep l b) (part-drop 0 n 33 bytes)
