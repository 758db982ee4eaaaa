-- What a reader and the lent slices stand for: the entries in rows of the lent numbers, the key's bytes from place 0 of the lent
-- bytes, the value's from place 33.
use Rattle.std.specs.Prelude.{Bool, true, false, ◌≡◌, List, [], ◌∷◌, ℕ, ◌*◌, length}
use Rattle.std.specs.Prelude.{Option, None, Some, unwrap_or, Result, Ok, Err}
use Rattle.cells.specs.Part.{part}
use Rattle.pipe_log.specs.Rows.{entries_of, entry_width}
use Rattle.log_batch.specs.Lent.{batch_of}
use Rattle.takes_lines.specs.declared.fields.Field.{Field}
use Rattle.takes_lines.specs.declared.fields.Field.TheVariants.{Letter, Group, First, Index, File, Length, Key, Value, Extra}
use Rattle.takes_lines.specs.declared.line.Line as said
use Rattle.takes_lines.specs.declared.line.Line.TheVariants.{NextRun, Batch}
use Rattle.takes_lines.specs.declared.line.Malformed.{Malformed}
use Rattle.takes_lines.specs.declared.line.OpenLine.{OpenLine}
use Rattle.takes_rules.specs.Lines.{number_limit, Line, malformed, next_run, batch}
use Rattle.takes_lines.specs.Reading.{kept_most, Named, with_key_byte, with_value_byte, Reading, with_next, read_bytes, begin, end_line}
use Rattle.takes_lines.specs.Letters.{letter_number}

unfoldable pub named_of : OpenLine → List ℕ → List ℕ → Named
named_of h rows bytes =
    record {
      group = h.group;
      next = unwrap_or h.next number_limit;
      index = h.index;
      file = h.file;
      entries = entries_of h.count (part 0 (h.count * entry_width) rows);
      key = part 0 h.key_len bytes;
      value = part kept_most h.value_len bytes;
    }

unfoldable pub reading_of : OpenLine → List ℕ → List ℕ → Reading
reading_of h rows bytes =
    record {
      letter = letter_number h.letter;
      field = h.field;
      digits = record { number = h.number; high = h.high };
      named = named_of h rows bytes;
    }

abbrev pub LineReader : Type 0
LineReader = Result OpenLine Malformed

-- none: the line is malformed, whatever follows
unfoldable pub read_of : LineReader → List ℕ → List ℕ → Option Reading
read_of (Ok h) rows bytes = Some (reading_of h rows bytes)
read_of (Err e) rows bytes = None

-- before the first byte, over any slices
pub record Started (r : LineReader) : Type 0 where
  pub reads : (rows bytes : List ℕ) → read_of r rows bytes ≡ Some begin

-- h goes to r as the definition f goes: over any slices, over any rows, and over any bytes
pub record Turns (h : OpenLine) (r : LineReader) (f : Reading → Option Reading) : Type 0 where
  pub reads : (rows bytes : List ℕ) → read_of r rows bytes ≡ f (reading_of h rows bytes)

pub record TurnsBytes (h : OpenLine) (bytes : List ℕ) (r : LineReader) (bytes' : List ℕ) (f : Reading → Option Reading) : Type 0 where
  pub same_length : length bytes' ≡ length bytes
  pub reads : (rows : List ℕ) → read_of r rows bytes' ≡ f (reading_of h rows bytes)

pub record TurnsRows (h : OpenLine) (rows : List ℕ) (r : LineReader) (rows' : List ℕ) (f : Reading → Option Reading) : Type 0 where
  pub same_length : length rows' ≡ length rows
  pub reads : (bytes : List ℕ) → read_of r rows' bytes ≡ f (reading_of h rows bytes)

-- the key or the value with one more byte
abbrev pub byte_for : Bool → ℕ → Named → Named
byte_for true = with_key_byte
byte_for false = with_value_byte

-- ---- the calls

-- the next field is open
pub record GoesOn (h r : OpenLine) : Type 0 where
  pub reads : (rows bytes : List ℕ) → reading_of r rows bytes ≡ with_next (reading_of h rows bytes)

-- the bytes s are read
pub record Feeds (h : LineReader) (rows bytes : List ℕ) (r : LineReader) (rows' bytes' : List ℕ) (s : List ℕ) : Type 0 where
  pub same_rows : length rows' ≡ length rows
  pub same_bytes : length bytes' ≡ length bytes
  pub reads : read_of r rows' bytes' ≡ read_bytes s (read_of h rows bytes)

-- the row of the item that a line with this last field is
unfoldable pub item_row : Field → OpenLine → List ℕ
item_row Letter h = h.group ∷ (0 ∷ (0 ∷ (0 ∷ (0 ∷ (0 ∷ (0 ∷ (0 ∷ (0 ∷ []))))))))
item_row Group h = h.group ∷ (1 ∷ (0 ∷ (0 ∷ (0 ∷ (0 ∷ (0 ∷ (0 ∷ (0 ∷ []))))))))
item_row First h = h.group ∷ (0 ∷ (0 ∷ (0 ∷ (0 ∷ (0 ∷ (0 ∷ (0 ∷ (0 ∷ []))))))))
item_row Index h = h.group ∷ (2 ∷ (h.index ∷ (0 ∷ (0 ∷ (0 ∷ (0 ∷ (0 ∷ (0 ∷ []))))))))
item_row File h = h.group ∷ (0 ∷ (0 ∷ (0 ∷ (0 ∷ (0 ∷ (0 ∷ (0 ∷ (0 ∷ []))))))))
item_row Length h = h.group ∷ (0 ∷ (0 ∷ (h.count ∷ (0 ∷ (0 ∷ (0 ∷ (0 ∷ (0 ∷ []))))))))
item_row Key h = h.group ∷ (4 ∷ (0 ∷ (h.key_len ∷ (0 ∷ (0 ∷ (0 ∷ (0 ∷ (0 ∷ []))))))))
item_row Value h = h.group ∷ (3 ∷ (0 ∷ (h.key_len ∷ (1 ∷ (kept_most ∷ (h.value_len ∷ (0 ∷ (h.file ∷ []))))))))
item_row Extra h = h.group ∷ (0 ∷ (0 ∷ (0 ∷ (0 ∷ (0 ∷ (0 ∷ (0 ∷ (0 ∷ []))))))))

abbrev pub Answer : Type 0
Answer = Result said.Line Malformed

-- the line that an answer gives: a batch is that of the lent slices
unfoldable pub answer_line : Answer → List ℕ → List ℕ → List ℕ → Line
answer_line (Err e) items rows bytes = malformed
answer_line (Ok NextRun) items rows bytes = next_run
answer_line (Ok (Batch f)) items rows bytes = batch (batch_of f items rows bytes)

-- what the end of the line says, over any bytes that were lent
pub record Finishes (h : LineReader) (rows : List ℕ) (r : Answer) (items' rows' : List ℕ) : Type 0 where
  pub same_rows : length rows' ≡ length rows
  pub says : (bytes : List ℕ) → length bytes ≡ 66 → answer_line r items' rows' bytes ≡ end_line (read_of h rows bytes)
