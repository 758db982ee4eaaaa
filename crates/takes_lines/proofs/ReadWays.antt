-- The ways through the calls that read a line. Assumes nothing.
use mathlib.Core.Bool.{true, false≢true}
use mathlib.Core.Path.{◌≡◌, refl, sym, ap, ◌∙◌}
use mathlib.Core.List.{List, [], ◌∷◌}
use Rattle.std.specs.Prelude.{Option, Ok}
use Prim.Native.Nat.{ℕ, ◌+◌, ◌<◌}
use native.Mathlib.Numerals.{add-one}
use native.Mathlib.Omega.{arith}
use lib.ListN.{length, take, get_or}
use lib.Seq.{take-suc}
use borrow.Author.Tests.{le-leb}
use Rattle.rules.specs.Items.{Append}
use Rattle.log_batch.specs.Lent.{row_count_of, item_if, opened_entries, value_fits, value_at, file_at, opened_put, opened_del, opened_row, command_of, value_of, change_of, key_change, key_content, content_of, item_of, opened_of, item_at, items_from, items_of, batch_of}
use Rattle.takes_lines.specs.declared.fields.Field.{Field}
use Rattle.takes_lines.specs.declared.fields.Field.TheVariants.{Letter, Group, First, Index, File, Length, Key, Value, Extra}
use Rattle.takes_lines.specs.declared.line.Line.TheVariants.{NextRun, Batch}
use Rattle.takes_lines.specs.declared.line.OpenLine.{OpenLine}
use Rattle.takes_rules.specs.Fields.{bind}
use Rattle.takes_rules.specs.Lines.{append_file, batch_of_one, batch}
use Rattle.takes_lines.specs.Reading.{Reading, close, read_byte, read_bytes, is_last, said_by, whole, whole_line, end_line}
use Rattle.takes_lines.specs.Reads.{read_more}
use Rattle.takes_lines.specs.Views.{LineReader, named_of, reading_of, read_of, TurnsRows, Feeds, item_row, answer_line, Finishes}
use Rattle.takes_lines.specs.Letters.{letter_number}

-- ---- more bytes

module _ (h : LineReader) (rows bytes text : List ℕ) where
  pub feed_none : Feeds h rows bytes h rows bytes []
  unfolding read_bytes
  feed_none = record { same_rows = refl; same_bytes = refl; reads = refl }

  pub feed_more : (i : ℕ) (k : LineReader) (rows₁ bytes₁ : List ℕ) (r : LineReader) (rows₂ bytes₂ : List ℕ) → i < length text → Feeds h rows bytes k rows₁ bytes₁ (take i text) → Feeds k rows₁ bytes₁ r rows₂ bytes₂ (get_or text i 0 ∷ []) → Feeds h rows bytes r rows₂ bytes₂ (take (i + 1) text)
  unfolding read_bytes
  feed_more i k rows₁ bytes₁ r rows₂ bytes₂ l f g =
      record {
        same_rows = g.same_rows ∙ f.same_rows;
        same_bytes = g.same_bytes ∙ f.same_bytes;
        reads = g.reads ∙ ap (λ (o : Option Reading). read_byte o (get_or text i 0)) f.reads ∙ sym (rw (add-one i, take-suc text i 0 l) (read_more (take i text) (get_or text i 0) (read_of h rows bytes)));
      }

-- ---- the end of the line

-- the row of a line with another last field than its letter is its item
module _ (h : OpenLine) (rows bytes : List ℕ) (rows_fit : length rows ≡ 264) (bytes_fit : length bytes ≡ 66) where
  item-said : (field : Field) (l : ℕ) → (field ≡ Letter → ⊥) → is_last field l ≡ true → batch (batch_of (append_file h.file) (item_row field h) rows bytes) ≡ said_by field (named_of h rows bytes)
  unfolding is_last said_by item_row named_of batch_of_one batch_of items_of row_count_of items_from item_at opened_of opened_row item_if item_of content_of command_of opened_entries opened_put opened_del value_fits value_at file_at key_content key_change change_of value_of append_file
  item-said Letter l m e = absurd (m refl)
  item-said Group l m e = refl
  item-said First l m e = absurd (false≢true e)
  item-said Index l m e = refl
  item-said File l m e = absurd (false≢true e)
  item-said Length l m e = rw (rows_fit, le-leb (0 + h.count) 33 (omega (arith, h.entries_kept)))
  item-said Key l m e = rw (bytes_fit, le-leb (0 + h.key_len) 66 (omega (arith, h.key_kept)))
  item-said Value l m e =
      rw (bytes_fit, le-leb (0 + h.key_len) 66 (omega (arith, h.key_kept)), le-leb (33 + h.value_len) 66 (omega (arith, h.value_kept)))
  item-said Extra l m e = absurd (false≢true e)

-- the reader closes the open field, which is the letter's last
module _ (h : OpenLine) (rows : List ℕ) (k : OpenLine) (items rows' : List ℕ) (t : TurnsRows h rows (Ok k) rows' close) (last : is_last k.field (letter_number k.letter) ≡ true) where
  -- what is left is to read off the closed reader
  closed_said : (bytes : List ℕ) → end_line (read_of (Ok h) rows bytes) ≡ said_by k.field (named_of k rows' bytes)
  unfolding end_line bind whole_line whole reading_of read_of
  closed_said bytes = rw (← t.reads bytes, last)

  pub merge-finishes : k.field ≡ Letter → Finishes (Ok h) rows (Ok NextRun) items rows'
  unfolding answer_line said_by
  merge-finishes e =
      record {
        same_rows = t.same_length;
        says = λ bytes fits. sym (closed_said bytes ∙ ap (λ (y : Field). said_by y (named_of k rows' bytes)) e);
      }

  pub batch-finishes : (k.field ≡ Letter → ⊥) → length rows ≡ 264 → items ≡ item_row k.field k → Finishes (Ok h) rows (Ok (Batch (record { queue = Append; seq = k.file }))) items rows'
  unfolding answer_line append_file
  batch-finishes e fits is =
      record {
        same_rows = t.same_length;
        says = λ bytes b. rw is (item-said k rows' bytes (t.same_length ∙ fits) b k.field (letter_number k.letter) e last ∙ sym (closed_said bytes));
      }
