-- What a caller learns of a line: bytes that are read in several calls, and an answer in terms of what the line says. Assumes nothing.
use Rattle.std.specs.Prelude.{Bool, false, List, [], ◌∷◌, ◌++◌, ℕ, eqb, length}
use Rattle.std.proofs.Math.Path.{◌≡◌, refl, sym}
use Rattle.std.proofs.Common.{ap, ◌∙◌}
use Rattle.std.specs.Prelude.{Option, Ok, Err}
use Rattle.maps.specs.Lists.{any}
use Rattle.pipe_log.specs.declared.FileId.{FileId}
use Rattle.rules.specs.Items as rules
use Rattle.rules.specs.Context.{Context}
use Rattle.rules.specs.Calls.{replay}
use Rattle.log_batch.specs.Lent.{batch_of}
use Rattle.takes_lines.specs.declared.line.Line.TheVariants.{NextRun, Batch}
use Rattle.takes_lines.specs.declared.line.Malformed.{Malformed}
use Rattle.takes_rules.specs.Lines.{Line, malformed, next_run, batch, line_of}
use Rattle.takes_lines.specs.Reading.{Reading, read_byte, read_bytes, end_line}
use Rattle.takes_lines.specs.Kept.{kept_batch, kept_line, or_left, or_right, replay-kept}
use Rattle.takes_lines.specs.Reads.{line_read}
use Rattle.takes_rules.specs.Program.{in_first, lines_of, Takes, take_line}
use Rattle.takes_lines.specs.Views.{LineReader, read_of, Started, Feeds, Answer, answer_line, Finishes}

-- ---- bytes in several calls

read-append : (s t : List ℕ) (r : Option Reading) → read_bytes (s ++ t) r ≡ read_bytes t (read_bytes s r)
unfolding read_bytes
read-append [] t r = refl
read-append (b ∷ s) t r = read-append s t (read_byte r b)

module _ (h k r : LineReader) (rows bytes rows₁ bytes₁ rows₂ bytes₂ : List ℕ) where
  -- bytes behind bytes
  pub feeds-append : (s t : List ℕ) → Feeds h rows bytes k rows₁ bytes₁ s → Feeds k rows₁ bytes₁ r rows₂ bytes₂ t → Feeds h rows bytes r rows₂ bytes₂ (s ++ t)
  feeds-append s t f g =
      record {
        same_rows = g.same_rows ∙ f.same_rows;
        same_bytes = g.same_bytes ∙ f.same_bytes;
        reads = g.reads ∙ ap (read_bytes t) f.reads ∙ sym (read-append s t (read_of h rows bytes));
      }

-- ---- the answer for a line

module _ (h k : LineReader) (text rows bytes rows₁ bytes₁ items rows₂ : List ℕ) (r : Answer) where
  -- the bytes of a line from `start` to `finish` give what the line says
  pub line-says : Started h → Feeds h rows bytes k rows₁ bytes₁ text → length bytes ≡ 66 → Finishes k rows₁ r items rows₂ → answer_line r items rows₂ bytes₁ ≡ kept_line (line_of text)
  line-says b f fits e =
      e.says bytes₁ (f.same_bytes ∙ fits) ∙ ap end_line (f.reads ∙ ap (read_bytes text) (b.reads rows bytes)) ∙ line_read text

-- ---- the answer's case is the line's

module _ (items rows bytes : List ℕ) where
  pub says-malformed : (e : Malformed) (l : Line) → answer_line (Err e) items rows bytes ≡ kept_line l → l ≡ malformed
  unfolding answer_line kept_line
  says-malformed e malformed q = refl
  says-malformed e next_run q = cc
  says-malformed e (batch b) q = cc

  pub says-next_run : (l : Line) → answer_line (Ok NextRun) items rows bytes ≡ kept_line l → l ≡ next_run
  unfolding answer_line kept_line
  says-next_run malformed e = cc
  says-next_run next_run e = refl
  says-next_run (batch b) e = cc

  -- the line is a batch, of the same file, for which a replay answers the same as for the lent one
  pub record SaysBatch (f : FileId) (l : Line) : Type 0 where
    pub said : rules.Batch
    pub is : l ≡ batch said
    pub same-file : said.file ≡ f
    pub same-replay : (c : Context) → replay (batch_of f items rows bytes) c ≡ replay said c

  pub says-batch : (f : FileId) (l : Line) → answer_line (Ok (Batch f)) items rows bytes ≡ kept_line l → SaysBatch f l
  unfolding answer_line kept_line batch_of kept_batch
  says-batch f malformed e = cc
  says-batch f next_run e = cc
  says-batch f (batch b) e =
      let same : batch_of f items rows bytes ≡ kept_batch b = cc in
      record { said = b; is = refl; same-file = sym (ap (λ (x : rules.Batch). x.file) same); same-replay = λ c. rw same (replay-kept b c) }

-- ---- the program

-- a line is taken as what is kept of it
pub take-kept : (n : ℕ) (l : Line) (t : Takes) → take_line n (kept_line l) t ≡ take_line n l t
unfolding take_line kept_line
take-kept n malformed t = refl
take-kept n next_run t = refl
take-kept n (batch b) t = rw (replay-kept b t.run)

-- so the program may go by the answer
pub take-answer : (n : ℕ) (r : Answer) (items rows bytes s : List ℕ) (t : Takes) → answer_line r items rows bytes ≡ kept_line (line_of s) → take_line n (answer_line r items rows bytes) t ≡ take_line n (line_of s) t
take-answer n r items rows bytes s t e = rw e (take-kept n (line_of s) t)

-- the first line of an input is the bytes before its newline, and the last may have none
unfoldable pub is_newline : ℕ → Bool
is_newline b = eqb b 10

pub line_first : (s rest : List ℕ) → any is_newline s ≡ false → lines_of (s ++ (10 ∷ rest)) ≡ s ∷ lines_of rest
unfolding lines_of in_first any is_newline
line_first [] rest e = refl
line_first (b ∷ s) rest e = rw (or_left (eqb b 10) (any is_newline s) e, line_first s rest (or_right (eqb b 10) (any is_newline s) e))

pub line-last : (b : ℕ) (s : List ℕ) → any is_newline (b ∷ s) ≡ false → lines_of (b ∷ s) ≡ (b ∷ s) ∷ []
unfolding lines_of in_first any is_newline
line-last b [] e = rw (or_left (eqb b 10) false e)
line-last b (c ∷ s) e = rw (or_left (eqb b 10) (any is_newline (c ∷ s)) e, line-last c s (or_right (eqb b 10) (any is_newline (c ∷ s)) e))
