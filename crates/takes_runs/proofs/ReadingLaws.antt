-- The input byte by byte. Assumes nothing.
use mathlib.Core.Bool.{true, false}
use mathlib.Core.List.{List, [], ◌∷◌, ◌++◌, append-nil}
use Rattle.std.specs.Prelude.{Some}
use mathlib.Core.Path.{◌≡◌, refl, sym, ap, ◌∙◌}
use Prim.Native.Nat.{ℕ, suc, ◌+◌}
use native.Mathlib.Numerals.{add-one}
use native.Mathlib.Omega.{arith}
use lib.ListN.{length, take}
use borrow.Author.Tests.{ne_eqb}
use Rattle.contexts.specs.Contexts.{context_of}
use Rattle.takes_rules.specs.Lines.{line_of}
use Rattle.takes_lines.specs.Reading.{read_bytes, begin, end_line}
use Rattle.takes_lines.specs.Reads.{line_read, read_more}
use Rattle.takes_lines.specs.Views.{LineReader, Answer, read_of, Started, Feeds, Finishes, answer_line}
use Rattle.takes_rules.specs.Program.{Takes, take_line}
use Rattle.takes_lines.specs.Answers.{is_newline, take-answer}
use Rattle.takes_lines.specs.Bytes.{Reached, end_of_line, take_byte}
use Rattle.takes_lines.specs.declared.line.Lent.{Lent}
use Rattle.takes_runs.specs.declared.runs.Runs.{Runs}
use Rattle.takes_runs.specs.declared.bytes.Held.{Held}
use Rattle.takes_runs.specs.Steps.{Fit, TookLine}
use Rattle.takes_runs.specs.Reading.{has_byte, Holds, Stepped}

-- ---- a line ends

module _ (h : Held) (r : Answer) (lent : Lent) (f : Finishes h.known.reader h.lent.rows r lent.items lent.rows) (same : lent.bytes ≡ h.lent.bytes) (fits : length lent.bytes ≡ 66)
    (p : ℕ) (out' : List ℕ) (runs : Runs)
    (t : TookLine (h.known.lines + 1) (answer_line r lent.items lent.rows lent.bytes) h.runs p out' runs)
    (reader : LineReader) (b : Started reader) where
  abbrev next : Held
  next = record { runs = runs; lent = lent; known = record { reader = reader; lines = h.known.lines + 1; begun = false } }

  module _ (s : Reached) (a : Holds s h) where
    -- what is taken is the line that was read
    line_taken : take_line (suc s.lines) (line_of s.text) s.takes ≡ record { merged = context_of runs.xs runs.bs; run = context_of runs.ys runs.cs; printed = s.takes.printed ++ take p out' }
    line_taken =
        let says = f.says lent.bytes fits ∙ ap (λ x. end_line (read_of h.known.reader h.lent.rows x)) same ∙ ap end_line a.reads ∙ line_read s.text in
        let n : h.known.lines + 1 ≡ suc s.lines = add-one h.known.lines ∙ ap suc a.lines_are in
        let before : record { merged = context_of h.runs.xs h.runs.bs; run = context_of h.runs.ys h.runs.cs; printed = s.takes.printed } ≡ s.takes = λ i. record { merged = a.merged-is i; run = a.run_is i; printed = s.takes.printed } in
        sym (take-answer (suc s.lines) r lent.items lent.rows lent.bytes s.text s.takes says)
        ∙ ap (take_line (suc s.lines) (answer_line r lent.items lent.rows lent.bytes)) (sym before)
        ∙ ap (λ m. take_line m (answer_line r lent.items lent.rows lent.bytes) (record { merged = context_of h.runs.xs h.runs.bs; run = context_of h.runs.ys h.runs.cs; printed = s.takes.printed })) (sym n)
        ∙ t.line-is.takes s.takes.printed

    line-holds : Holds (end_of_line s) next
    unfolding end_of_line
    line-holds =
        record {
          lines_are = add-one h.known.lines ∙ ap suc a.lines_are;
          reads = b.reads lent.rows lent.bytes ∙ unfold read_bytes in refl;
          begun-is = unfold has_byte in refl;
          merged-is = sym (ap (λ (x : Takes). x.merged) line_taken);
          run_is = sym (ap (λ (x : Takes). x.run) line_taken);
        }

    line-prints : (end_of_line s).takes.printed ≡ s.takes.printed ++ take p out'
    unfolding end_of_line
    line-prints = ap (λ (x : Takes). x.printed) line_taken

  pub line-ended : Stepped end_of_line h p out' next
  line-ended = record { goes = line-holds; prints = line-prints; few = t.few; fit = t.fit }

-- ---- a byte of the open line

has_byte-more : (s : List ℕ) (b : ℕ) → has_byte (s ++ (b ∷ [])) ≡ true
unfolding has_byte
has_byte-more [] b = refl
has_byte-more (c ∷ s) b = refl

module _ (h : Held) (out : List ℕ) (b : ℕ) (reader : LineReader) (lent : Lent) (f : Feeds h.known.reader h.lent.rows h.lent.bytes reader lent.rows lent.bytes (b ∷ [])) (k : Fit h.runs) (e : b ≡ 10 → ⊥) where
  abbrev opened : Held
  opened = record { runs = h.runs; lent = lent; known = record { reader = reader; lines = h.known.lines; begun = true } }

  byte-holds : (s : Reached) → Holds s h → Holds (take_byte b s) opened
  unfolding take_byte is_newline
  byte-holds s a =
      rw (ne_eqb b 10 e)
      (record {
        lines_are = a.lines_are;
        reads = f.reads ∙ ap (read_bytes (b ∷ [])) a.reads ∙ unfold read_bytes in sym (read_more s.text b (Some begin));
        begun-is = sym (has_byte-more s.text b);
        merged-is = a.merged-is;
        run_is = a.run_is;
      })

  byte-prints : (s : Reached) → Holds s h → (take_byte b s).takes.printed ≡ s.takes.printed ++ take 0 out
  unfolding take_byte is_newline
  byte-prints s a = rw (ne_eqb b 10 e) (sym (append-nil s.takes.printed))

  pub byte-taken : Stepped (take_byte b) h 0 out opened
  byte-taken = record { goes = byte-holds; prints = byte-prints; few = omega arith; fit = k }

-- a newline ends the line
pub newline-taken : (h : Held) (b r : ℕ) (out' : List ℕ) (z : Held) → b ≡ 10 → Stepped end_of_line h r out' z → Stepped (take_byte b) h r out' z
unfolding take_byte is_newline
newline-taken h b r out' z e w = rw e (record { goes = w.goes; prints = w.prints; few = w.few; fit = w.fit })
