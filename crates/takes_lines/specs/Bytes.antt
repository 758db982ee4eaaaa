-- The program `takes` byte by byte, and that it prints the same. Assumes nothing.
use Rattle.std.specs.Prelude.{true, false, cond, ◌≡◌, ℕ, suc}
use mathlib.Core.List.{List, [], ◌∷◌, ◌++◌, append_assoc, append-nil}
use Rattle.std.proofs.Math.Path.{refl}
use Rattle.std.proofs.Common.{sym, ap, ◌∙◌, eqb-true}
use Rattle.maps.specs.Lists.{any}
use Rattle.maps.specs.OrderLaws.{split}
use Rattle.rules.specs.Items.{Append}
use Rattle.rules.specs.Context.{fresh}
use Rattle.takes_rules.specs.Lines.{line_of}
use Rattle.takes_rules.specs.Program.{lines_of, Takes, merge_run, take_line, take_lines, totals, takes}
use Rattle.takes_lines.specs.Answers.{is_newline, line_first, line-last}
use Rattle.takes_lines.specs.Kept.{or_left, or_right}

-- how many lines have ended, the bytes of the open one, and the runs
pub record Reached : Type 0 where
  pub lines : ℕ
  pub text : List ℕ
  pub takes : Takes

unfoldable pub at_start : Reached
at_start = record { lines = 0; text = []; takes = record { merged = fresh Append; run = fresh Append; printed = [] } }

-- the open line ends
unfoldable pub end_of_line : Reached → Reached
end_of_line s = record { lines = suc s.lines; text = []; takes = take_line (suc s.lines) (line_of s.text) s.takes }

unfoldable pub take_byte : ℕ → Reached → Reached
take_byte b s = cond (is_newline b) (end_of_line s) (record { lines = s.lines; text = s.text ++ (b ∷ []); takes = s.takes })

unfoldable pub take_bytes : List ℕ → Reached → Reached
take_bytes [] s = s
take_bytes (b ∷ bs) s = take_bytes bs (take_byte b s)

-- an open line with a byte in it counts
unfoldable pub last_line : List ℕ → Reached → Reached
last_line [] s = s
last_line (b ∷ bs) s = end_of_line s

-- the end of input merges the last run
unfoldable pub at_end : Reached → Takes
at_end s = merge_run (last_line s.text s).lines (last_line s.text s).takes

-- ---- it prints what the program prints

abbrev reached : ℕ → List ℕ → Takes → Reached
reached n text t = record { lines = n; text = text; takes = t }

any-more : (s : List ℕ) (b : ℕ) → any is_newline s ≡ false → is_newline b ≡ false → any is_newline (s ++ (b ∷ [])) ≡ false
unfolding any
any-more [] b h e = rw e
any-more (c ∷ s) b h e = rw (or_left (is_newline c) (any is_newline s) h) (any-more s b (or_right (is_newline c) (any is_newline s) h) e)

module _ (n : ℕ) (t : Takes) where
  -- no byte follows
  last_byte : (text : List ℕ) → any is_newline text ≡ false → take_lines n (lines_of text) t ≡ at_end (reached n text t)
  unfolding at_end last_line end_of_line
  last_byte [] h = unfold lines_of take_lines in refl
  last_byte (b ∷ text) h = rw (line-last b text h) (unfold take_lines in refl)

-- a newline follows
first-line : (n : ℕ) (text : List ℕ) (t : Takes) (rest : List ℕ) (b : ℕ) → is_newline b ≡ true → any is_newline text ≡ false → take_lines n (lines_of (text ++ (b ∷ rest))) t ≡ take_lines (suc n) (lines_of rest) (take_line (suc n) (line_of text) t)
unfolding is_newline
first-line n text t rest b e h = rw (eqb-true b 10 e, line_first text rest h) (unfold take_lines in refl)

bytes_of : (rest : List ℕ) (n : ℕ) (text : List ℕ) (t : Takes) → any is_newline text ≡ false → take_lines n (lines_of (text ++ rest)) t ≡ at_end (take_bytes rest (reached n text t))
unfolding take_bytes take_byte end_of_line any
bytes_of [] n text t h = rw (append-nil text) (last_byte n t text h)
bytes_of (b ∷ rest) n text t h =
    split (is_newline b)
    (λ e. rw e (first-line n text t rest b e h ∙ bytes_of rest (suc n) [] (take_line (suc n) (line_of text) t) refl))
    (λ e. rw e (sym (ap (λ s. take_lines n (lines_of s) t) (append_assoc text (b ∷ []) rest)) ∙ bytes_of rest n (text ++ (b ∷ [])) t (any-more text b h e)))

pub takes_by-byte : (input : List ℕ) → takes input ≡ totals (at_end (take_bytes input at_start))
unfolding takes at_start
takes_by-byte input = ap totals (bytes_of input 0 [] _ (unfold any in refl))
