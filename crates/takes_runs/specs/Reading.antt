-- The input byte by byte over areas: what the program holds stands for what `takes_lines` has reached.
use Rattle.std.specs.Prelude.{Bool, true, false, List, [], ◌∷◌, ◌++◌, ◌≡◌, ℕ, ◌≤◌, length, take}
use Rattle.std.specs.Prelude.{Some}
use Rattle.rules.specs.Items.{Append}
use Rattle.contexts.specs.Contexts.{context_of, FreshArea}
use Rattle.takes_lines.specs.Reading.{read_bytes, begin}
use Rattle.takes_lines.specs.Views.{read_of}
use Rattle.takes_rules.specs.Program.{totals}
use Rattle.takes_lines.specs.Bytes.{Reached, last_line, at_end}
use Rattle.takes_runs.specs.declared.bytes.Known.{Known}
use Rattle.takes_runs.specs.declared.bytes.Held.{Held}
use Rattle.takes_runs.specs.declared.runs.Runs.{Runs}
use Rattle.takes_runs.specs.Steps.{AppendArea, runs_of, Fit}

unfoldable pub has_byte : List ℕ → Bool
has_byte [] = false
has_byte (b ∷ bs) = true

-- what the program holds where its areas and what is lent for a line are slices
abbrev pub held_of : Known → List ℕ → List ℕ → List ℕ → List ℕ → List ℕ → List ℕ → List ℕ → Held
held_of known items rows bytes xs bs ys cs = record { runs = runs_of xs bs ys cs; lent = record { items = items; rows = rows; bytes = bytes }; known = known }

-- what the program holds stands for s
pub record Holds (s : Reached) (h : Held) : Type 0 where
  pub lines_are : h.known.lines ≡ s.lines
  pub reads : read_of h.known.reader h.lent.rows h.lent.bytes ≡ read_bytes s.text (Some begin)
  pub begun-is : h.known.begun ≡ has_byte s.text
  pub merged-is : context_of h.runs.xs h.runs.bs ≡ s.takes.merged
  pub run_is : context_of h.runs.ys h.runs.cs ≡ s.takes.run

-- before the first byte, over any slices: nothing is known of a line
pub record Begins (k : Known) : Type 0 where
  pub no_line : k.lines ≡ 0
  pub no_byte : k.begun ≡ false
  pub reads : (rows bytes : List ℕ) → read_of k.reader rows bytes ≡ Some begin

-- before the first byte, over any slices: nothing is known of a line, and both areas are fresh
pub record Starts (h : Held) : Type 0 where
  pub no_line : h.known.lines ≡ 0
  pub no_byte : h.known.begun ≡ false
  pub reads : (rows bytes : List ℕ) → read_of h.known.reader rows bytes ≡ Some begin
  pub merged-area : FreshArea Append h.runs.xs h.runs.bs
  pub run-area : FreshArea Append h.runs.ys h.runs.cs

-- a step of the program from h to z: what stood for s stands for f s, and what f prints are the first r bytes lent
pub record Stepped (f : Reached → Reached) (h : Held) (r : ℕ) (out' : List ℕ) (z : Held) : Type 0 where
  pub goes : (s : Reached) → Holds s h → Holds (f s) z
  pub prints : (s : Reached) → Holds s h → (f s).takes.printed ≡ s.takes.printed ++ take r out'
  pub few : r ≤ length out'
  pub fit : Fit z.runs

-- an open line with a byte in it ends
abbrev pub end_of_input : Reached → Reached
end_of_input s = last_line s.text s

-- the end of the input: the last run is merged, and what is printed are the first r bytes lent
pub record EndedInput (h : Held) (r : ℕ) (out' : List ℕ) (z : Runs) : Type 0 where
  pub ends : (s : Reached) → Holds s h → context_of z.xs z.bs ≡ (at_end s).merged
  pub prints : (s : Reached) → Holds s h → (at_end s).printed ≡ s.takes.printed ++ take r out'
  pub few : r ≤ length out'
  pub merged-area : AppendArea z.xs z.bs

-- all that is printed from the end of the input on are the first r bytes lent
pub record PrintedAll (h : Held) (r : ℕ) (out' : List ℕ) : Type 0 where
  pub prints : (s : Reached) → Holds s h → totals (at_end s) ≡ s.takes.printed ++ take r out'
  pub few : r ≤ length out'
