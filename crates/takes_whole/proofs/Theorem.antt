-- What the calls print in all is what document 01's program prints for the whole input. Assumes nothing.
use mathlib.Core.List.{List, [], ◌∷◌, ◌++◌}
use mathlib.Core.Path.{◌≡◌, refl, ap, ◌∙◌}
use Prim.Native.Nat.{ℕ}
use lib.ListN.{take}
use Rattle.takes_lines.specs.Reading.{read_bytes}
use Rattle.takes_lines.specs.Bytes.{Reached, at_start, take_byte, take_bytes, takes_by-byte}
use Rattle.takes_runs.specs.declared.bytes.Held.{Held}
use Rattle.takes_runs.specs.Reading.{has_byte, Holds, Starts}
use Rattle.takes_whole.specs.Whole.{ReadSoFar, Claim}

takes-append : (l m : List ℕ) (s : Reached) → take_bytes (l ++ m) s ≡ take_bytes m (take_bytes l s)
unfolding take_bytes
takes-append [] m s = refl
takes-append (b ∷ l) m s = takes-append l m (take_byte b s)

-- what is held stands for the definition's state behind the input, and what was printed is the same
record Reaches (input printed : List ℕ) (h : Held) : Type 0 where
  holds : Holds (take_bytes input at_start) h
  said : (take_bytes input at_start).takes.printed ≡ printed

first : (h : Held) → Starts h → Reaches [] [] h
unfolding take_bytes at_start has_byte read_bytes
first h s =
    record {
      holds = record {
        lines_are = s.no_line;
        reads = s.reads h.lent.rows h.lent.bytes;
        begun-is = s.no_byte;
        merged-is = s.merged-area.context-is;
        run_is = s.run-area.context-is;
      };
      said = refl;
    }

reached : {input printed : List ℕ} {h : Held} → ReadSoFar input printed h → Reaches input printed h
reached (ReadSoFar.started h s) = first h s
reached (ReadSoFar.block {input = input} {h = g} b n out z p t) =
    let i = reached p in
    let more = takes-append input b at_start in
    record {
      holds = rw more (t.goes (take_bytes input at_start) i.holds);
      said = ap (λ (s : Reached). s.takes.printed) more ∙ t.prints (take_bytes input at_start) i.holds ∙ ap (λ l. l ++ take n out) i.said;
    }

pub whole : Claim
whole input printed h n out r p =
    let i = reached r in
    takes_by-byte input ∙ p.prints (take_bytes input at_start) i.holds ∙ ap (λ l. l ++ take n out) i.said
