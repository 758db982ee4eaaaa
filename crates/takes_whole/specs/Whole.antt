-- The whole program over areas: what its calls print for an input, however it is cut into blocks.
use Rattle.std.specs.Prelude.{List, [], ◌++◌, ◌≡◌, ℕ, take}
use Rattle.takes_rules.specs.Program.{takes}
use Rattle.takes_lines.specs.Bytes.{take_bytes}
use Rattle.takes_runs.specs.declared.bytes.Held.{Held}
use Rattle.takes_runs.specs.Reading.{Starts, Stepped, PrintedAll}

-- a block b was taken from h to z, and the first n bytes of out were printed
abbrev pub Took : List ℕ → Held → ℕ → List ℕ → Held → Type 0
Took b h n out z = Stepped (take_bytes b) h n out z

-- an input that was read and what was printed of it, by the contracts of `Held::begin` and `take_block`, each on what the last call left
pub data ReadSoFar : List ℕ → List ℕ → Held → Type 0 where
  started : (h : Held) → Starts h → ReadSoFar [] [] h
  block : {input printed : List ℕ} {h : Held} (b : List ℕ) (n : ℕ) (out : List ℕ) (z : Held) → ReadSoFar input printed h → Took b h n out z → ReadSoFar (input ++ b) (printed ++ take n out) z

-- with what `end` prints behind it, it is what document 01's program prints for the input
abbrev pub Claim : Type 0
Claim =
    (input printed : List ℕ) (h : Held) (n : ℕ) (out : List ℕ) →
    ReadSoFar input printed h →
    PrintedAll h n out →
    takes input ≡ printed ++ take n out
