-- 01's example of `takes`: what its lines say, and what is printed. Assumes nothing.
use mathlib.Core.Path.{◌≡◌, refl}
use mathlib.Core.List.{List, [], ◌∷◌, map}
use Rattle.std.specs.Prelude.{Some}
use Prim.Native.String.{String}
use Rattle.rules.specs.Items.{compact, put, del, entries, command, kv}
use Rattle.takes_rules.specs.Lines.{append_file, entry_at, batch_of_one, Line, next_run, batch, line_of}
use Rattle.takes_rules.specs.Program.{takes}
use Rattle.takes_rules.proofs.Texts.{lines, text}
use Rattle.takes_rules.proofs.Opened.{takes_opened}

abbrev example : List String
example = "E,7,1,1,10,10,10" ∷ "P,7,1,6b,76" ∷ "M" ∷ "E,7,3,2,20,20" ∷ "C,7,2" ∷ "D,7,6b" ∷ "P,9,2,61," ∷ []

abbrev said : List Line
said =
    batch (batch_of_one 1 7 (entries (entry_at 1 1 10 ∷ entry_at 2 1 10 ∷ entry_at 3 1 10 ∷ []))) ∷
    batch (batch_of_one 1 7 (kv (0x6b ∷ []) (put (Some (0x76 ∷ [])) (Some (append_file 1))))) ∷
    next_run ∷
    batch (batch_of_one 2 7 (entries (entry_at 3 2 20 ∷ entry_at 4 2 20 ∷ []))) ∷
    batch (batch_of_one 0 7 (command (compact 2))) ∷
    batch (batch_of_one 0 7 (kv (0x6b ∷ []) del)) ∷
    batch (batch_of_one 2 9 (kv (0x61 ∷ []) (put (Some []) (Some (append_file 2))))) ∷
    []

example-said : map line_of (lines example) ≡ said
unfolding takes_opened
example-said = refl

example-printed : takes (text example) ≡ text ("G,7,2,3,0" ∷ "G,9,0,0,1" ∷ "L,4,0" ∷ [])
unfolding takes_opened
example-printed = refl

-- an empty input
empty-printed : takes [] ≡ text ("L,0,0" ∷ [])
unfolding takes_opened
empty-printed = refl
