-- Lines as 01 has them, malformed ones of every kind, and refusals, each list at once. Assumes nothing.
use mathlib.Core.Path.{◌≡◌, refl}
use mathlib.Core.List.{List, [], ◌∷◌, map}
use Rattle.std.specs.Prelude.{Some}
use Prim.Native.Nat.{ℕ}
use Rattle.rules.specs.Items.{clean, compact, put, del, entries, command, kv}
use Rattle.takes_rules.specs.Lines.{append_file, entry_at, batch_of_one, Line, malformed, next_run, batch, line_of}
use Rattle.takes_rules.specs.Program.{takes}
use Rattle.takes_rules.proofs.Opened.{takes_opened}

-- E,7,1,1,10,10,10; P,7,1,6b,76; M; E,7,3,2,20,20; C,7,2; D,7,6b; P,9,2,61,; E,007,18446744073709551615,1,4294967295; D,7,6B6b; X,7
abbrev lines : List (List ℕ)
lines =
    (69 ∷ 44 ∷ 55 ∷ 44 ∷ 49 ∷ 44 ∷ 49 ∷ 44 ∷ 49 ∷ 48 ∷ 44 ∷ 49 ∷ 48 ∷ 44 ∷ 49 ∷ 48 ∷ []) ∷
    (80 ∷ 44 ∷ 55 ∷ 44 ∷ 49 ∷ 44 ∷ 54 ∷ 98 ∷ 44 ∷ 55 ∷ 54 ∷ []) ∷
    (77 ∷ []) ∷
    (69 ∷ 44 ∷ 55 ∷ 44 ∷ 51 ∷ 44 ∷ 50 ∷ 44 ∷ 50 ∷ 48 ∷ 44 ∷ 50 ∷ 48 ∷ []) ∷
    (67 ∷ 44 ∷ 55 ∷ 44 ∷ 50 ∷ []) ∷
    (68 ∷ 44 ∷ 55 ∷ 44 ∷ 54 ∷ 98 ∷ []) ∷
    (80 ∷ 44 ∷ 57 ∷ 44 ∷ 50 ∷ 44 ∷ 54 ∷ 49 ∷ 44 ∷ []) ∷
    (69 ∷ 44 ∷ 48 ∷ 48 ∷ 55 ∷ 44 ∷ 49 ∷ 56 ∷ 52 ∷ 52 ∷ 54 ∷ 55 ∷ 52 ∷ 52 ∷ 48 ∷ 55 ∷ 51 ∷ 55 ∷ 48 ∷ 57 ∷ 53 ∷ 53 ∷ 49 ∷ 54 ∷ 49 ∷ 53 ∷ 44 ∷ 49 ∷ 44 ∷ 52 ∷ 50 ∷ 57 ∷ 52 ∷ 57 ∷ 54 ∷ 55 ∷ 50 ∷ 57 ∷ 53 ∷ []) ∷
    (68 ∷ 44 ∷ 55 ∷ 44 ∷ 54 ∷ 66 ∷ 54 ∷ 98 ∷ []) ∷
    (88 ∷ 44 ∷ 55 ∷ []) ∷
    []

abbrev said : List Line
said =
    batch (batch_of_one 1 7 (entries (entry_at 1 1 10 ∷ entry_at 2 1 10 ∷ entry_at 3 1 10 ∷ []))) ∷
    batch (batch_of_one 1 7 (kv (0x6b ∷ []) (put (Some (0x76 ∷ [])) (Some (append_file 1))))) ∷
    next_run ∷
    batch (batch_of_one 2 7 (entries (entry_at 3 2 20 ∷ entry_at 4 2 20 ∷ []))) ∷
    batch (batch_of_one 0 7 (command (compact 2))) ∷
    batch (batch_of_one 0 7 (kv (0x6b ∷ []) del)) ∷
    batch (batch_of_one 2 9 (kv (0x61 ∷ []) (put (Some []) (Some (append_file 2))))) ∷
    batch (batch_of_one 1 7 (entries (entry_at 18446744073709551615 1 4294967295 ∷ []))) ∷
    batch (batch_of_one 0 7 (kv (0x6b ∷ 0x6b ∷ []) del)) ∷
    batch (batch_of_one 0 7 (command clean)) ∷
    []

-- (nothing); (a blank); Q,1; M,; m; EE,7,1,1,5; E,7,1,1; E,7,1,1,; E,7,1,1,4294967296; E,7,+1,1,5; E,7, 1,1,5; E,18446744073709551616,1,1,5; E,7,18446744073709551615,1,5,5; P,7,1,6,76; P,7,1,6g,76; P,7,1,6b; P,7,1,6b,76,; D,7; D,7,6b,; C,7,-1; C,7; X; X,7\r; X,; E with 32 lengths and one that is none
abbrev odd : List (List ℕ)
odd =
    ([]) ∷
    (32 ∷ []) ∷
    (81 ∷ 44 ∷ 49 ∷ []) ∷
    (77 ∷ 44 ∷ []) ∷
    (109 ∷ []) ∷
    (69 ∷ 69 ∷ 44 ∷ 55 ∷ 44 ∷ 49 ∷ 44 ∷ 49 ∷ 44 ∷ 53 ∷ []) ∷
    (69 ∷ 44 ∷ 55 ∷ 44 ∷ 49 ∷ 44 ∷ 49 ∷ []) ∷
    (69 ∷ 44 ∷ 55 ∷ 44 ∷ 49 ∷ 44 ∷ 49 ∷ 44 ∷ []) ∷
    (69 ∷ 44 ∷ 55 ∷ 44 ∷ 49 ∷ 44 ∷ 49 ∷ 44 ∷ 52 ∷ 50 ∷ 57 ∷ 52 ∷ 57 ∷ 54 ∷ 55 ∷ 50 ∷ 57 ∷ 54 ∷ []) ∷
    (69 ∷ 44 ∷ 55 ∷ 44 ∷ 43 ∷ 49 ∷ 44 ∷ 49 ∷ 44 ∷ 53 ∷ []) ∷
    (69 ∷ 44 ∷ 55 ∷ 44 ∷ 32 ∷ 49 ∷ 44 ∷ 49 ∷ 44 ∷ 53 ∷ []) ∷
    (69 ∷ 44 ∷ 49 ∷ 56 ∷ 52 ∷ 52 ∷ 54 ∷ 55 ∷ 52 ∷ 52 ∷ 48 ∷ 55 ∷ 51 ∷ 55 ∷ 48 ∷ 57 ∷ 53 ∷ 53 ∷ 49 ∷ 54 ∷ 49 ∷ 54 ∷ 44 ∷ 49 ∷ 44 ∷ 49 ∷ 44 ∷ 53 ∷ []) ∷
    (69 ∷ 44 ∷ 55 ∷ 44 ∷ 49 ∷ 56 ∷ 52 ∷ 52 ∷ 54 ∷ 55 ∷ 52 ∷ 52 ∷ 48 ∷ 55 ∷ 51 ∷ 55 ∷ 48 ∷ 57 ∷ 53 ∷ 53 ∷ 49 ∷ 54 ∷ 49 ∷ 53 ∷ 44 ∷ 49 ∷ 44 ∷ 53 ∷ 44 ∷ 53 ∷ []) ∷
    (80 ∷ 44 ∷ 55 ∷ 44 ∷ 49 ∷ 44 ∷ 54 ∷ 44 ∷ 55 ∷ 54 ∷ []) ∷
    (80 ∷ 44 ∷ 55 ∷ 44 ∷ 49 ∷ 44 ∷ 54 ∷ 103 ∷ 44 ∷ 55 ∷ 54 ∷ []) ∷
    (80 ∷ 44 ∷ 55 ∷ 44 ∷ 49 ∷ 44 ∷ 54 ∷ 98 ∷ []) ∷
    (80 ∷ 44 ∷ 55 ∷ 44 ∷ 49 ∷ 44 ∷ 54 ∷ 98 ∷ 44 ∷ 55 ∷ 54 ∷ 44 ∷ []) ∷
    (68 ∷ 44 ∷ 55 ∷ []) ∷
    (68 ∷ 44 ∷ 55 ∷ 44 ∷ 54 ∷ 98 ∷ 44 ∷ []) ∷
    (67 ∷ 44 ∷ 55 ∷ 44 ∷ 45 ∷ 49 ∷ []) ∷
    (67 ∷ 44 ∷ 55 ∷ []) ∷
    (88 ∷ []) ∷
    (88 ∷ 44 ∷ 55 ∷ 13 ∷ []) ∷
    (88 ∷ 44 ∷ []) ∷
    (69 ∷ 44 ∷ 55 ∷ 44 ∷ 49 ∷ 44 ∷ 49 ∷ 44 ∷ 53 ∷ 44 ∷ 53 ∷ 44 ∷ 53 ∷ 44 ∷ 53 ∷ 44 ∷ 53 ∷ 44 ∷ 53 ∷ 44 ∷ 53 ∷ 44 ∷ 53 ∷ 44 ∷ 53 ∷ 44 ∷ 53 ∷ 44 ∷ 53 ∷ 44 ∷ 53 ∷ 44 ∷ 53 ∷ 44 ∷ 53 ∷ 44 ∷ 53 ∷ 44 ∷ 53 ∷ 44 ∷ 53 ∷ 44 ∷ 53 ∷ 44 ∷ 53 ∷ 44 ∷ 53 ∷ 44 ∷ 53 ∷ 44 ∷ 53 ∷ 44 ∷ 53 ∷ 44 ∷ 53 ∷ 44 ∷ 53 ∷ 44 ∷ 53 ∷ 44 ∷ 53 ∷ 44 ∷ 53 ∷ 44 ∷ 53 ∷ 44 ∷ 53 ∷ 44 ∷ 53 ∷ 44 ∷ 53 ∷ 44 ∷ 120 ∷ []) ∷
    []

-- 01's example, then an index and a length that are the greatest, digits in either case, and a clean
lines-said : map line_of lines ≡ said
unfolding takes_opened
lines-said = refl

-- each is malformed
odd_lines : map line_of odd ≡ map (λ (s : List ℕ). malformed) odd
unfolding takes_opened
odd_lines = refl

-- a run that leaves a gap is refused at its M (14), 33 lengths by 2, 33 of which one is bad are malformed, and so is a last line without newline
refusals-printed : takes (69 ∷ 44 ∷ 55 ∷ 44 ∷ 49 ∷ 44 ∷ 49 ∷ 44 ∷ 49 ∷ 10 ∷ 77 ∷ 10 ∷ 69 ∷ 44 ∷ 55 ∷ 44 ∷ 53 ∷ 44 ∷ 49 ∷ 44 ∷ 49 ∷ 10 ∷ 77 ∷ 10 ∷ 69 ∷ 44 ∷ 55 ∷ 44 ∷ 50 ∷ 44 ∷ 49 ∷ 44 ∷ 49 ∷ 44 ∷ 49 ∷ 44 ∷ 49 ∷ 44 ∷ 49 ∷ 44 ∷ 49 ∷ 44 ∷ 49 ∷ 44 ∷ 49 ∷ 44 ∷ 49 ∷ 44 ∷ 49 ∷ 44 ∷ 49 ∷ 44 ∷ 49 ∷ 44 ∷ 49 ∷ 44 ∷ 49 ∷ 44 ∷ 49 ∷ 44 ∷ 49 ∷ 44 ∷ 49 ∷ 44 ∷ 49 ∷ 44 ∷ 49 ∷ 44 ∷ 49 ∷ 44 ∷ 49 ∷ 44 ∷ 49 ∷ 44 ∷ 49 ∷ 44 ∷ 49 ∷ 44 ∷ 49 ∷ 44 ∷ 49 ∷ 44 ∷ 49 ∷ 44 ∷ 49 ∷ 44 ∷ 49 ∷ 44 ∷ 49 ∷ 44 ∷ 49 ∷ 44 ∷ 49 ∷ 44 ∷ 49 ∷ 44 ∷ 49 ∷ 10 ∷ 69 ∷ 44 ∷ 55 ∷ 44 ∷ 50 ∷ 44 ∷ 49 ∷ 44 ∷ 49 ∷ 44 ∷ 49 ∷ 44 ∷ 49 ∷ 44 ∷ 49 ∷ 44 ∷ 49 ∷ 44 ∷ 49 ∷ 44 ∷ 49 ∷ 44 ∷ 49 ∷ 44 ∷ 49 ∷ 44 ∷ 49 ∷ 44 ∷ 49 ∷ 44 ∷ 49 ∷ 44 ∷ 49 ∷ 44 ∷ 49 ∷ 44 ∷ 49 ∷ 44 ∷ 49 ∷ 44 ∷ 49 ∷ 44 ∷ 49 ∷ 44 ∷ 49 ∷ 44 ∷ 49 ∷ 44 ∷ 49 ∷ 44 ∷ 49 ∷ 44 ∷ 49 ∷ 44 ∷ 49 ∷ 44 ∷ 49 ∷ 44 ∷ 49 ∷ 44 ∷ 49 ∷ 44 ∷ 49 ∷ 44 ∷ 49 ∷ 44 ∷ 49 ∷ 44 ∷ 49 ∷ 44 ∷ 49 ∷ 44 ∷ 120 ∷ 10 ∷ 81 ∷ []) ≡ 82 ∷ 44 ∷ 52 ∷ 44 ∷ 49 ∷ 52 ∷ 10 ∷ 82 ∷ 44 ∷ 53 ∷ 44 ∷ 50 ∷ 10 ∷ 66 ∷ 44 ∷ 54 ∷ 10 ∷ 66 ∷ 44 ∷ 55 ∷ 10 ∷ 71 ∷ 44 ∷ 55 ∷ 44 ∷ 49 ∷ 44 ∷ 49 ∷ 44 ∷ 48 ∷ 10 ∷ 76 ∷ 44 ∷ 49 ∷ 44 ∷ 48 ∷ 10 ∷ []
unfolding takes_opened
refusals-printed = refl
