-- Quoted texts as bytes, for the facts: what is read and printed stands in them as 01 writes it.
use mathlib.Core.List.{List, [], ◌∷◌, ◌++◌, map}
use Prim.Native.Nat.{ℕ}
use Prim.Native.Char.{code}
use Prim.Native.String.{String, [] as []ˢ, ◌∷◌ as ◌∷ˢ◌}

unfoldable pub bytes : String → List ℕ
bytes []ˢ = []
bytes (c ∷ˢ s) = code c ∷ bytes s

-- lines without their newlines
abbrev pub lines : List String → List (List ℕ)
lines ls = map bytes ls

-- lines with their newlines, in a row
unfoldable pub text : List String → List ℕ
text [] = []
text (l ∷ ls) = bytes l ++ (10 ∷ text ls)
