-- The order of two runs of bytes, and bytes as one number. Assumes nothing.
use Rattle.std.specs.Prelude.{ℕ, zero, suc, ◌+◌, ◌*◌, ◌^◌, cond, List, [], ◌∷◌, ltb, get_or}
use Rattle.std.specs.declared.cmp.Ordering.{Ordering}
use Rattle.std.specs.declared.cmp.Ordering.TheVariants.{Less, Equal, Greater}

-- by the first byte that differs, and a prefix first
unfoldable pub byte_order : List ℕ → List ℕ → Ordering
byte_order [] [] = Equal
byte_order [] (y ∷ ys) = Less
byte_order (x ∷ xs) [] = Greater
byte_order (x ∷ xs) (y ∷ ys) = cond (ltb x y) Less (cond (ltb y x) Greater (byte_order xs ys))

-- the n bytes from place i on as one number, the first byte highest
unfoldable pub word_at : ℕ → ℕ → List ℕ → ℕ
word_at zero i s = 0
word_at (suc n) i s = get_or s i 0 * 256 ^ n + word_at n (i + 1) s
