-- How many rows a scan from the front takes.
use Rattle.std.specs.Prelude.{Bool, cond, ◌&&◌, List, ℕ, zero, suc, ◌+◌, ◌^◌, ltb, leb, get_or, drop}

-- rows while the sequence number is at most the gate
unfoldable pub count_before : ℕ → ℕ → List ℕ → ℕ
count_before gate zero xs = 0
count_before gate (suc n) xs = cond (leb (get_or xs 2 0) gate) (suc (count_before gate n (drop 8 xs))) 0

-- whether a record of length l is one too many after a sum of lengths
unfoldable pub stops : ℕ → ℕ → ℕ → Bool
stops size sum l = ltb size (sum + l) && ltb 0 sum

-- the sum of the lengths of the first n rows, and whether it is within a size, for as many rows as are summed
unfoldable pub len_sum : ℕ → List ℕ → ℕ
len_sum zero xs = 0
len_sum (suc n) xs = get_or xs 7 0 + len_sum n (drop 8 xs)

unfoldable pub all_fit : ℕ → ℕ → List ℕ → Bool
all_fit size n xs = leb n (2 ^ 28) && leb (len_sum n xs) size

-- rows up to a size, after a sum of lengths
unfoldable pub size_count : ℕ → ℕ → ℕ → List ℕ → ℕ
size_count size sum zero xs = 0
size_count size sum (suc n) xs = cond (stops size sum (get_or xs 7 0)) 0 (suc (size_count size (sum + get_or xs 7 0) n (drop 8 xs)))
