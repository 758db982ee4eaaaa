-- The order of two runs of bytes by the numbers that their next n bytes are. Assumes nothing.
use Prim.Native.Nat.{ℕ, zero, suc, ◌+◌, ◌*◌, ◌/◌, ◌^◌, ◌≤◌, ◌<◌, min}
use native.Mathlib.Nat.{add-zero, add_assoc, zero-mul, pow-suc, suc-mul, mul-le-mul_right}
use native.Mathlib.Numerals.{add-one}
use native.Mathlib.Omega.{arith}
use mathlib.Core.Path.{◌≡◌, refl, sym, ◌∙◌}
use mathlib.Core.List.{List, [], ◌∷◌}
use lib.ListN.{length, get_or, take, drop, length-drop}
use lib.Seq.{drop-cons, drop-drop}
use Rattle.std.proofs.Common.{get_or-take, get_or-drop, lit<}
use Rattle.std.specs.Simd.{first_chunks}
use Rattle.std.specs.Int.{from_be_bytes}
use mir.Syntax.{w8, w64}
use mir.Val.{Fits}
use Rattle.std.specs.declared.cmp.Ordering.{Ordering}
use Rattle.std.specs.declared.cmp.Ordering.TheVariants.{Less, Equal, Greater}
use Rattle.std.specs.Ordering.{nat_cmp, ordering_then}
use Rattle.std.specs.Cmp.{nat_cmp_is}
use Rattle.std.specs.Cmp.Derive.{then_next}
use Rattle.std.specs.Cmp.Lexicographic.{slice_cmp}
use Rattle.std.proofs.lemmas.Cmp.{ranked, by_ranked}
use Rattle.std.proofs.lemmas.Bool.Decides.{nat_tests}
use Rattle.cells.specs.Bytes.{byte_order, word_at}

-- std's order of slices
pub byte_order_is : (xs ys : List ℕ) → byte_order xs ys ≡ slice_cmp nat_cmp xs ys
unfolding byte_order
byte_order_is [] [] = refl
byte_order_is [] (y ∷ ys) = refl
byte_order_is (x ∷ xs) [] = refl
byte_order_is (x ∷ xs) (y ∷ ys) = rw (byte_order_is xs ys) (grind (arith, nat_tests))

-- every element is a byte
abbrev pub Bytes : List ℕ → Type 0
Bytes s = (i : ℕ) → Fits w8 (get_or s i 0)

-- a number of n bytes is below the next power
word_below : (s : List ℕ) → Bytes s → (n i : ℕ) → word_at n i s < 256 ^ n
unfolding word_at
word_below s b zero i = omega arith
word_below s b (suc n) i =
    let h : get_or s i 0 < 256 = omega (arith, b i) in
    omega (arith, pow-suc 256 n, word_below s b n (i + 1), mul-le-mul_right (256 ^ n) h, suc-mul (get_or s i 0) (256 ^ n))

-- of two numbers in base p the higher digits decide first
same-digits : (k v w : ℕ) → nat_cmp (k + v) (k + w) ≡ nat_cmp v w
same-digits k v w = grind (arith, nat_tests)

by_digits : (x y p v w : ℕ) → v < p → w < p → nat_cmp (x * p + v) (y * p + w) ≡ ordering_then (nat_cmp x y) (nat_cmp v w)
by_digits x y p v w f g =
    by_ranked (x < y) (x ≡ y) (y < x) (nat_cmp x y) (ranked x y _ refl)
    (λ e h. rw e (sym (nat_cmp_is _ _ Less (let m : x * p + v < y * p + w = omega (arith, mul-le-mul_right p h, suc-mul x p) in m))))
    (λ e h. rw (e, h) (same-digits (y * p) v w))
    (λ e h. rw e (sym (nat_cmp_is _ _ Greater (let m : y * p + w < x * p + v = omega (arith, mul-le-mul_right p h, suc-mul y p) in m))))

chunk_at : {X : Type 0} (n k : ℕ) (xs : List X) (i : ℕ) (d : List X) → i < k → get_or (first_chunks n k xs) i d ≡ take n (drop (i * n) xs)
chunk_at n zero xs i d h = absurd (omega arith)
chunk_at n (suc k) xs zero d h = rw (zero-mul n)
chunk_at n (suc k) xs (suc i) d h =
    let e : n + i * n ≡ suc i * n = omega (arith, suc-mul i n) in
    chunk_at n k (drop n xs) i d (omega arith) ∙ rw (drop-drop (i * n) n xs, e)

word_of : (s x : List ℕ) (i : ℕ) → x ≡ take 8 (drop i s) → from_be_bytes w64 x ≡ word_at 8 i s
unfolding word_at
word_of s x i e =
    let byte : (k : ℕ) → k < 8 → get_or x k 0 ≡ get_or s (i + k) 0 = λ k h. rw e (get_or-take 8 (drop i s) k 0 h ∙ get_or-drop i s k 0) in
    let first : get_or x 0 0 ≡ get_or s i 0 = rw add-zero at (byte 0 (lit< tt)) in
    simp add_assoc (omega (arith, first, byte 1 (lit< tt), byte 2 (lit< tt), byte 3 (lit< tt), byte 4 (lit< tt), byte 5 (lit< tt), byte 6 (lit< tt), byte 7 (lit< tt)))

-- a comparison that finds a difference ends there
pub decided : (r o : Ordering) → (r ≡ Equal → ⊥) → ordering_then r o ≡ r
decided Less o n = refl
decided Equal o n = absurd (n refl)
decided Greater o n = refl

module _ (a b : List ℕ) (p : Bytes a) (q : Bytes b) where
  by_byte : (i : ℕ) → i < length a → i < length b → slice_cmp nat_cmp (drop i a) (drop i b) ≡ ordering_then (nat_cmp (get_or a i 0) (get_or b i 0)) (slice_cmp nat_cmp (drop (i + 1) a) (drop (i + 1) b))
  by_byte i f g = rw (add-one i, drop-cons a i 0 f, drop-cons b i 0 g)

  pub by_word : (n i : ℕ) → i + n ≤ length a → i + n ≤ length b → slice_cmp nat_cmp (drop i a) (drop i b) ≡ ordering_then (nat_cmp (word_at n i a) (word_at n i b)) (slice_cmp nat_cmp (drop (i + n) a) (drop (i + n) b))
  unfolding word_at
  by_word zero i f g = rw (add-zero i)
  by_word (suc n) i f g =
      let e : i + suc n ≡ i + 1 + n = omega arith in
      then_next (nat_cmp (get_or a i 0) (get_or b i 0)) _ _ (by_digits _ _ _ _ _ (word_below a p n (i + 1)) (word_below b q n (i + 1)))
      (by_byte i (omega arith) (omega arith) ∙ rw (by_word n (i + 1) (omega arith) (omega arith), e))

  -- a turn over the words of both: r is how the m-th ones compare
  pub by_chunk : (m : ℕ) (xs ys : List (List ℕ)) (x y : List ℕ) (v w : ℕ) (r : Ordering)
      → xs ≡ first_chunks 8 (length a / 8) a → ys ≡ first_chunks 8 (length b / 8) b → m < length a / 8 → m < length b / 8
      → x ≡ get_or xs m x → y ≡ get_or ys m y → v ≡ from_be_bytes w64 x → w ≡ from_be_bytes w64 y → r ≡ nat_cmp v w
      → slice_cmp nat_cmp (drop (m * 8) a) (drop (m * 8) b) ≡ ordering_then r (slice_cmp nat_cmp (drop ((m + 1) * 8) a) (drop ((m + 1) * 8) b))
  by_chunk m xs ys x y v w r e f g h i j k l o =
      let n : (m + 1) * 8 ≡ m * 8 + 8 = omega arith in
      let vw : v ≡ word_at 8 (m * 8) a = k ∙ word_of a x (m * 8) (i ∙ (rw e (chunk_at 8 (length a / 8) a m x g))) in
      let ww : w ≡ word_at 8 (m * 8) b = l ∙ word_of b y (m * 8) (j ∙ (rw f (chunk_at 8 (length b / 8) b m y h))) in
      rw (o, vw, ww, n) (by_word 8 (m * 8) (omega arith) (omega arith))

  -- a turn over the bytes from place k on: r is how the m-th ones compare
  pub by_rest : (k m x y : ℕ) (xs ys : List ℕ) (r : Ordering)
      → xs ≡ drop k a → ys ≡ drop k b → m < length xs → m < length ys
      → x ≡ get_or xs m 0 → y ≡ get_or ys m 0 → r ≡ nat_cmp x y
      → slice_cmp nat_cmp (drop (k + m) a) (drop (k + m) b) ≡ ordering_then r (slice_cmp nat_cmp (drop (k + (m + 1)) a) (drop (k + (m + 1)) b))
  by_rest k m x y xs ys r e f g h i j l =
      let n : k + (m + 1) ≡ k + m + 1 = omega arith in
      let u : x ≡ get_or a (k + m) 0 = i ∙ (rw e (get_or-drop k a m 0)) in
      let v : y ≡ get_or b (k + m) 0 = j ∙ (rw f (get_or-drop k b m 0)) in
      rw (l, u, v, n) (by_byte (k + m) (omega (arith, rw e at g, length-drop k a)) (omega (arith, rw f at h, length-drop k b)))

-- with nothing of one left, the lengths decide
pub by_lengths : (xs ys : List ℕ) (n : ℕ) → n ≡ min (length xs) (length ys) → slice_cmp nat_cmp (drop n xs) (drop n ys) ≡ nat_cmp (length xs) (length ys)
by_lengths [] [] zero e = refl
by_lengths [] (y ∷ ys) zero e = nat_cmp_is _ _ Less (let m : 0 < suc (length ys) = omega arith in m)
by_lengths (x ∷ xs) [] zero e = nat_cmp_is _ _ Greater (let m : 0 < suc (length xs) = omega arith in m)
by_lengths (x ∷ xs) (y ∷ ys) zero e = absurd (omega (arith, e))
by_lengths [] ys (suc n) e = absurd (omega (arith, e))
by_lengths (x ∷ xs) [] (suc n) e = absurd (omega (arith, e))
by_lengths (x ∷ xs) (y ∷ ys) (suc n) e = by_lengths xs ys n (omega (arith, e)) ∙ (let s : nat_cmp (length xs) (length ys) ≡ nat_cmp (suc (length xs)) (suc (length ys)) = grind (arith, nat_tests) in s)
