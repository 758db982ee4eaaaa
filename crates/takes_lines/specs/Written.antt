-- What the functions that write a line promise, and that a number's digits are read as that number. Assumes nothing.
use Rattle.std.specs.Prelude.{◌≡◌, refl, List, [], ◌∷◌, ℕ, zero, suc, ◌+◌, ◌*◌, ◌-◌, ◌/◌, ◌%◌, ◌^◌, ◌≤◌, ◌<◌, ltb, length, take}
use Rattle.std.proofs.Common.{◌∙◌, zero-add, pow-suc, div-add-mod'}
use Rattle.std.specs.Prelude.{Some}
use native.Mathlib.Omega.{arith}
use borrow.Author.Tests.{lt-ltb, le-leb, ltb-true, ltb-false}
use Rattle.maps.specs.OrderLaws.{split}
use Rattle.cells.specs.Part.{put}
use Rattle.takes_rules.specs.Fields.{bind, is_digit_byte, decimal_from, below, number}
use Rattle.takes_rules.specs.Output.{digits_before, decimal}

-- the bytes s are laid in at a place, and e is the place behind them
pub record WrittenAt (out : List ℕ) (at : ℕ) (s : List ℕ) (e : ℕ) (out' : List ℕ) : Type 0 where
  pub laid : out' ≡ put out at s
  pub end : e ≡ at + length s

-- the bytes s are laid in at the front, and n is their number
pub record Written (out s : List ℕ) (n : ℕ) (out' : List ℕ) : Type 0 where
  pub laid : out' ≡ put out 0 s
  pub count : n ≡ length s
  pub front : take n out' ≡ s

-- ---- a number's digits are read as that number

module _ (v d : ℕ) (s : List ℕ) (small : d < 10) where
  digit-read : decimal_from v ((48 + d) ∷ s) ≡ decimal_from (v * 10 + d) s
  unfolding decimal_from is_digit_byte
  digit-read =
      let e : 48 + d - 48 ≡ d = omega arith in
      rw (le-leb 48 (48 + d) (omega arith), le-leb (48 + d) 57 (omega arith), e)

-- one digit less
pub tenth : (k n : ℕ) → n < 10 ^ suc k → n / 10 < 10 ^ k
tenth k n h = let more : n < 10 ^ k * 10 = rw pow-suc at h in omega arith

-- a number of two digits or more leaves one
pub more-digits : (k n : ℕ) → n < 10 ^ suc k → 10 ≤ n → 0 < k
more-digits zero n h t = absurd (omega arith)
more-digits (suc k) n h t = omega arith

digits-read : (k n : ℕ) (s : List ℕ) → n < 10 ^ k → 0 < k → decimal_from 0 (digits_before k n s) ≡ decimal_from n s
unfolding digits_before
digits-read zero n s h p = absurd (omega arith)
digits-read (suc k) n s h p =
    split (ltb n 10)
    (λ t. rw t (digit-read 0 n s (ltb-true n 10 t) ∙ rw zero-add))
    (λ t. rw t
    (digits-read k (n / 10) ((48 + n % 10) ∷ s) (tenth k n h) (more-digits k n h (ltb-false n 10 t))
    ∙ digit-read (n / 10) (n % 10) s (omega arith)
    ∙ rw (div-add-mod' n 10)))

length_digits : (k n : ℕ) (s : List ℕ) → length s ≤ length (digits_before k n s)
unfolding digits_before
length_digits zero n s = omega arith
length_digits (suc k) n s =
    split (ltb n 10)
    (λ t. rw t (omega arith))
    (λ t. rw t (omega (arith, length_digits k (n / 10) ((48 + n % 10) ∷ s))))

-- digits are not more than there may be
digits-most : (k n : ℕ) (s : List ℕ) → length (digits_before k n s) ≤ k + length s
unfolding digits_before
digits-most zero n s = omega arith
digits-most (suc k) n s =
    split (ltb n 10)
    (λ t. rw t (omega arith))
    (λ t. rw t (omega (arith, digits-most k (n / 10) ((48 + n % 10) ∷ s))))

pub decimal-most : (n : ℕ) → length (decimal n) ≤ 20
unfolding decimal
decimal-most n = omega (arith, digits-most 20 n [])

some-digit : (k n : ℕ) → 0 < length (digits_before (suc k) n [])
unfolding digits_before
some-digit k n =
    split (ltb n 10)
    (λ t. rw t (omega arith))
    (λ t. rw t (omega (arith, length_digits k (n / 10) ((48 + n % 10) ∷ []))))

number_of : (limit : ℕ) (s : List ℕ) → 0 < length s → number limit s ≡ below limit (decimal_from 0 s)
unfolding number
number_of limit [] h = absurd (omega arith)
number_of limit (b ∷ s) h = refl

-- a number that was printed is read as itself
pub decimal-read : (limit n : ℕ) → n < 10 ^ 20 → n < limit → number limit (decimal n) ≡ Some n
unfolding decimal decimal_from below bind
decimal-read limit n h l = rw (number_of limit (digits_before 20 n []) (some-digit 19 n), digits-read 20 n [] h (omega arith), lt-ltb n limit l)
