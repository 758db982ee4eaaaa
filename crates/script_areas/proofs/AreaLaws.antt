-- An area among eight: it is lent, comes back, and the others are as they were. Assumes nothing.
use mathlib.Core.List.{List}
use mathlib.Core.Path.{◌≡◌, ◌∙◌}
use Prim.Native.Nat.{ℕ, ◌+◌, ◌-◌, ◌*◌, ◌<◌}
use native.Mathlib.Decide.{dec_lt}
use native.Mathlib.Omega.{arith}
use lib.ListN.{length, take, drop}
use borrow.Rule.Slice.PartMut.{put_mid}
use Rattle.cells.specs.Part.{part, put}
use Rattle.cells.specs.PartLaws.{length_part, length-put, part-put_same, part-put-before, part-put-after, loan-put}
use Rattle.contexts.specs.Contexts.{area_numbers, area_bytes, Wf}
use Rattle.contexts.specs.AreaLaws.{formed_of, area-length, area-bytes}
use Rattle.script_areas.specs.Areas.{Areas}

-- ---- one area

pub lengths-are : (xs bs : List ℕ) → Wf xs bs → (length xs ≡ area_numbers) × (length bs ≡ area_bytes)
lengths-are xs bs w = (area-length xs bs (formed_of xs bs w), area-bytes xs bs (formed_of xs bs w))

-- ---- an area among eight

width : (a w : ℕ) → a + w - a ≡ w
width a w = omega arith

-- what is lent of it
lent : (k w : ℕ) (xs : List ℕ) → take (k * w + w - k * w) (drop (k * w) xs) ≡ part (k * w) w xs
unfolding part
lent k w xs = rw (width (k * w) w)

pub lent-lengths : (n k : ℕ) (xs bs : List ℕ) → Areas n xs bs → k < 8 → (length (take (k * area_numbers + area_numbers - k * area_numbers) (drop (k * area_numbers) xs)) ≡ area_numbers) × (length (take (k * area_bytes + area_bytes - k * area_bytes) (drop (k * area_bytes) bs)) ≡ area_bytes)
lent-lengths n k xs bs a l =
    rw (lent k area_numbers xs, lent k area_bytes bs)
    (length_part (k * area_numbers) area_numbers xs (omega (arith, a.numbers-are)), length_part (k * area_bytes) area_bytes bs (omega (arith, a.bytes-are)))

pub lent_wf : (k : ℕ) (xs bs : List ℕ) → Areas 8 xs bs → k < 8 → Wf (take (k * area_numbers + area_numbers - k * area_numbers) (drop (k * area_numbers) xs)) (take (k * area_bytes + area_bytes - k * area_bytes) (drop (k * area_bytes) bs))
lent_wf k xs bs a l = rw (lent k area_numbers xs, lent k area_bytes bs) (a.each k l)

module _ (k : ℕ) (xs bs s t : List ℕ) (l : k < 8) (x : length xs ≡ 8 * area_numbers) (b : length bs ≡ 8 * area_bytes) (w : Wf s t) where
  s-are : length s ≡ area_numbers
  s-are = (lengths-are s t w).0

  t-are : length t ≡ area_bytes
  t-are = (lengths-are s t w).1

  -- the numbers and bytes when it is back
  abbrev numbers : List ℕ
  numbers = put_mid (k * area_numbers) (k * area_numbers + area_numbers - k * area_numbers) xs s

  abbrev bytes : List ℕ
  bytes = put_mid (k * area_bytes) (k * area_bytes + area_bytes - k * area_bytes) bs t

  numbers-put : numbers ≡ put xs (k * area_numbers) s
  numbers-put = loan-put (k * area_numbers) (k * area_numbers + area_numbers - k * area_numbers) xs s (omega (arith, s-are))

  bytes-put : bytes ≡ put bs (k * area_bytes) t
  bytes-put = loan-put (k * area_bytes) (k * area_bytes + area_bytes - k * area_bytes) bs t (omega (arith, t-are))

  own : Wf (part (k * area_numbers) area_numbers (put xs (k * area_numbers) s)) (part (k * area_bytes) area_bytes (put bs (k * area_bytes) t))
  own =
      rw (part-put_same area_numbers xs (k * area_numbers) s s-are (omega arith), part-put_same area_bytes bs (k * area_bytes) t t-are (omega arith))
      w

  before : (j : ℕ) → j < k → Wf (part (j * area_numbers) area_numbers xs) (part (j * area_bytes) area_bytes bs) → Wf (part (j * area_numbers) area_numbers (put xs (k * area_numbers) s)) (part (j * area_bytes) area_bytes (put bs (k * area_bytes) t))
  before j h v =
      rw (part-put-before (j * area_numbers) area_numbers xs (k * area_numbers) s (omega arith) (omega arith), part-put-before (j * area_bytes) area_bytes bs (k * area_bytes) t (omega arith) (omega arith))
      v

  after : (j : ℕ) → k < j → Wf (part (j * area_numbers) area_numbers xs) (part (j * area_bytes) area_bytes bs) → Wf (part (j * area_numbers) area_numbers (put xs (k * area_numbers) s)) (part (j * area_bytes) area_bytes (put bs (k * area_bytes) t))
  after j h v =
      rw (part-put-after (j * area_numbers) area_numbers xs (k * area_numbers) s (omega (arith, s-are)) (omega arith), part-put-after (j * area_bytes) area_bytes bs (k * area_bytes) t (omega (arith, t-are)) (omega arith))
      v

  -- an area of its number, before it or behind it
  each : (n j : ℕ) → Areas n xs bs → (k < j → j < n) → (j < k → j < n) → Wf (part (j * area_numbers) area_numbers (put xs (k * area_numbers) s)) (part (j * area_bytes) area_bytes (put bs (k * area_bytes) t))
  each n j a behind front =
      elim (dec_lt j k) [
        | yes h ↦ before j h (a.each j (front h))
        | no h ↦
            elim (dec_lt k j) [
              | yes g ↦ after j g (a.each j (behind g))
              | no g ↦ let e : j ≡ k = omega arith in rw e own
            ]
      ]

  laid : (n m : ℕ) → Areas n xs bs → ((j : ℕ) → j < m → k < j → j < n) → ((j : ℕ) → j < m → j < k → j < n) → Areas m numbers bytes
  laid n m a behind front =
      rw (numbers-put, bytes-put)
      (record {
        numbers-are = length-put xs (k * area_numbers) s (omega (arith, s-are)) ∙ x;
        bytes-are = length-put bs (k * area_bytes) t (omega (arith, t-are)) ∙ b;
        each = λ j h. each n j a (behind j h) (front j h);
      })

-- one more area is made
pub one_more_lem : (k : ℕ) (xs bs s t : List ℕ) → k < 8 → Areas k xs bs → Wf s t → Areas (k + 1) (put_mid (k * area_numbers) (k * area_numbers + area_numbers - k * area_numbers) xs s) (put_mid (k * area_bytes) (k * area_bytes + area_bytes - k * area_bytes) bs t)
one_more_lem k xs bs s t l a w =
    laid k xs bs s t l a.numbers-are a.bytes-are w k (k + 1) a (λ j h g. omega arith) (λ j h g. omega arith)

-- one of all is changed
pub one-changed : (k : ℕ) (xs bs s t : List ℕ) → k < 8 → Areas 8 xs bs → Wf s t → Areas 8 (put_mid (k * area_numbers) (k * area_numbers + area_numbers - k * area_numbers) xs s) (put_mid (k * area_bytes) (k * area_bytes + area_bytes - k * area_bytes) bs t)
one-changed k xs bs s t l a w =
    laid k xs bs s t l a.numbers-are a.bytes-are w 8 8 a (λ j h g. h) (λ j h g. h)
