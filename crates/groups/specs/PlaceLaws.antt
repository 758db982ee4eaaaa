-- The laws of a list that is cut into places of w numbers each, of which place k alone is changed. Assumes nothing.
use Rattle.std.specs.Prelude.{List, ◌≡◌, ℕ, ◌+◌, ◌*◌, ◌≤◌, ◌<◌, length, take, drop}
use Rattle.std.proofs.Common.{sym, ap, ◌∙◌, mul-le-mul_right, arith, length-take}
use Rattle.std.proofs.Math.Decide.{dec_lt}
use Rattle.cells.specs.Part.{part, put}
use Rattle.cells.specs.PartLaws.{length_part, length-put, take_put, drop-put, part-put-before, part-put-after, put_is, put-part}

-- two places do not overlap
pub apart : (w j k : ℕ) → j < k → j * w + w ≤ k * w
apart w j k l = omega (arith, mul-le-mul_right w l)

pub part-short : (a n : ℕ) (l : List ℕ) → length (part a n l) ≤ n
unfolding part
part-short a n l = simp length-take (omega arith)

-- a list is changed at place k alone, if it is as it was before and after
pub laid_if : (w k : ℕ) (l m : List ℕ) → k * w + w ≤ length m → take (k * w) m ≡ take (k * w) l → drop (k * w + w) m ≡ drop (k * w + w) l → m ≡ put l (k * w) (part (k * w) w m)
laid_if w k l m h p q =
    let s = part (k * w) w m in
    let n : length s ≡ w = length_part (k * w) w m h in
    put_is m l (k * w) s p (rw n) (rw n q)

-- s is laid into place k
pub laid_in : (w k i : ℕ) (l s : List ℕ) → i + length s ≤ w → k * w + w ≤ length l → put l (k * w + i) s ≡ put l (k * w) (part (k * w) w (put l (k * w + i) s))
laid_in w k i l s b h =
    laid_if w k l (put l (k * w + i) s)
    (rw (length-put l (k * w + i) s (omega arith)) h)
    (take_put (k * w) l (k * w + i) s (omega arith) (omega arith))
    (drop-put (k * w + w) l (k * w + i) s (omega arith) (omega arith))

pub laid_none : (w k : ℕ) (l : List ℕ) → k * w + w ≤ length l → l ≡ put l (k * w) (part (k * w) w l)
laid_none w k l h = sym (put-part (k * w) w l h)

module _ (w k : ℕ) (l m : List ℕ) (h : k * w + w ≤ length l) (e : m ≡ put l (k * w) (part (k * w) w m)) where
  pub laid-length : length m ≡ length l
  laid-length = let s = part-short (k * w) w m in ap length e ∙ length-put l (k * w) (part (k * w) w m) (omega arith)

  pub laid-front : (n : ℕ) → n ≤ k * w → take n m ≡ take n l
  laid-front n b = ap (take n) e ∙ take_put n l (k * w) (part (k * w) w m) b (omega arith)

  pub laid-behind : (n : ℕ) → k * w + w ≤ n → drop n m ≡ drop n l
  laid-behind n b = let s = part-short (k * w) w m in ap (drop n) e ∙ drop-put n l (k * w) (part (k * w) w m) (omega arith) (omega arith)

  pub laid-other : (j : ℕ) → (j ≡ k → ⊥) → part (j * w) w m ≡ part (j * w) w l
  laid-other j d =
      let s = part-short (k * w) w m in
      ap (part (j * w) w) e
      ∙ elim (dec_lt j k) [
        | yes b ↦ part-put-before (j * w) w l (k * w) (part (k * w) w m) (apart w j k b) (omega arith)
        | no b ↦ part-put-after (j * w) w l (k * w) (part (k * w) w m) (omega (arith, apart w k j (omega arith))) (omega arith)
      ]

-- one change of place k after another
pub laid-again : (w k : ℕ) (l m n : List ℕ) → k * w + w ≤ length l → m ≡ put l (k * w) (part (k * w) w m) → n ≡ put m (k * w) (part (k * w) w n) → n ≡ put l (k * w) (part (k * w) w n)
laid-again w k l m n h p q =
    let a = laid-length w k l m h p in
    let g : k * w + w ≤ length m = omega arith in
    let b = laid-length w k m n g q in
    laid_if w k l n (omega arith)
    (laid-front w k m n g q (k * w) (omega arith) ∙ laid-front w k l m h p (k * w) (omega arith))
    (laid-behind w k m n g q (k * w + w) (omega arith) ∙ laid-behind w k l m h p (k * w + w) (omega arith))
