-- Reserved keys and marks, and scans over the items from item i on. Assumes nothing.
use mathlib.Core.Bool.{Bool, true, false, ◌&&◌}
use mathlib.Core.Path.{◌≡◌, refl}
use mathlib.Core.List.{List, [], ◌∷◌}
use Rattle.std.specs.Prelude.{Option, None, Some}
use Prim.Native.Nat.{ℕ, zero, suc, ◌+◌, ◌*◌, ◌-◌, ◌≤◌, ◌<◌}
use native.Mathlib.Numerals.{add-one}
use native.Mathlib.Omega.{arith}
use lib.Dec.{eqb}
use lib.ListN.{length, get_or, drop}
use lib.Seq.{drop-drop, drop-cons}
use Rattle.cells.specs.Part.{part}
use Rattle.maps.specs.Lists.{find_from, map_option, or_else}
use Rattle.maps.specs.Maps.{equal_bytes}
use Rattle.rules.specs.Limits.{reserved_key}
use Rattle.rules.specs.Items.{LogItem, one_byte, end, status_of}
use Rattle.rules.specs.Checks.{Mark, first_mark}
use Rattle.log_batch.specs.Lent.{item_at, items_from}
use Rattle.log_batch.specs.Judged.{mark_here}
pub use Rattle.log_batch.specs.OpenLaws.{item-is}

-- ---- reserved keys

and-false : (b : Bool) → b && false ≡ false
and-false true = refl
and-false false = refl

pub and-true : (b : Bool) → b && true ≡ b
and-true true = refl
and-true false = refl

-- a key is compared byte by byte, if it has three
pub key_three : (k : List ℕ) → length k ≡ 3 → equal_bytes k reserved_key ≡ eqb (get_or k 0 0) 95 && (eqb (get_or k 1 0) 95 && eqb (get_or k 2 0) 1)
unfolding equal_bytes
key_three [] h = absurd (omega arith)
key_three (a ∷ []) h = absurd (omega arith)
key_three (a ∷ (b ∷ [])) h = absurd (omega arith)
key_three (a ∷ (b ∷ (c ∷ []))) h = rw and-true
key_three (a ∷ (b ∷ (c ∷ (d ∷ ds)))) h = absurd (omega arith)

pub key_other : (k : List ℕ) → (length k ≡ 3 → ⊥) → equal_bytes k reserved_key ≡ false
unfolding equal_bytes
key_other [] h = refl
key_other (a ∷ []) h = and-false (eqb a 95)
key_other (a ∷ (b ∷ [])) h = rw (and-false (eqb b 95)) (and-false (eqb a 95))
key_other (a ∷ (b ∷ (c ∷ []))) h = absurd (h refl)
key_other (a ∷ (b ∷ (c ∷ (d ∷ ds)))) h = rw (and-false (eqb c 1), and-false (eqb b 95)) (and-false (eqb a 95))

-- ---- marks

pub one-byte-part : (bs : List ℕ) (a : ℕ) → a + 1 ≤ length bs → one_byte (Some (part a 1 bs)) ≡ Some (get_or bs a 0)
unfolding one_byte part
one-byte-part bs a h = rw (drop-cons bs a 0 (omega arith))

pub not-one-byte : (l : List ℕ) → (length l ≡ 1 → ⊥) → one_byte (Some l) ≡ None
unfolding one_byte
not-one-byte [] h = refl
not-one-byte (a ∷ []) h = absurd (h refl)
not-one-byte (a ∷ (b ∷ l)) h = refl

-- of the first mark and the marks behind it
module _ (f : ℕ → Mark) (d : Option Mark) where
  or-mark : (o : Option ℕ) (m : Mark) → map_option f o ≡ Some m → or_else d (λ (b : ℕ). Some (f b)) o ≡ Some m
  unfolding map_option or_else
  or-mark None m h = let z : ◌≡◌ {A = ℕ} 0 1 = cc in absurd (omega arith)
  or-mark (Some b) m h = h

  or-none : (o : Option ℕ) → map_option f o ≡ None → or_else d (λ (b : ℕ). Some (f b)) o ≡ d
  unfolding map_option or_else
  or-none None h = refl
  or-none (Some b) h = let z : ◌≡◌ {A = ℕ} 0 1 = cc in absurd (omega arith)

-- ---- the items from item i on

module _ (es bs : List ℕ) where
  pub items-start : (n : ℕ) (xs : List ℕ) → items_from es bs n xs ≡ items_from es bs (n - 0) (drop (0 * 9) xs)
  items-start n xs = let e : n - 0 ≡ n = omega arith in rw e

  module _ (n i : ℕ) (xs : List ℕ) where
    pub items-end : n ≤ i → items_from es bs (n - i) (drop (i * 9) xs) ≡ []
    unfolding items_from
    items-end h = let e : n - i ≡ 0 = omega arith in rw e

    pub items_more : i < n → items_from es bs (n - i) (drop (i * 9) xs) ≡ item_at es bs (drop (i * 9) xs) ∷ items_from es bs (n - (i + 1)) (drop ((i + 1) * 9) xs)
    unfolding items_from
    items_more h =
        let e : n - i ≡ suc (n - (i + 1)) = omega arith in
        let s : (i + 1) * 9 ≡ i * 9 + 9 = omega arith in
        rw (e, s, drop-drop 9 (i * 9) xs)

    -- the first mark
    pub mark-end : n ≤ i → first_mark i (items_from es bs (n - i) (drop (i * 9) xs)) ≡ None
    unfolding first_mark
    mark-end h = rw (items-end h)

    pub mark-found : (m : Mark) → i < n → mark_here i (item_at es bs (drop (i * 9) xs)) ≡ Some m → first_mark i (items_from es bs (n - i) (drop (i * 9) xs)) ≡ Some m
    unfolding first_mark mark_here
    mark-found m h e = rw (items_more h) (or-mark _ _ _ m e)

    pub mark-more : i < n → mark_here i (item_at es bs (drop (i * 9) xs)) ≡ None → first_mark i (items_from es bs (n - i) (drop (i * 9) xs)) ≡ first_mark (i + 1) (items_from es bs (n - (i + 1)) (drop ((i + 1) * 9) xs))
    unfolding first_mark mark_here
    mark-more h e = rw (items_more h, add-one i) (or-none _ _ _ e)

    -- the first item that meets a test
    module _ (p : ℕ → LogItem → Bool) where
      pub find-end : n ≤ i → find_from p i (items_from es bs (n - i) (drop (i * 9) xs)) ≡ None
      unfolding find_from
      find-end h = rw (items-end h)

      pub find_here : i < n → p i (item_at es bs (drop (i * 9) xs)) ≡ true → find_from p i (items_from es bs (n - i) (drop (i * 9) xs)) ≡ Some i
      unfolding find_from
      find_here h t = rw (items_more h, t)

      pub find-more : i < n → p i (item_at es bs (drop (i * 9) xs)) ≡ false → find_from p i (items_from es bs (n - i) (drop (i * 9) xs)) ≡ find_from p (i + 1) (items_from es bs (n - (i + 1)) (drop ((i + 1) * 9) xs))
      unfolding find_from
      find-more h t = rw (items_more h, t, add-one i)

-- any number but 0 and 1 stands for the last status
pub status_end : (b : ℕ) → (b ≡ 0 → ⊥) → (b ≡ 1 → ⊥) → end ≡ status_of b
unfolding status_of
status_end zero p q = absurd (p refl)
status_end (suc zero) p q = absurd (q refl)
status_end (suc (suc n)) p q = refl
