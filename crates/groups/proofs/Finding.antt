-- The search for a group through the eight stretches, from any of them on. Assumes nothing.
use mathlib.Core.Bool.{true, false}
use mathlib.Core.List.{List}
use mathlib.Core.Path.{◌≡◌, sym, ap, ◌∙◌}
use Prim.Native.Nat.{ℕ, ◌+◌, ◌-◌, ◌*◌, ◌%◌, ◌<◌}
use native.Mathlib.Nat.{add-zero, mod-lt, mod-eq_of_lt, add-mod_right}
use native.Mathlib.Decide.{dec_lt}
use native.Mathlib.Omega.{arith}
use lib.Dec.{eqb}
use lib.ListN.{get_or}
use Rattle.std.specs.Prelude.{Option, None, Some}
use Rattle.std.specs.Option.{option_or}
use Rattle.maps.specs.Lists.{or_else}
use Rattle.maps.specs.ListLaws.{some-none}
use borrow.Author.Tests.{eq-eqb, ne_eqb, eqb-true, eqb-false}
use Rattle.cells.specs.PartLaws.{get_or-part}
use Rattle.maps.specs.OrderLaws.{split}
use Rattle.stretch.specs.Layout.{stretch_width}
use Rattle.stretch.specs.Stretch.{is_used, group_in}
use Rattle.cells.specs.declared.Slot.TheVariants.{At, Free, Full}
use Rattle.groups.specs.Area.{slots, stretch_at, is_of, Found}

-- each stretch is reached
reach : (s j : ℕ) → s < slots → j < slots → (i : ℕ) × (i < slots) × ((s + i) % slots ≡ j)
reach s j a b =
    elim (dec_lt j s) [
      | yes l ↦ let e : s + (j + slots - s) ≡ j + slots = omega arith in (j + slots - s, omega arith, rw (e, add-mod_right j slots) (mod-eq_of_lt b))
      | no l ↦ let e : s + (j - s) ≡ j = omega arith in (j - s, omega arith, rw e (mod-eq_of_lt b))
    ]

-- ---- a stretch by its first two numbers

first-is : (k : ℕ) (xs : List ℕ) → get_or (stretch_at k xs) 0 0 ≡ get_or xs (k * stretch_width) 0
unfolding stretch_at
first-is k xs = get_or-part (k * stretch_width) stretch_width xs 0 0 (omega arith) ∙ rw (add-zero (k * stretch_width))

pub used_if : (k : ℕ) (xs : List ℕ) → get_or xs (k * stretch_width) 0 ≡ 1 → is_used (stretch_at k xs) ≡ true
unfolding is_used
used_if k xs e = eq-eqb _ 1 (first-is k xs ∙ e)

pub free_if : (k : ℕ) (xs : List ℕ) → (get_or xs (k * stretch_width) 0 ≡ 1 → ⊥) → is_used (stretch_at k xs) ≡ false
unfolding is_used
free_if k xs n = ne_eqb _ 1 (λ e. n (sym (first-is k xs) ∙ e))

group-is : (k : ℕ) (xs : List ℕ) → group_in (stretch_at k xs) ≡ get_or xs (k * stretch_width + 1) 0
unfolding group_in stretch_at
group-is k xs = get_or-part (k * stretch_width) stretch_width xs 1 0 (omega arith)

pub found_here : (g k : ℕ) (xs : List ℕ) → k < slots → get_or xs (k * stretch_width) 0 ≡ 1 → get_or xs (k * stretch_width + 1) 0 ≡ g → Found g xs (At k)
unfolding Found
found_here g k xs l u e = record { inside = l; used = used_if k xs u; number = group-is k xs ∙ e }

-- ---- the stretches that were passed

-- the i stretches from s on are not of group g, and `free` is a free one of them, if there is one
pub record Passed (g : ℕ) (xs : List ℕ) (s : ℕ) (free : Option ℕ) (i : ℕ) : Type 0 where
  pub start : s < slots
  pub none : free ≡ None → (j : ℕ) → j < i → is_used (stretch_at ((s + j) % slots) xs) ≡ true
  pub some : (k : ℕ) → free ≡ Some k → (k < slots) × (is_used (stretch_at k xs) ≡ false)
  pub absent : (j : ℕ) → j < i → is_of g (stretch_at ((s + j) % slots) xs) ≡ false

module _ (g : ℕ) (xs : List ℕ) (s : ℕ) (free : Option ℕ) (i : ℕ) (b : i < slots) (p : Passed g xs s free i) where
  -- what holds of the stretches passed and of this one
  more : (P : ℕ → Type 0) → ((j : ℕ) → j < i → P j) → P i → (j : ℕ) → j < i + 1 → P j
  more P f h j l =
      split (eqb j i)
      (λ e. rw (eqb-true j i e) h)
      (λ e. f j (omega (arith, eqb-false j i e)))

  -- one of another group
  pub passed-other : get_or xs ((s + i) % slots * stretch_width) 0 ≡ 1 → (get_or xs ((s + i) % slots * stretch_width + 1) 0 ≡ g → ⊥) → Passed g xs s free (i + 1)
  unfolding is_of
  passed-other u n =
      let k = (s + i) % slots in
      record {
        start = p.start;
        none = λ e. more (λ j. is_used (stretch_at ((s + j) % slots) xs) ≡ true) (p.none e) (used_if k xs u);
        some = p.some;
        absent =
            more (λ j. is_of g (stretch_at ((s + j) % slots) xs) ≡ false) p.absent
            (rw (used_if k xs u) (ne_eqb _ g (λ e. n (sym (group-is k xs) ∙ e))));
      }

  -- the first free one, with a further one behind it
  or_none : (k : ℕ) (free : Option ℕ) → option_or free (Some k) ≡ None → ⊥
  or_none k None e = some-none k e
  or_none k (Some j) e = some-none j e

  or_some : (P : ℕ → Type 0) (k : ℕ) (free : Option ℕ) → P k → ((j : ℕ) → free ≡ Some j → P j) → (j : ℕ) → option_or free (Some k) ≡ Some j → P j
  unfolding or_else
  or_some P k None h f j e = let d : k ≡ j = ap (or_else 0 (λ n. n)) e in rw d at h
  or_some P k (Some m) h f j e = f j e

  -- a free one, which counts if it is the first
  pub passed-free : (get_or xs ((s + i) % slots * stretch_width) 0 ≡ 1 → ⊥) → Passed g xs s (option_or free (Some ((s + i) % slots))) (i + 1)
  unfolding is_of
  passed-free n =
      let k = (s + i) % slots in
      let l : k < slots = mod-lt (s + i) (omega arith) in
      record {
        start = p.start;
        none = λ e. absurd (or_none k free e);
        some = or_some (λ j. (j < slots) × (is_used (stretch_at j xs) ≡ false)) k free (l, free_if k xs n) p.some;
        absent = more (λ j. is_of g (stretch_at ((s + j) % slots) xs) ≡ false) p.absent (rw (free_if k xs n));
      }

-- all were passed
module _ (g : ℕ) (xs : List ℕ) (s : ℕ) (free : Option ℕ) (p : Passed g xs s free slots) where
  all-absent : (j : ℕ) → j < slots → is_of g (stretch_at j xs) ≡ false
  all-absent j l = let r = reach s j p.start l in rw r.2 at (p.absent r.0 r.1)

  pub passed-full : free ≡ None → Found g xs Full
  unfolding Found
  passed-full e =
      record {
        full = λ j l. let r = reach s j p.start l in rw r.2 at (p.none e r.0 r.1);
        absent = all-absent;
      }

  pub passed-some : (k : ℕ) → free ≡ Some k → Found g xs (Free k)
  unfolding Found
  passed-some k e = let f = p.some k e in record { inside = f.0; free = f.1; absent = all-absent }
