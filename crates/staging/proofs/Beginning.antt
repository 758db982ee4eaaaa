-- The spare stretches marked one by one. Assumes nothing.
use mathlib.Core.List.{List}
use mathlib.Core.Path.{◌≡◌, refl, sym, ap, ◌∙◌}
use Prim.Native.Nat.{ℕ, ◌+◌, ◌*◌, ◌≤◌, ◌<◌}
use native.Mathlib.Nat.{add-zero}
use native.Mathlib.Omega.{arith}
use lib.Dec.{eqb}
use lib.ListN.{length, get_or, set, length-set}
use lib.Seq.{get_or-set_same, get_or-set_other, take-set-le, drop-set-lt}
use borrow.Author.Tests.{eqb-true, eqb-false}
use Rattle.cells.specs.PartLaws.{part-set-in, part-set-after, part-set-before}
use Rattle.maps.specs.OrderLaws.{split}
use Rattle.stretch.specs.Layout.{stretch_width}
use Rattle.groups.specs.Area.{slots, numbers_in_use, stretch_at}
use Rattle.groups.specs.Undo.{live_numbers, mark_at}
use Rattle.groups.specs.UndoLaws.{mark-is}
use Rattle.staging.specs.Staging.{Begun, sealed_mark, Sealed}

pub begun_none : (xs : List ℕ) → Begun 0 xs xs
begun_none xs = record { marks = λ k l. absurd (omega arith); live = refl; behind = refl; length-is = refl }

pub begun_more : (n : ℕ) (xs xs' : List ℕ) → numbers_in_use ≤ length xs → n < slots → Begun n xs xs' → Begun (n + 1) xs (set xs' ((slots + n) * stretch_width) 0)
unfolding mark_at
begun_more n xs xs' p l b =
    let e = b.length-is in
    record {
      marks =
          λ k h.
          split (eqb k n)
          (λ s. rw (eqb-true k n s) (get_or-set_same xs' ((slots + n) * stretch_width) 0 0 (omega arith)))
          (λ s. let d = eqb-false k n s in get_or-set_other xs' ((slots + n) * stretch_width) ((slots + k) * stretch_width) 0 0 (λ q. d (omega arith)) ∙ b.marks k (omega (arith, d)));
      live = take-set-le live_numbers xs' ((slots + n) * stretch_width) 0 (omega arith) ∙ b.live;
      behind = drop-set-lt numbers_in_use xs' ((slots + n) * stretch_width) 0 (omega arith) ∙ b.behind;
      length-is = length-set xs' ((slots + n) * stretch_width) 0 ∙ e;
    }

-- ---- the marks of what is staged

pub sealed_none : (xs : List ℕ) → Sealed 0 xs xs
sealed_none xs =
    record { sealed = λ k l. absurd (omega arith); still = λ k a l. refl; live = refl; behind = refl; length-is = refl }

module _ (n : ℕ) (xs xs' : List ℕ) (p : numbers_in_use ≤ length xs) (l : n < slots) (s : Sealed n xs xs') where
  abbrev with : List ℕ
  with = set xs' ((slots + n) * stretch_width) (sealed_mark (mark_at n xs'))

  mark-still : mark_at n xs' ≡ mark_at n xs
  mark-still = mark-is n xs' ∙ ap (λ (q : List ℕ). get_or q 0 0) (s.still n (omega arith) l) ∙ sym (mark-is n xs)

  set_here : stretch_at (slots + n) with ≡ set (stretch_at (slots + n) xs') 0 (sealed_mark (mark_at n xs'))
  unfolding stretch_at
  set_here = rw (add-zero ((slots + n) * stretch_width)) at (part-set-in ((slots + n) * stretch_width) stretch_width xs' 0 (sealed_mark (mark_at n xs')) (omega arith))

  sealed_here : stretch_at (slots + n) with ≡ set (stretch_at (slots + n) xs) 0 (sealed_mark (mark_at n xs))
  sealed_here = set_here ∙ rw (mark-still, s.still n (omega arith) l)

  sealed-before : (k : ℕ) → k < n → stretch_at (slots + k) with ≡ stretch_at (slots + k) xs'
  unfolding stretch_at
  sealed-before k h = part-set-after ((slots + k) * stretch_width) stretch_width xs' ((slots + n) * stretch_width) _ (omega arith)

  sealed-after : (k : ℕ) → n < k → stretch_at (slots + k) with ≡ stretch_at (slots + k) xs'
  unfolding stretch_at
  sealed-after k h = part-set-before ((slots + k) * stretch_width) stretch_width xs' ((slots + n) * stretch_width) _ (omega arith)

  pub sealed_more : Sealed (n + 1) xs with
  sealed_more =
      record {
        sealed =
            λ k h.
            split (eqb k n)
            (λ e. rw (eqb-true k n e) sealed_here)
            (λ e. let d = eqb-false k n e in let b : k < n = omega (arith, d) in sealed-before k b ∙ s.sealed k b);
        still = λ k a h. sealed-after k (omega arith) ∙ s.still k (omega arith) h;
        live = take-set-le live_numbers xs' ((slots + n) * stretch_width) _ (omega arith) ∙ s.live;
        behind = drop-set-lt numbers_in_use xs' ((slots + n) * stretch_width) _ (omega arith) ∙ s.behind;
        length-is = length-set xs' ((slots + n) * stretch_width) _ ∙ s.length-is;
      }
