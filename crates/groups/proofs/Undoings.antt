-- The marks cleared one by one, and the stretches taken back one by one. Assumes nothing.
use mathlib.Core.Bool.{true}
use mathlib.Core.List.{List}
use mathlib.Core.Path.{◌≡◌, refl, sym, ◌∙◌}
use Prim.Native.Nat.{ℕ, ◌+◌, ◌*◌, ◌≤◌, ◌<◌}
use native.Mathlib.Omega.{arith}
use lib.Dec.{eqb}
use lib.ListN.{length, set, take, drop, length-set}
use lib.Seq.{get_or-set_same, get_or-set_other, take-set-le, drop-set-lt}
use borrow.Author.Tests.{eqb-true, eqb-false}
use Rattle.maps.specs.OrderLaws.{split}
use Rattle.stretch.specs.Layout.{stretch_width}
use Rattle.stretch.specs.Stretch.{is_used}
use Rattle.stretch.specs.Stretch as stretch
use Rattle.groups.specs.Area.{slots, numbers_in_use, bytes_in_use, stretch_at, bytes_at, cell_at, cells, Wf}
use Rattle.groups.specs.AreaLaws.{Same, same_back, same-cell, same_wf, same-stretch, only-length, only-length-bytes, only-other, only-drop, only-drop-bytes}
use Rattle.groups.specs.Undo.{live_numbers, mark_at, undone_cell, undone_cells, Undoable, Begun, Undone, Restorable, UndoneAt}
use Rattle.groups.specs.UndoLaws.{undone-are, same-mark, same-undone, same-saved, undone-kept}

-- ---- marks

-- the marks of the first n spare stretches are cleared
pub record Cleared (n : ℕ) (xs xs' : List ℕ) : Type 0 where
  pub all : length xs' ≡ length xs
  pub live : take live_numbers xs' ≡ take live_numbers xs
  pub behind : drop numbers_in_use xs' ≡ drop numbers_in_use xs
  pub marks : (k : ℕ) → k < n → mark_at k xs' ≡ 0

pub cleared_more : (n : ℕ) (xs xs' : List ℕ) → numbers_in_use ≤ length xs → n < slots → Cleared n xs xs' → Cleared (n + 1) xs (set xs' ((slots + n) * stretch_width) 0)
unfolding mark_at
cleared_more n xs xs' p l c =
    let e = c.all in
    record {
      all = length-set xs' ((slots + n) * stretch_width) 0 ∙ e;
      live = take-set-le live_numbers xs' ((slots + n) * stretch_width) 0 (omega arith) ∙ c.live;
      behind = drop-set-lt numbers_in_use xs' ((slots + n) * stretch_width) 0 (omega arith) ∙ c.behind;
      marks =
          λ k h.
          split (eqb k n)
          (λ e. rw (eqb-true k n e) (get_or-set_same xs' ((slots + n) * stretch_width) 0 0 (omega arith)))
          (λ e. let d = eqb-false k n e in get_or-set_other xs' ((slots + n) * stretch_width) ((slots + k) * stretch_width) 0 0 (λ q. d (omega arith)) ∙ c.marks k (omega (arith, d)));
    }

pub cleared_all : (xs xs' : List ℕ) → Cleared slots xs xs' → (bs : List ℕ) → Wf xs bs → Begun xs bs xs'
cleared_all xs xs' c bs w =
    let s : (j : ℕ) → j < slots → Same j xs bs xs' bs = λ j l. record { numbers = same-stretch j live_numbers xs xs' (omega arith) (sym c.live); bytes = refl } in
    let u : undone_cells xs' bs ≡ cells xs bs = undone-are xs' bs xs bs (λ k l. undone-kept k xs' bs (c.marks k l) ∙ sym (same-cell (s k l))) in
    record {
      live = c.live;
      behind = c.behind;
      undone = u;
      undoable = record { saved = λ k l m. absurd (omega (arith, c.marks k l)); distinct = rw u w.distinct };
      wf = same_wf s w (omega (arith, c.all, w.numbers_fit)) w.bytes_fit;
    }

-- ---- and then the next

-- the first n stretches have gone back
pub record Taken (n : ℕ) (xs bs xs' bs' : List ℕ) : Type 0 where
  pub numbers-all : length xs' ≡ length xs
  pub bytes-all : length bs' ≡ length bs
  pub behind : drop numbers_in_use xs' ≡ drop numbers_in_use xs
  pub behind-bytes : drop bytes_in_use bs' ≡ drop bytes_in_use bs
  pub cell : (k : ℕ) → k < n → cell_at k xs' bs' ≡ undone_cell k xs bs
  pub wf : (k : ℕ) → k < n → is_used (stretch_at k xs') ≡ true → stretch.Wf (stretch_at k xs') (bytes_at k bs')
  pub rest : (k : ℕ) → n ≤ k → Same k xs' bs' xs bs

module _ (n : ℕ) (xs bs xs' bs' : List ℕ) (l : n < slots) (w : Wf xs bs) (u : Undoable xs bs) (t : Taken n xs bs xs' bs') where
  numbers_fit : numbers_in_use ≤ length xs'
  numbers_fit = omega (arith, t.numbers-all, w.numbers_fit)

  bytes_fit : bytes_in_use ≤ length bs'
  bytes_fit = omega (arith, t.bytes-all, w.bytes_fit)

  pub taken-ready : Restorable n xs' bs'
  taken-ready =
      let s = t.rest n (omega arith) in
      let v = t.rest (slots + n) (omega arith) in
      record {
        inside = l;
        numbers_fit = numbers_fit;
        bytes_fit = bytes_fit;
        used = λ h. rw (s.numbers, s.bytes) (w.used n l (rw s.numbers at h));
        saved = λ m. same-saved n (same_back s) (same_back v) (u.saved n l (rw (same-mark n v) at m));
      }

  pub taken_more : (ys ds : List ℕ) → UndoneAt n xs' bs' ys ds → Taken (n + 1) xs bs ys ds
  taken_more ys ds a =
      let b : n < 16 = omega arith in
      let p = numbers_fit in
      let q = bytes_fit in
      let o = a.only in
      let other : (k : ℕ) → (k ≡ n → ⊥) → Same k ys ds xs' bs' = λ k d. only-other b p q o k d in
      let s = t.rest n (omega arith) in
      let v = t.rest (slots + n) (omega arith) in
      record {
        numbers-all = only-length b p q o ∙ t.numbers-all;
        bytes-all = only-length-bytes b p q o ∙ t.bytes-all;
        behind = only-drop b p q o numbers_in_use (omega arith) ∙ t.behind;
        behind-bytes = only-drop-bytes b p q o bytes_in_use (omega arith) ∙ t.behind-bytes;
        cell =
            λ k h.
            split (eqb k n)
            (λ e. rw (eqb-true k n e) (a.cell ∙ same-undone n s v))
            (λ e. let d = eqb-false k n e in same-cell (other k d) ∙ t.cell k (omega (arith, d)));
        wf =
            λ k h y.
            split (eqb k n)
            (λ e. rw (eqb-true k n e) (a.wf (rw (eqb-true k n e) at y)))
            (λ e.
            let d = eqb-false k n e in
            rw ((other k d).numbers, (other k d).bytes) (t.wf k (omega (arith, d)) (rw (other k d).numbers at y)));
        rest = λ k h. let m = other k (λ e. omega arith) in let r = t.rest k (omega arith) in record { numbers = m.numbers ∙ r.numbers; bytes = m.bytes ∙ r.bytes };
      }

pub taken_all : (xs bs xs' bs' : List ℕ) → Wf xs bs → Undoable xs bs → Taken slots xs bs xs' bs' → Undone xs bs xs' bs'
taken_all xs bs xs' bs' w u t =
    let e : cells xs' bs' ≡ undone_cells xs bs = sym (undone-are xs bs xs' bs' (λ k l. sym (t.cell k l))) in
    record {
      cells_are = e;
      behind = t.behind;
      behind-bytes = t.behind-bytes;
      wf = record {
        numbers_fit = omega (arith, t.numbers-all, w.numbers_fit);
        bytes_fit = omega (arith, t.bytes-all, w.bytes_fit);
        used = t.wf;
        distinct = rw e u.distinct;
      };
    }
