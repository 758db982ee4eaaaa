-- The laws of what the stretches go back to: it depends on the stretches and the spare ones, each by itself. Assumes nothing.
use Rattle.std.specs.Prelude.{Bool, true, List, [], ◌∷◌, ◌≡◌, ℕ, ◌+◌, ◌*◌, ◌%◌, ◌≤◌, ◌<◌, eqb, length, get_or}
use Rattle.std.specs.Prelude.{None}
use Rattle.std.proofs.Common.{sym, ap, ◌∙◌, add-zero, arith, eq-eqb, ne_eqb, eqb-true}
use Rattle.std.proofs.lemmas.Bool.{eqb-false}
use Rattle.cells.specs.Part.{part, put}
use Rattle.cells.specs.PartLaws.{length-put, get_or-part, part_none, part-put-after, put-nil, put-part}
use Rattle.maps.specs.OrderLaws.{split}
use Rattle.stretch.specs.Layout.{stretch_width}
use Rattle.stretch.specs.Stretch.{head_part, cell_of}
use Rattle.stretch.specs.Stretch as stretch
use Rattle.stretch.specs.Reach.{Leaves}
use Rattle.groups.specs.Area.{slots, stretch_at, bytes_at, cell_at, cells}
use Rattle.groups.specs.Undo.{mark_at, low_of, has_keys, back_numbers, back_bytes, back_at, back_bytes_at, undone_cell, undone_cells, Saved, Undoable}
use Rattle.groups.specs.BackLaws.{back-stays, bytes_stay}
use Rattle.groups.specs.AreaLaws.{Same, same-cell, same-cells_by}

-- a mark is the first number of a spare stretch
pub mark-is : (k : ℕ) (xs : List ℕ) → mark_at k xs ≡ get_or (stretch_at (slots + k) xs) 0 0
unfolding mark_at stretch_at
mark-is k xs =
    rw (get_or-part ((slots + k) * stretch_width) stretch_width xs 0 0 (omega arith), add-zero ((slots + k) * stretch_width))

pub same-mark : (k : ℕ) {xs bs ys ds : List ℕ} → Same (slots + k) xs bs ys ds → mark_at k xs ≡ mark_at k ys
same-mark k {xs = xs} {ys = ys} s =
    mark-is k xs ∙ ap (λ (p : List ℕ). get_or p 0 0) s.numbers ∙ sym (mark-is k ys)

-- a mark tells one of three
pub by-mark : {P : Type 0} (m : ℕ) → (m ≡ 0 → P) → (m ≡ 1 → P) → (2 ≤ m → P) → P
by-mark m a b c =
    split (eqb m 0)
    (λ e. a (eqb-true m 0 e))
    (λ e. let d = eqb-false m 0 e in
    split (eqb m 1)
    (λ f. b (eqb-true m 1 f))
    (λ f. let g = eqb-false m 1 f in c (omega (arith, d, g))))

-- ---- the cell that a stretch goes back to, by its mark

pub undone-kept : (k : ℕ) (xs bs : List ℕ) → mark_at k xs ≡ 0 → undone_cell k xs bs ≡ cell_at k xs bs
unfolding undone_cell
undone-kept k xs bs e = rw (eq-eqb (mark_at k xs) 0 e)

pub undone-free : (k : ℕ) (xs bs : List ℕ) → mark_at k xs ≡ 1 → undone_cell k xs bs ≡ None
unfolding undone_cell
undone-free k xs bs e = rw (ne_eqb (mark_at k xs) 0 (λ z. omega arith), eq-eqb (mark_at k xs) 1 e)

pub undone-saved : (k : ℕ) (xs bs : List ℕ) → 2 ≤ mark_at k xs → undone_cell k xs bs ≡ cell_of (back_at k xs) (back_bytes_at k xs bs)
unfolding undone_cell
undone-saved k xs bs h = rw (ne_eqb (mark_at k xs) 0 (λ z. omega arith), ne_eqb (mark_at k xs) 1 (λ z. omega arith))

-- ---- the same where the stretch and the spare are

module _ (k : ℕ) {xs bs ys ds : List ℕ} (s : Same k xs bs ys ds) (t : Same (slots + k) xs bs ys ds) where
  same_back_at : back_at k xs ≡ back_at k ys
  unfolding back_at
  same_back_at = rw (same-mark k t, s.numbers, t.numbers)

  same_back-bytes : back_bytes_at k xs bs ≡ back_bytes_at k ys ds
  unfolding back_bytes_at
  same_back-bytes = rw (same-mark k t, s.bytes, t.bytes)

  pub same-undone : undone_cell k xs bs ≡ undone_cell k ys ds
  unfolding undone_cell
  same-undone = rw (same-mark k t, same-cell s, same_back_at, same_back-bytes)

  pub same-saved : Saved k xs bs → Saved k ys ds
  same-saved v =
      record {
        rows = rw (same-mark k t, t.numbers) at v.rows;
        room = rw t.numbers at v.room;
        wf = rw (same_back_at, same_back-bytes) at v.wf;
      }

pub same-undone_cells : (xs bs ys ds : List ℕ) → ((k : ℕ) → k < slots → undone_cell k xs bs ≡ undone_cell k ys ds) → undone_cells xs bs ≡ undone_cells ys ds
unfolding undone_cells
same-undone_cells xs bs ys ds f = same-cells_by _ _ 0 slots (λ i a b. f i (omega arith))

-- the cells are what those of another area go back to
pub undone-are : (xs bs ys ds : List ℕ) → ((k : ℕ) → k < slots → undone_cell k xs bs ≡ cell_at k ys ds) → undone_cells xs bs ≡ cells ys ds
unfolding undone_cells cells
undone-are xs bs ys ds f = same-cells_by _ _ 0 slots (λ i a b. f i (omega arith))

-- ---- what stretch k goes back to stays

pub record Stays (k : ℕ) (xs bs ys ds : List ℕ) : Type 0 where
  pub cell : undone_cell k ys ds ≡ undone_cell k xs bs
  pub saved : 2 ≤ mark_at k ys → Saved k ys ds

pub same-stays : (k : ℕ) {xs bs ys ds : List ℕ} → k < slots → Undoable xs bs → Same k xs bs ys ds → Same (slots + k) xs bs ys ds → Stays k xs bs ys ds
same-stays k l u s t = record { cell = sym (same-undone k s t); saved = λ h. same-saved k s t (u.saved k l (rw (same-mark k t) h)) }

-- so do all
pub all_stay : {xs bs ys ds : List ℕ} → ((k : ℕ) → k < slots → Stays k xs bs ys ds) → Undoable xs bs → (undone_cells ys ds ≡ undone_cells xs bs) × Undoable ys ds
all_stay {xs} {bs} {ys} {ds} f u =
    let e = same-undone_cells ys ds xs bs (λ k l. (f k l).cell) in
    (e, record { saved = λ k l h. (f k l).saved h; distinct = rw e u.distinct })

-- the rows of entries that the spare does not hold are left as they were, and the keys if it does not hold them
module _ (k n : ℕ) (written : Bool) {xs bs ys ds : List ℕ} (t : Same (slots + k) xs bs ys ds) (o : Leaves n written (stretch_at k xs) (bytes_at k bs) (stretch_at k ys) (bytes_at k ds)) (low : low_of (mark_at k xs) ≤ n) (keys : written ≡ true → mark_at k xs % 2 ≡ 1) where
  module _ (small : low_of (mark_at k xs) ≤ 64) where
    held : written ≡ true → has_keys (mark_at k xs) ≡ true
    unfolding has_keys
    held e = rw (keys e)

    left_back : back_at k ys ≡ back_at k xs
    unfolding back_at
    left_back =
        rw (← same-mark k t, ← t.numbers)
        (back-stays (mark_at k xs) n written (stretch_at k xs) (bytes_at k bs) (stretch_at k ys) (bytes_at k ds) (stretch_at (slots + k) xs) (bytes_at (slots + k) bs) low small held o)

    left-bytes : back_bytes_at k ys ds ≡ back_bytes_at k xs bs
    unfolding back_bytes_at
    left-bytes =
        rw (← same-mark k t, ← t.bytes)
        (bytes_stay (mark_at k xs) n written (stretch_at k xs) (bytes_at k bs) (stretch_at k ys) (bytes_at k ds) (stretch_at (slots + k) xs) (bytes_at (slots + k) bs) low small held o)

    left-saved : Saved k xs bs → Saved k ys ds
    left-saved v =
        record {
          rows = rw (same-mark k t, t.numbers) at v.rows;
          room = rw t.numbers at v.room;
          wf = rw (left_back, left-bytes) v.wf;
        }

  pub left-stays : k < slots → Undoable xs bs → (mark_at k xs ≡ 0 → cell_at k ys ds ≡ cell_at k xs bs) → Stays k xs bs ys ds
  left-stays l u f =
      let m = same-mark k t in
      by-mark (mark_at k xs)
      (λ z. record { cell = undone-kept k ys ds (sym m ∙ z) ∙ f z ∙ sym (undone-kept k xs bs z); saved = λ h. absurd (omega arith) })
      (λ z. record { cell = undone-free k ys ds (sym m ∙ z) ∙ sym (undone-free k xs bs z); saved = λ h. absurd (omega arith) })
      (λ h.
      let v = u.saved k l h in
      let small : low_of (mark_at k xs) ≤ 64 = omega (arith, v.rows, v.room) in
      record {
        cell = undone-saved k ys ds (omega arith) ∙ rw (left_back small, left-bytes small) (sym (undone-saved k xs bs h));
        saved = λ g. left-saved small v;
      })

-- ---- a spare stretch that holds a whole one has mark 3: all rows of entries and the keys

whole_back : (p s : List ℕ) → length s ≡ 586 → back_numbers 3 p s ≡ put s 0 (1 ∷ [])
unfolding back_numbers has_keys
whole_back p s l =
    let t = put s 0 (1 ∷ []) in
    let n : length t ≡ 586 = length-put s 0 (1 ∷ []) (omega arith) ∙ l in
    let e : part 522 64 s ≡ part 522 64 t = sym (part-put-after 522 64 s 0 (1 ∷ []) (omega arith) (omega arith)) in
    rw (part_none 10 p, put-nil t 10, e) (put-part 522 64 t (omega arith))

pub undone-whole : (k : ℕ) (xs bs : List ℕ) → length (stretch_at (slots + k) xs) ≡ 586 → mark_at k xs ≡ 3 → undone_cell k xs bs ≡ cell_of (put (stretch_at (slots + k) xs) 0 (1 ∷ [])) (bytes_at (slots + k) bs)
unfolding back_at back_bytes_at back_bytes has_keys
undone-whole k xs bs l m = undone-saved k xs bs (omega arith) ∙ rw (m, whole_back (stretch_at k xs) (stretch_at (slots + k) xs) l)

pub saved-whole : (k : ℕ) (xs bs : List ℕ) → length (stretch_at (slots + k) xs) ≡ 586 → mark_at k xs ≡ 3 → (head_part (stretch_at (slots + k) xs)).len ≤ 64 → stretch.Wf (put (stretch_at (slots + k) xs) 0 (1 ∷ [])) (bytes_at (slots + k) bs) → Saved k xs bs
unfolding back_at back_bytes_at back_bytes has_keys
saved-whole k xs bs l m few w =
    record {
      rows = rw m (omega arith);
      room = few;
      wf = rw (m, whole_back (stretch_at k xs) (stretch_at (slots + k) xs) l) w;
    }
