-- The laws of rows that are stored as records: what a row's record needs, and one record more. Assumes nothing.
use Rattle.std.specs.Prelude.{List, [], ◌∷◌, ◌++◌, ◌≡◌, refl, ℕ, suc, ◌+◌, ◌-◌, ◌*◌, ◌≤◌, ◌<◌, length, take, drop, set}
use Rattle.std.proofs.Common.{sym, ap, ◌∙◌, add-one, arith}
use Rattle.cells.specs.Part.{put}
use Rattle.cells.specs.PartLaws.{part-is, part_back, length-put, put-nil, put-snoc}
use Rattle.pipe_log.specs.Rows.{entry_of, with_index, window}
use Rattle.rules.specs.Items.{EntryIndex}
use Rattle.memtable.specs.Views.{row_at}
use Rattle.memtable.specs.WindowLaws.{length-window, window-append}
use Rattle.records.specs.Filling.{Readable, Fillable}

-- ---- one row

-- what lies behind a place, lent as a part that ends where the list ends
pub all-behind : (at : ℕ) (xs : List ℕ) → take (length xs - at) (drop at xs) ≡ drop at xs
all-behind at xs = part-is at (length xs - at) xs ∙ sym (part_back at xs)

-- a row among those that are filled in can be read
pub fillable-row : {at first count : ℕ} {xs : List ℕ} {room : ℕ} (i : ℕ) → Fillable at first count xs room → i < count → Readable at first i xs
fillable-row i f l = record { inside = omega (arith, f.inside); index = omega (arith, f.index); row = f.rows i (omega arith) l }

-- ---- one record more

-- n records stored from the first place of a list
pub length-filled : (ys : List EntryIndex) (f n : ℕ) (p : List ℕ) → n ≤ length ys → length (put ys 0 (window f n p)) ≡ length ys
length-filled ys f n p l =
    let e = length-window f n p in
    length-put ys 0 (window f n p) (omega (arith, e))

pub filled_none : (ys : List EntryIndex) (f : ℕ) (p : List ℕ) → put ys 0 (window f 0 p) ≡ ys
unfolding window
filled_none ys f p = put-nil ys 0

window-one : (f : ℕ) (p : List ℕ) → window f 1 p ≡ with_index f (entry_of p) ∷ []
unfolding window
window-one f p = refl

pub window-snoc : (f n : ℕ) (p : List ℕ) → window f n p ++ (row_at f p n ∷ []) ≡ window f (suc n) p
unfolding row_at
window-snoc f n p = ap (λ es. window f n p ++ es) (sym (window-one (f + n) (drop (n * 8) p))) ∙ sym (window-append f n 1 p) ∙ ap (λ k. window f k p) (add-one n)

pub filled_more : (ys : List EntryIndex) (f n : ℕ) (p : List ℕ) → n < length ys → set (put ys 0 (window f n p)) n (row_at f p n) ≡ put ys 0 (window f (suc n) p)
filled_more ys f n p l =
    let e = length-window f n p in
    let z : 0 + length (window f n p) ≡ n = omega (arith, e) in
    rw (z, window-snoc f n p) at (put-snoc ys 0 (window f n p) (row_at f p n) (omega (arith, e)))
