-- The laws of the stretches and the cells: what is the same where stretches are the same, and what one changed stretch leaves.
-- Assumes nothing.
use Rattle.std.specs.Prelude.{true, List, [], ◌∷◌, ◌≡◌, refl, ℕ, zero, suc, ◌+◌, ◌*◌, ◌≤◌, ◌<◌, eqb, length, take, drop, get_or, set}
use Rattle.std.specs.Prelude.{None}
use Rattle.std.proofs.Common.{sym, ap, ◌∙◌, zero-add, add-zero, add-suc, suc-add, arith, length-take, get_or-set_same, eqb-true}
use Rattle.std.proofs.lemmas.Bool.{eqb-false}
use Rattle.cells.specs.Part.{put}
use Rattle.cells.specs.PartLaws.{get_or-part, part-take, set-put}
use Rattle.maps.specs.OrderLaws.{split}
use Rattle.maps.specs.Cells.{Cell, Distinct}
use Rattle.rules.specs.Table.{Table}
use Rattle.stretch.specs.Layout.{stretch_width, bytes_width}
use Rattle.stretch.specs.Stretch.{is_used}
use Rattle.stretch.specs.Stretch as stretch
use Rattle.cells.specs.declared.Slot.{Slot}
use Rattle.cells.specs.declared.Slot.TheVariants.{At, Free, Full}
use Rattle.groups.specs.Area.{slots, numbers_in_use, bytes_in_use, stretch_at, bytes_at, cell_at, cells_by, cells, groups_of, Wf, Only, Found}
use Rattle.groups.specs.PlaceLaws.{laid-length, laid-front, laid-behind, laid-other, laid_none, laid_in, laid-again}

-- ---- cells that a function of the place gives

pub length-cells_by : (f : ℕ → Cell Table) (k n : ℕ) → length (cells_by f k n) ≡ n
unfolding cells_by
length-cells_by f k zero = refl
length-cells_by f k (suc n) = ap suc (length-cells_by f (suc k) n)

pub get_or-cells_by : (f : ℕ → Cell Table) (k n i : ℕ) → i < n → get_or (cells_by f k n) i None ≡ f (k + i)
unfolding cells_by
get_or-cells_by f k zero i h = absurd (omega arith)
get_or-cells_by f k (suc n) zero h = rw (add-zero k)
get_or-cells_by f k (suc n) (suc i) h = get_or-cells_by f (suc k) n i (omega arith) ∙ rw (suc-add k i, add-suc k i)

pub same-cells_by : (f g : ℕ → Cell Table) (k n : ℕ) → ((i : ℕ) → k ≤ i → i < k + n → f i ≡ g i) → cells_by f k n ≡ cells_by g k n
unfolding cells_by
same-cells_by f g k zero h = refl
same-cells_by f g k (suc n) h = rw (h k (omega arith) (omega arith), same-cells_by f g (suc k) n (λ i a b. h i (omega arith) (omega arith)))

-- the cells differ at place i alone
pub set-cells_by : (f g : ℕ → Cell Table) (k n i : ℕ) → i < n → ((j : ℕ) → j < k + n → (j ≡ k + i → ⊥) → g j ≡ f j) → cells_by g k n ≡ set (cells_by f k n) i (g (k + i))
unfolding cells_by
set-cells_by f g k zero i l h = absurd (omega arith)
set-cells_by f g k (suc n) zero l h =
    rw (add-zero k, same-cells_by g f (suc k) n (λ j a b. h j (omega arith) (λ e. omega arith)))
set-cells_by f g k (suc n) (suc i) l h =
    rw (h k (omega arith) (λ e. omega arith), add-suc k i, ← suc-add k i)
    (ap (◌∷◌ (f k)) (set-cells_by f g (suc k) n i (omega arith) (λ j b d. h j (omega arith) (λ e. d (omega arith)))))

pub length-cells : (xs bs : List ℕ) → length (cells xs bs) ≡ slots
unfolding cells
length-cells xs bs = length-cells_by _ 0 slots

pub get_or-cells : (k : ℕ) (xs bs : List ℕ) → k < slots → get_or (cells xs bs) k None ≡ cell_at k xs bs
unfolding cells
get_or-cells k xs bs l = rw (zero-add k) at (get_or-cells_by (λ j. cell_at j xs bs) 0 slots k l)

-- ---- two areas with the same stretch j

pub record Same (j : ℕ) (xs bs ys ds : List ℕ) : Type 0 where
  pub numbers : stretch_at j xs ≡ stretch_at j ys
  pub bytes : bytes_at j bs ≡ bytes_at j ds

-- the first n stretches are the same
abbrev pub Alike : ℕ → List ℕ → List ℕ → List ℕ → List ℕ → Type 0
Alike n xs bs ys ds = (j : ℕ) → j < n → Same j xs bs ys ds

pub same_back : {j : ℕ} {xs bs ys ds : List ℕ} → Same j xs bs ys ds → Same j ys ds xs bs
same_back s = record { numbers = sym s.numbers; bytes = sym s.bytes }

pub same-cell : {j : ℕ} {xs bs ys ds : List ℕ} → Same j xs bs ys ds → cell_at j xs bs ≡ cell_at j ys ds
unfolding cell_at
same-cell s = rw (s.numbers, s.bytes)

module _ {xs bs ys ds : List ℕ} (s : Alike slots xs bs ys ds) where
  pub same-cells : cells xs bs ≡ cells ys ds
  unfolding cells
  same-cells = same-cells_by _ _ 0 slots (λ i a b. same-cell (s i (omega arith)))

  pub same-groups : groups_of xs bs ≡ groups_of ys ds
  unfolding groups_of
  same-groups = rw same-cells

  pub same_wf : Wf xs bs → numbers_in_use ≤ length ys → bytes_in_use ≤ length ds → Wf ys ds
  same_wf w p q =
      record {
        numbers_fit = p;
        bytes_fit = q;
        used = λ k l u. rw ((s k l).numbers, (s k l).bytes) at (w.used k l (rw (s k l).numbers u));
        distinct = rw same-cells at w.distinct;
      }

pub same-found : (g : ℕ) (slot : Slot) (xs ys : List ℕ) → ((j : ℕ) → j < slots → stretch_at j xs ≡ stretch_at j ys) → Found g xs slot → Found g ys slot
unfolding Found
same-found g (At k) xs ys s f =
    let e = s k f.inside in record { inside = f.inside; used = rw e at f.used; number = rw e at f.number }
same-found g (Free k) xs ys s f =
    record {
      inside = f.inside;
      free = rw (s k f.inside) at f.free;
      absent = λ j l. rw (s j l) at (f.absent j l);
    }
same-found g Full xs ys s f =
    record { full = λ j l. rw (s j l) at (f.full j l); absent = λ j l. rw (s j l) at (f.absent j l) }

-- ---- areas with the same front

pub same-stretch : (j n : ℕ) (xs ys : List ℕ) → j * stretch_width + stretch_width ≤ n → take n xs ≡ take n ys → stretch_at j xs ≡ stretch_at j ys
unfolding stretch_at
same-stretch j n xs ys h e =
    sym (part-take (j * stretch_width) stretch_width n xs h) ∙ rw e (part-take (j * stretch_width) stretch_width n ys h)

pub same_bytes : (j n : ℕ) (bs ds : List ℕ) → j * bytes_width + bytes_width ≤ n → take n bs ≡ take n ds → bytes_at j bs ≡ bytes_at j ds
unfolding bytes_at
same_bytes j n bs ds h e =
    sym (part-take (j * bytes_width) bytes_width n bs h) ∙ rw e (part-take (j * bytes_width) bytes_width n ds h)

-- a list is no shorter than the front that it has
pub front_fits : (n : ℕ) (xs ys : List ℕ) → take n xs ≡ take n ys → n ≤ length xs → n ≤ length ys
front_fits n xs ys e h = omega (arith, simp length-take at (ap length e))

-- ---- one stretch is changed

pub only_none : (k : ℕ) (xs bs : List ℕ) → k < 16 → numbers_in_use ≤ length xs → bytes_in_use ≤ length bs → Only k xs bs xs bs
unfolding stretch_at bytes_at
only_none k xs bs l p q = record { numbers = laid_none stretch_width k xs (omega arith); bytes = laid_none bytes_width k bs (omega arith) }

-- a list is laid into the numbers of stretch k, from its place i
pub only-put : (k i : ℕ) (xs bs s : List ℕ) → k < 16 → numbers_in_use ≤ length xs → bytes_in_use ≤ length bs → i + length s ≤ stretch_width → Only k xs bs (put xs (k * stretch_width + i) s) bs
unfolding stretch_at bytes_at
only-put k i xs bs s l p q h =
    record { numbers = laid_in stretch_width k i xs s h (omega arith); bytes = laid_none bytes_width k bs (omega arith) }

-- the first number of stretch k is written
pub only_set : (k v : ℕ) (xs bs : List ℕ) → k < 16 → numbers_in_use ≤ length xs → bytes_in_use ≤ length bs → Only k xs bs (set xs (k * stretch_width) v) bs
only_set k v xs bs l p q =
    rw (set-put xs (k * stretch_width) v (omega arith), ← add-zero (k * stretch_width)) (only-put k 0 xs bs (v ∷ []) l p q (omega arith))

pub only-again : (k : ℕ) (xs bs ys ds zs es : List ℕ) → k < 16 → numbers_in_use ≤ length xs → bytes_in_use ≤ length bs → Only k xs bs ys ds → Only k ys ds zs es → Only k xs bs zs es
unfolding stretch_at bytes_at
only-again k xs bs ys ds zs es l p q o r =
    record {
      numbers = laid-again stretch_width k xs ys zs (omega arith) o.numbers r.numbers;
      bytes = laid-again bytes_width k bs ds es (omega arith) o.bytes r.bytes;
    }

pub first-set : (k v : ℕ) (xs : List ℕ) → k < 16 → numbers_in_use ≤ length xs → get_or (stretch_at k (set xs (k * stretch_width) v)) 0 0 ≡ v
unfolding stretch_at
first-set k v xs l p =
    get_or-part (k * stretch_width) stretch_width (set xs (k * stretch_width) v) 0 0 (omega arith)
    ∙ rw (add-zero (k * stretch_width)) (get_or-set_same xs (k * stretch_width) v 0 (omega arith))

module _ {k : ℕ} {xs bs xs' bs' : List ℕ} (l : k < 16) (p : numbers_in_use ≤ length xs) (q : bytes_in_use ≤ length bs) (o : Only k xs bs xs' bs') where
  pub only-length : length xs' ≡ length xs
  unfolding stretch_at
  only-length = laid-length stretch_width k xs xs' (omega arith) o.numbers

  pub only-length-bytes : length bs' ≡ length bs
  unfolding bytes_at
  only-length-bytes = laid-length bytes_width k bs bs' (omega arith) o.bytes

  pub only-other : (j : ℕ) → (j ≡ k → ⊥) → Same j xs' bs' xs bs
  unfolding stretch_at bytes_at
  only-other j d =
      record {
        numbers = laid-other stretch_width k xs xs' (omega arith) o.numbers j d;
        bytes = laid-other bytes_width k bs bs' (omega arith) o.bytes j d;
      }

  pub only-cells : k < slots → cells xs' bs' ≡ set (cells xs bs) k (cell_at k xs' bs')
  unfolding cells
  only-cells b =
      rw (zero-add k) at (set-cells_by (λ j. cell_at j xs bs) (λ j. cell_at j xs' bs') 0 slots k b (λ j h d. same-cell (only-other j (λ e. d (omega arith)))))

  -- the area is as it must be between calls, if the stretch is and no two are of one group
  pub only_wf : k < slots → Wf xs bs → (is_used (stretch_at k xs') ≡ true → stretch.Wf (stretch_at k xs') (bytes_at k bs')) → Distinct (cells xs' bs') → Wf xs' bs'
  only_wf b w f d =
      let m = only-length in
      let n = only-length-bytes in
      record {
        numbers_fit = omega arith;
        bytes_fit = omega arith;
        used =
            λ j h u.
            split (eqb j k)
            (λ e. rw (eqb-true j k e) (f (rw (eqb-true j k e) at u)))
            (λ e. let s = only-other j (eqb-false j k e) in rw (s.numbers, s.bytes) (w.used j h (rw s.numbers at u)));
        distinct = d;
      }

  pub only-front : (n : ℕ) → n ≤ k * stretch_width → take n xs' ≡ take n xs
  unfolding stretch_at
  only-front n h = laid-front stretch_width k xs xs' (omega arith) o.numbers n h

  pub only-front-bytes : (n : ℕ) → n ≤ k * bytes_width → take n bs' ≡ take n bs
  unfolding bytes_at
  only-front-bytes n h = laid-front bytes_width k bs bs' (omega arith) o.bytes n h

  pub only-drop : (n : ℕ) → k * stretch_width + stretch_width ≤ n → drop n xs' ≡ drop n xs
  unfolding stretch_at
  only-drop n h = laid-behind stretch_width k xs xs' (omega arith) o.numbers n h

  pub only-drop-bytes : (n : ℕ) → k * bytes_width + bytes_width ≤ n → drop n bs' ≡ drop n bs
  unfolding bytes_at
  only-drop-bytes n h = laid-behind bytes_width k bs bs' (omega arith) o.bytes n h
