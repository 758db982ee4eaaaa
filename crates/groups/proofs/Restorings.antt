-- One stretch is taken back: its header and the rows of entries that the spare holds, and its keys if the spare holds them. Assumes nothing.
use mathlib.Core.Bool.{false≢true}
use mathlib.Core.List.{List, [], ◌∷◌}
use mathlib.Core.Path.{◌≡◌, sym, ap, ◌∙◌}
use Prim.Native.Nat.{ℕ, ◌+◌, ◌-◌, ◌*◌, ◌%◌, ◌≤◌, ◌<◌}
use native.Mathlib.Nat.{add-zero}
use native.Mathlib.Omega.{arith}
use lib.ListN.{length, get_or, set, length-set}
use lib.Seq.{get_or-set_same}
use Rattle.cells.specs.Part.{part, put}
use Rattle.cells.specs.PartLaws.{length_part, length-put, part_none, part-cons, part-part, part-front, part-set-before, part-put_same, part-put-before, part-put-after, set-put}
use Rattle.stretch.specs.Layout.{stretch_width, bytes_width}
use Rattle.stretch.specs.Stretch.{head_part, key_count}
use Rattle.groups.specs.Area.{slots, numbers_in_use, stretch_at, bytes_at, cell_at, Only}
use Rattle.groups.specs.AreaLaws.{Same, only_none, only-length, only-other}
use Rattle.groups.specs.PlaceLaws.{laid_in, laid_none, laid-again}
use Rattle.groups.specs.Laws.{free-cell, freed}
use Rattle.groups.specs.Undo.{mark_at, low_of, has_keys, back_bytes, back_at, back_bytes_at, Restorable, FrontBack, KeysBack, UndoneAt}
use Rattle.groups.specs.BackLaws.{Shows, shows_it}
use Rattle.groups.specs.UndoLaws.{undone-kept, undone-free, undone-saved}
use Rattle.groups.proofs.Savings.{stretch-length, bytes-length, stretch-part, stretch-put, stretch-set, bytes-part, bytes-put, only-both, low_small, few-keys, entries_in, keys_in_lem}

-- the first number of stretch k is written
laid-first : (k v : ℕ) (l : List ℕ) → k * stretch_width + stretch_width ≤ length l → set l (k * stretch_width) v ≡ put l (k * stretch_width) (part (k * stretch_width) stretch_width (set l (k * stretch_width) v))
laid-first k v l h =
    rw (set-put l (k * stretch_width) v (omega arith)) (rw (add-zero (k * stretch_width)) at (laid_in stretch_width k 0 l (v ∷ []) (omega arith) h))

-- ---- the header and the rows of entries of stretch k

module _ (k : ℕ) (xs : List ℕ) (l : k < slots) (p : numbers_in_use ≤ length xs) (low : low_of (mark_at k xs) ≤ (head_part (stretch_at (slots + k) xs)).len) (few : (head_part (stretch_at (slots + k) xs)).len ≤ 64) where
  abbrev spare : List ℕ
  spare = stretch_at (slots + k) xs

  abbrev from : ℕ
  from = 10 + low_of (mark_at k xs) * 8

  abbrev count : ℕ
  count = ((head_part spare).len - low_of (mark_at k xs)) * 8

  -- the header is laid in, then the rows, and the stretch is used
  abbrev headed : List ℕ
  headed = put xs (k * stretch_width + 1) (part ((slots + k) * stretch_width + 1) 9 xs)

  abbrev rowed : List ℕ
  rowed = put headed (k * stretch_width + from) (part ((slots + k) * stretch_width + from) count headed)

  abbrev fronted : List ℕ
  fronted = put (put (stretch_at k xs) 1 (part 1 9 spare)) from (part from count spare)

  length-nine : length (part ((slots + k) * stretch_width + 1) 9 xs) ≡ 9
  length-nine = length_part ((slots + k) * stretch_width + 1) 9 xs (omega arith)

  length-headed : length headed ≡ length xs
  length-headed = let n = length-nine in length-put xs (k * stretch_width + 1) (part ((slots + k) * stretch_width + 1) 9 xs) (omega arith)

  length-count : length (part ((slots + k) * stretch_width + from) count headed) ≡ count
  length-count = let n = length-headed in length_part ((slots + k) * stretch_width + from) count headed (omega arith)

  spare-stays : part ((slots + k) * stretch_width + from) count headed ≡ part from count spare
  spare-stays =
      let n = length-nine in
      part-put-after ((slots + k) * stretch_width + from) count xs (k * stretch_width + 1) (part ((slots + k) * stretch_width + 1) 9 xs) (omega arith) (omega arith)
      ∙ stretch-part (slots + k) (omega arith) from count xs (omega arith)

  length-rowed : length rowed ≡ length xs
  length-rowed =
      let n = length-headed in
      let m = length-count in
      length-put headed (k * stretch_width + from) (part ((slots + k) * stretch_width + from) count headed) (omega arith) ∙ n

  stretch-fronted : stretch_at k (set rowed (k * stretch_width) 1) ≡ set fronted 0 1
  stretch-fronted =
      let n = length-nine in
      let m = length-count in
      stretch-set k (omega arith) 1 rowed
      ∙ rw (
        stretch-put k (omega arith) from headed (part ((slots + k) * stretch_width + from) count headed) (omega arith) (omega (arith, length-headed)),
        stretch-put k (omega arith) 1 xs (part ((slots + k) * stretch_width + 1) 9 xs) (omega arith) p,
        spare-stays,
        stretch-part (slots + k) (omega arith) 1 9 xs (omega arith),
      )

  length-live : length (stretch_at k xs) ≡ 586
  length-live = stretch-length k (omega arith) xs p

  nine : length (part 1 9 spare) ≡ 9
  nine = length_part 1 9 spare (omega (arith, stretch-length (slots + k) (omega arith) xs p))

  rows : length (part from count spare) ≡ count
  rows = length_part from count spare (omega (arith, stretch-length (slots + k) (omega arith) xs p))

  length-one : length (put (stretch_at k xs) 1 (part 1 9 spare)) ≡ 586
  length-one = let n = nine in let m = length-live in length-put (stretch_at k xs) 1 (part 1 9 spare) (omega arith) ∙ m

  length-fronted : length fronted ≡ 586
  length-fronted = let n = rows in let m = length-one in length-put (put (stretch_at k xs) 1 (part 1 9 spare)) from (part from count spare) (omega arith) ∙ m

  first_one : part 0 1 (set fronted 0 1) ≡ 1 ∷ []
  first_one =
      let m = length-fronted in
      sym (part-cons 0 0 (set fronted 0 1) 0 (omega (arith, length-set fronted 0 1)))
      ∙ rw (get_or-set_same fronted 0 1 0 (omega arith), part_none 1 (set fronted 0 1))

  front-laid : set rowed (k * stretch_width) 1 ≡ put xs (k * stretch_width) (stretch_at k (set rowed (k * stretch_width) 1))
  unfolding stretch_at
  front-laid =
      let v = length-count in
      let x = length-nine in
      let y = length-headed in
      let z = length-rowed in
      laid-again stretch_width k xs rowed (set rowed (k * stretch_width) 1) (omega arith)
      (laid-again stretch_width k xs headed rowed (omega arith)
      (laid_in stretch_width k 1 xs (part ((slots + k) * stretch_width + 1) 9 xs) (omega arith) (omega arith))
      (laid_in stretch_width k from headed (part ((slots + k) * stretch_width + from) count headed) (omega arith) (omega arith)))
      (laid-first k 1 rowed (omega arith))

  front_back : FrontBack k xs (set rowed (k * stretch_width) 1)
  front_back =
      let n = nine in
      let c = rows in
      let m = length-live in
      let o = length-one in
      let e = stretch-fronted in
      record {
        laid = front-laid;
        used = rw e first_one;
        header = rw e (
            part-set-before 1 9 fronted 0 1 (omega arith)
            ∙ part-put-before 1 9 (put (stretch_at k xs) 1 (part 1 9 spare)) from (part from count spare) (omega arith) (omega arith)
            ∙ part-put_same 9 (stretch_at k xs) 1 (part 1 9 spare) n (omega arith));
        below = rw e (
            part-set-before 10 (low_of (mark_at k xs) * 8) fronted 0 1 (omega arith)
            ∙ part-put-before 10 (low_of (mark_at k xs) * 8) (put (stretch_at k xs) 1 (part 1 9 spare)) from (part from count spare) (omega arith) (omega arith)
            ∙ part-put-after 10 (low_of (mark_at k xs) * 8) (stretch_at k xs) 1 (part 1 9 spare) (omega arith) (omega arith));
        above = rw e (
            part-set-before from count fronted 0 1 (omega arith)
            ∙ part-put_same count (put (stretch_at k xs) 1 (part 1 9 spare)) from (part from count spare) c (omega arith));
        keys = rw e (
            part-set-before 522 64 fronted 0 1 (omega arith)
            ∙ part-put-after 522 64 (put (stretch_at k xs) 1 (part 1 9 spare)) from (part from count spare) (omega arith) (omega arith)
            ∙ part-put-after 522 64 (stretch_at k xs) 1 (part 1 9 spare) (omega arith) (omega arith));
      }

pub front-laid_back : (k : ℕ) (xs : List ℕ) → k < slots → numbers_in_use ≤ length xs → low_of (mark_at k xs) ≤ (head_part (stretch_at (slots + k) xs)).len → (head_part (stretch_at (slots + k) xs)).len ≤ 64
    → (low len : ℕ) (ys zs : List ℕ) → low ≡ low_of (mark_at k xs) → get_or xs ((slots + k) * stretch_width + 3) 0 ≡ len
    → ys ≡ put xs (k * stretch_width + 1) (part ((slots + k) * stretch_width + 1) 9 xs)
    → zs ≡ put ys (k * stretch_width + (10 + low * 8)) (part ((slots + k) * stretch_width + (10 + low * 8)) ((len - low) * 8) ys)
    → FrontBack k xs (set zs (k * stretch_width) 1)
front-laid_back k xs l p low few n len ys zs a b c d =
    rw (d, c, ← b, a, ← entries_in (slots + k) xs (omega arith)) (front_back k xs l p low few)

pub keys_laid_back : (k : ℕ) (xs bs : List ℕ) → k < slots → (n : ℕ) (ys ds : List ℕ) → get_or xs ((slots + k) * stretch_width + 8) 0 ≡ n
    → ys ≡ put xs (k * stretch_width + 522) (part ((slots + k) * stretch_width + 522) (n * 4) xs)
    → ds ≡ put bs (k * bytes_width) (part ((slots + k) * bytes_width) (n * 64) bs)
    → KeysBack k xs bs ys ds
keys_laid_back k xs bs l n ys ds c e i =
    let z : key_count (stretch_at (slots + k) xs) ≡ n = keys_in_lem (slots + k) xs (omega arith) ∙ c in
    record { numbers = rw z e; bytes = rw z i }

-- ---- one stretch is taken back

module _ (k : ℕ) (xs bs : List ℕ) (r : Restorable k xs bs) where
  pub undone-stays : mark_at k xs ≡ 0 → UndoneAt k xs bs xs bs
  undone-stays m = record { cell = sym (undone-kept k xs bs m); wf = r.used; only = only_none k xs bs (omega (arith, r.inside)) r.numbers_fit r.bytes_fit }

  pub undone-gone : mark_at k xs ≡ 1 → UndoneAt k xs bs (set xs (k * stretch_width) 0) bs
  undone-gone m =
      let f = freed k xs bs r.inside r.numbers_fit r.bytes_fit in
      record {
        cell = free-cell k (set xs (k * stretch_width) 0) bs f.0 ∙ sym (undone-free k xs bs m);
        wf = λ u. absurd (false≢true (sym f.0 ∙ u));
        only = f.1;
      }

  -- what shows what stretch k goes back to
  shown : (ys ds : List ℕ) → 2 ≤ mark_at k xs → Only k xs bs ys ds → length (stretch_at k ys) ≡ 586 → length (bytes_at k ds) ≡ 1024
      → Shows (mark_at k xs) (stretch_at k xs) (bytes_at k bs) (stretch_at (slots + k) xs) (bytes_at (slots + k) bs) (stretch_at k ys) (bytes_at k ds) → UndoneAt k xs bs ys ds
  unfolding cell_at back_at back_bytes_at
  shown ys ds h o x y s =
      let l = r.inside in
      let v = r.saved h in
      let e =
      shows_it (mark_at k xs) (stretch_at k xs) (bytes_at k bs) (stretch_at (slots + k) xs) (bytes_at (slots + k) bs) (stretch_at k ys) (bytes_at k ds)
      (stretch-length k (omega arith) xs r.numbers_fit)
      (stretch-length (slots + k) (omega arith) xs r.numbers_fit)
      s v.rows v.room (few-keys k xs bs r h) v.wf x y in
      record { cell = e.0 ∙ sym (undone-saved k xs bs h); wf = λ u. e.1; only = o }

  module _ (ys : List ℕ) (h : 2 ≤ mark_at k xs) (f : FrontBack k xs ys) where
    small : k < 16
    small = omega (arith, r.inside)

    only-front : Only k xs bs ys bs
    unfolding bytes_at
    only-front = let l = r.inside in let q = r.bytes_fit in only-both k xs bs ys bs f.laid (laid_none bytes_width k bs (omega arith))

    front_fits : numbers_in_use ≤ length ys
    front_fits = omega (arith, only-length small r.numbers_fit r.bytes_fit only-front, r.numbers_fit)

    pub front_ready : (numbers_in_use ≤ length ys) × (key_count (stretch_at (slots + k) ys) ≤ 16)
    front_ready =
        let s = only-other small r.numbers_fit r.bytes_fit only-front (slots + k) (λ e. omega arith) in
        (front_fits, rw s.numbers (few-keys k xs bs r h))

    front-keys : (n : ℕ) → n ≤ 64 → part 522 n (stretch_at k ys) ≡ part 522 n (stretch_at k xs)
    front-keys n g =
        sym (part-part 0 n 522 64 (stretch_at k ys) (omega arith)) ∙ ap (part 0 n) f.keys ∙ part-part 0 n 522 64 (stretch_at k xs) (omega arith)

    -- the keys were not saved
    pub undone-front : mark_at k xs % 2 ≡ 0 → UndoneAt k xs bs ys bs
    unfolding back_bytes has_keys
    undone-front e =
        let few = few-keys k xs bs r h in
        shown ys bs h only-front (stretch-length k small ys front_fits) (bytes-length k small bs r.bytes_fit)
        (record {
          used = f.used;
          header = f.header;
          below = f.below;
          above = f.above;
          keys = rw e (front-keys (key_count (stretch_at (slots + k) xs) * 4) (omega arith));
          bytes = rw e;
        })

    -- and the keys were saved
    module _ (vs ds : List ℕ) (t : KeysBack k ys bs vs ds) where
      abbrev spare_of : List ℕ
      spare_of = stretch_at (slots + k) xs

      abbrev count_of : ℕ
      count_of = key_count (stretch_at (slots + k) xs)

      spare_same : Same (slots + k) ys bs xs bs
      spare_same = only-other small r.numbers_fit r.bytes_fit only-front (slots + k) (λ e. omega arith)

      few : count_of ≤ 16
      few = few-keys k xs bs r h

      abbrev keys_laid : List ℕ
      keys_laid = part ((slots + k) * stretch_width + 522) (count_of * 4) ys

      abbrev bytes_laid : List ℕ
      bytes_laid = part ((slots + k) * bytes_width) (count_of * 64) bs

      vs-is : vs ≡ put ys (k * stretch_width + 522) keys_laid
      vs-is = rw spare_same.numbers at t.numbers

      ds-is : ds ≡ put bs (k * bytes_width) bytes_laid
      ds-is = rw spare_same.numbers at t.bytes

      keys-long : length keys_laid ≡ count_of * 4
      keys-long = let a = few in let b = front_fits in let l = r.inside in length_part ((slots + k) * stretch_width + 522) (count_of * 4) ys (omega arith)

      bytes-long : length bytes_laid ≡ count_of * 64
      bytes-long = let a = few in let b = r.bytes_fit in let l = r.inside in length_part ((slots + k) * bytes_width) (count_of * 64) bs (omega arith)

      keys_from : keys_laid ≡ part 522 (count_of * 4) spare_of
      keys_from = let a = few in stretch-part (slots + k) (omega (arith, r.inside)) 522 (count_of * 4) ys (omega arith) ∙ rw spare_same.numbers

      stretch-is : stretch_at k vs ≡ put (stretch_at k ys) 522 (part 522 (count_of * 4) spare_of)
      stretch-is =
          let a = few in
          let b = keys-long in
          rw vs-is (stretch-put k small 522 ys keys_laid (omega arith) front_fits ∙ rw keys_from)

      bytes-are : bytes_at k ds ≡ put (bytes_at k bs) 0 (part 0 (count_of * 64) (bytes_at (slots + k) bs))
      bytes-are =
          let a = few in
          let b = bytes-long in
          rw ds-is
          (bytes-put k small bs bytes_laid (omega arith) r.bytes_fit
          ∙ rw (bytes-part (slots + k) (omega (arith, r.inside)) (count_of * 64) bs (omega arith)))

      only_all : Only k xs bs vs ds
      unfolding stretch_at
      only_all =
          let a = few in
          let b = keys-long in
          let c = bytes-long in
          let l = r.inside in
          let p = r.numbers_fit in
          let q = r.bytes_fit in
          let z = front_fits in
          only-both k xs bs vs ds
          (laid-again stretch_width k xs ys vs (omega arith) f.laid (rw vs-is (laid_in stretch_width k 522 ys keys_laid (omega arith) (omega arith))))
          (rw ds-is (rw (add-zero (k * bytes_width)) at (laid_in bytes_width k 0 bs bytes_laid (omega arith) (omega arith))))

      -- before the keys all is as it was
      front_of : (a n : ℕ) → a + n ≤ 522 → part a n (stretch_at k vs) ≡ part a n (stretch_at k ys)
      front_of a n g =
          rw stretch-is (part-put-before a n (stretch_at k ys) 522 (part 522 (count_of * 4) spare_of) g (omega (arith, stretch-length k small ys front_fits)))

      pub undone_all : mark_at k xs % 2 ≡ 1 → UndoneAt k xs bs vs ds
      unfolding back_bytes has_keys
      undone_all e =
          let v = r.saved h in
          let a = few in
          let b = stretch-length k small ys front_fits in
          let c = stretch-length (slots + k) (omega (arith, r.inside)) xs r.numbers_fit in
          let d = bytes-length k small bs r.bytes_fit in
          let g = bytes-length (slots + k) (omega (arith, r.inside)) bs r.bytes_fit in
          let i : length (part 522 (count_of * 4) spare_of) ≡ count_of * 4 = length_part 522 (count_of * 4) spare_of (omega arith) in
          let j : length (part 0 (count_of * 64) (bytes_at (slots + k) bs)) ≡ count_of * 64 = length_part 0 (count_of * 64) (bytes_at (slots + k) bs) (omega arith) in
          shown vs ds h only_all
          (rw stretch-is (length-put (stretch_at k ys) 522 (part 522 (count_of * 4) spare_of) (omega arith) ∙ b))
          (rw bytes-are (length-put (bytes_at k bs) 0 (part 0 (count_of * 64) (bytes_at (slots + k) bs)) (omega arith) ∙ d))
          (record {
            used = front_of 0 1 (omega arith) ∙ f.used;
            header = front_of 1 9 (omega arith) ∙ f.header;
            below = front_of 10 (low_of (mark_at k xs) * 8) (omega (arith, low_small k xs bs r h)) ∙ f.below;
            above = front_of (10 + low_of (mark_at k xs) * 8) (((head_part spare_of).len - low_of (mark_at k xs)) * 8) (omega (arith, v.rows, v.room)) ∙ f.above;
            keys = rw (e, stretch-is) (part-put_same (count_of * 4) (stretch_at k ys) 522 (part 522 (count_of * 4) spare_of) i (omega arith));
            bytes =
                rw (e, bytes-are)
                (part-front (count_of * 64) (put (bytes_at k bs) 0 (part 0 (count_of * 64) (bytes_at (slots + k) bs)))
                ∙ part-put_same (count_of * 64) (bytes_at k bs) 0 (part 0 (count_of * 64) (bytes_at (slots + k) bs)) j (omega arith)
                ∙ sym (part-front (count_of * 64) (bytes_at (slots + k) bs)));
          })
