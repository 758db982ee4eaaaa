-- What is copied into a spare stretch leaves what the stretch goes back to: the header, rows of entries, keys. Assumes nothing.
use mathlib.Core.Bool.{Bool, true, false, cond}
use mathlib.Core.List.{List, [], ◌∷◌}
use mathlib.Core.Path.{◌≡◌, refl, sym, ap, ◌∙◌}
use Prim.Native.Nat.{ℕ, ◌+◌, ◌-◌, ◌*◌, ◌%◌, ◌≤◌, ◌<◌}
use native.Mathlib.Nat.{add-zero}
use native.Mathlib.Omega.{arith}
use lib.ListN.{length, get_or, take, set, length-set}
use lib.Seq.{get_or-set_same}
use borrow.Author.Tests.{eqb-true}
use Rattle.cells.specs.Part.{part, put}
use Rattle.cells.specs.PartLaws.{length_part, length-put, get_or-part, part_none, part-cons, part_cut, part-front, part-part, part-set-in, part-set-before, part-put_same, part-put-before, part-put-after, part-put-around}
use Rattle.stretch.specs.Layout.{stretch_width, bytes_width}
use Rattle.stretch.specs.Stretch.{is_used, head_part, key_count, entry_rows, key_rows, cell_of}
use Rattle.stretch.specs.Stretch as stretch
use Rattle.groups.specs.Area.{slots, numbers_in_use, bytes_in_use, stretch_at, bytes_at, cell_at, Only}
use Rattle.groups.specs.AreaLaws.{Same, only_none, only-put, only_set, only-again, only-other}
use Rattle.groups.specs.PlaceLaws.{part-short, laid_in}
use Rattle.groups.specs.Undo.{mark_at, low_of, has_keys, back_numbers, back_bytes, back_at, back_bytes_at, undone_cell, Restorable, Kept, Marking, Lowering, KeySaving}
use Rattle.groups.specs.BackLaws.{Shows, length_back, back-used, back-header, back_below, back_above, back-keys, header-head, header-count, shows_it, shown_by, back-room}
use Rattle.groups.specs.UndoLaws.{undone-kept, undone-saved}

-- ---- the parts of stretch k

module _ (k : ℕ) (l : k < 16) where
  pub stretch-length : (xs : List ℕ) → numbers_in_use ≤ length xs → length (stretch_at k xs) ≡ 586
  unfolding stretch_at
  stretch-length xs p = length_part (k * stretch_width) stretch_width xs (omega arith)

  pub bytes-length : (bs : List ℕ) → bytes_in_use ≤ length bs → length (bytes_at k bs) ≡ 1024
  unfolding bytes_at
  bytes-length bs q = length_part (k * bytes_width) bytes_width bs (omega arith)

  pub stretch-part : (i n : ℕ) (xs : List ℕ) → i + n ≤ 586 → part (k * stretch_width + i) n xs ≡ part i n (stretch_at k xs)
  unfolding stretch_at
  stretch-part i n xs h = sym (part-part i n (k * stretch_width) stretch_width xs h)

  pub stretch_at_lem : (i : ℕ) (xs : List ℕ) → i < 586 → get_or xs (k * stretch_width + i) 0 ≡ get_or (stretch_at k xs) i 0
  unfolding stretch_at
  stretch_at_lem i xs h = sym (get_or-part (k * stretch_width) stretch_width xs i 0 h)

  pub stretch-put : (i : ℕ) (xs s : List ℕ) → i + length s ≤ 586 → numbers_in_use ≤ length xs → stretch_at k (put xs (k * stretch_width + i) s) ≡ put (stretch_at k xs) i s
  unfolding stretch_at
  stretch-put i xs s h p = part-put-around (k * stretch_width) stretch_width xs i s h (omega arith)

  pub stretch-set : (v : ℕ) (xs : List ℕ) → stretch_at k (set xs (k * stretch_width) v) ≡ set (stretch_at k xs) 0 v
  unfolding stretch_at
  stretch-set v xs = rw (add-zero (k * stretch_width)) at (part-set-in (k * stretch_width) stretch_width xs 0 v (omega arith))

  pub bytes-part : (n : ℕ) (bs : List ℕ) → n ≤ 1024 → part (k * bytes_width) n bs ≡ part 0 n (bytes_at k bs)
  unfolding bytes_at
  bytes-part n bs h = sym (part-part 0 n (k * bytes_width) bytes_width bs (omega arith) ∙ rw (add-zero (k * bytes_width)))

  pub bytes-put : (bs s : List ℕ) → length s ≤ 1024 → bytes_in_use ≤ length bs → bytes_at k (put bs (k * bytes_width) s) ≡ put (bytes_at k bs) 0 s
  unfolding bytes_at
  bytes-put bs s h q = rw (add-zero (k * bytes_width)) at (part-put-around (k * bytes_width) bytes_width bs 0 s (omega arith) (omega arith))

-- the header's numbers of entries and of keys
pub entries_in : (k : ℕ) (xs : List ℕ) → k < 16 → (head_part (stretch_at k xs)).len ≡ get_or xs (k * stretch_width + 3) 0
unfolding head_part
entries_in k xs l = sym (stretch_at_lem k l 3 xs (omega arith))

pub keys_in_lem : (k : ℕ) (xs : List ℕ) → k < 16 → key_count (stretch_at k xs) ≡ get_or xs (k * stretch_width + 8) 0
unfolding key_count
keys_in_lem k xs l = sym (stretch_at_lem k l 8 xs (omega arith))

-- a used stretch has room for its entries
pub entries-few : (p b : List ℕ) → stretch.Wf p b → (head_part p).len ≤ 64
unfolding entry_rows
entries-few p b w =
    let a = part-short 10 512 p in
    omega (arith, w.numbers.entries.room)

-- ---- the spare of stretch k is written

mark_set : (k v : ℕ) (xs : List ℕ) → k < slots → numbers_in_use ≤ length xs → mark_at k (set xs ((slots + k) * stretch_width) v) ≡ v
unfolding mark_at
mark_set k v xs l p = get_or-set_same xs ((slots + k) * stretch_width) v 0 (omega arith)

module _ (k : ℕ) (xs bs xs' bs' : List ℕ) (r : Restorable k xs bs) (o : Only (slots + k) xs bs xs' bs') where
  live_same : Same k xs' bs' xs bs
  live_same = only-other (omega (arith, r.inside)) r.numbers_fit r.bytes_fit o k (λ e. omega arith)

  -- with mark m, numbers s and bytes d
  module _ (m : ℕ) (s d : List ℕ) (x : mark_at k xs' ≡ m) (y : stretch_at (slots + k) xs' ≡ s) (z : bytes_at (slots + k) bs' ≡ d) where
    back_is : back_at k xs' ≡ back_numbers m (stretch_at k xs) s
    unfolding back_at
    back_is = rw (x, y, live_same.numbers)

    back-bytes-are : back_bytes_at k xs' bs' ≡ back_bytes m (bytes_at k bs) d
    unfolding back_bytes_at
    back-bytes-are = rw (x, z, live_same.bytes)

    kept_by_lem : 2 ≤ m → low_of m ≤ (head_part s).len → (head_part s).len ≤ 64
        → (cell_of (back_numbers m (stretch_at k xs) s) (back_bytes m (bytes_at k bs) d) ≡ undone_cell k xs bs) × stretch.Wf (back_numbers m (stretch_at k xs) s) (back_bytes m (bytes_at k bs) d)
        → Kept k xs bs xs' bs'
    kept_by_lem h a b c =
        record {
          only = o;
          cell = undone-saved k xs' bs' (omega arith) ∙ rw (back_is, back-bytes-are) c.0;
          saved = λ g. record { rows = rw (x, y) a; room = rw y b; wf = rw (back_is, back-bytes-are) c.1 };
        }

-- ---- the header

module _ (p b s d : List ℕ) (l : length p ≡ 586) (n : length s ≡ 586) (u : is_used p ≡ true) (w : stretch.Wf p b) (y : length b ≡ 1024) where
  abbrev headed : List ℕ
  headed = set (put s 1 (part 1 9 p)) 0 (2 + 2 * (head_part p).len)

  nine : length (part 1 9 p) ≡ 9
  nine = length_part 1 9 p (omega arith)

  length-headed : length headed ≡ 586
  length-headed =
      let a = nine in
      length-set (put s 1 (part 1 9 p)) 0 (2 + 2 * (head_part p).len) ∙ length-put s 1 (part 1 9 p) (omega arith) ∙ n

  header-headed : part 1 9 headed ≡ part 1 9 p
  header-headed =
      part-set-before 1 9 (put s 1 (part 1 9 p)) 0 (2 + 2 * (head_part p).len) (omega arith)
      ∙ part-put_same 9 s 1 (part 1 9 p) nine (omega arith)

  first-used : part 0 1 p ≡ 1 ∷ []
  unfolding is_used
  first-used = sym (part-cons 0 0 p 0 (omega arith)) ∙ rw (eqb-true (get_or p 0 0) 1 u, part_none 1 p)

  no_keys : has_keys (2 + 2 * (head_part p).len) ≡ false
  unfolding has_keys
  no_keys = let z : (2 + 2 * (head_part p).len) % 2 ≡ 0 = omega arith in rw z

  len-headed : (head_part headed).len ≡ (head_part p).len
  len-headed = ap (λ h. h.len) (header-head p headed header-headed)

  headed-shows : Shows (2 + 2 * (head_part p).len) p b headed d p b
  unfolding back_bytes
  headed-shows =
      let z : ((head_part headed).len - low_of (2 + 2 * (head_part p).len)) * 8 ≡ 0 = omega (arith, len-headed) in
      record {
        used = first-used;
        header = sym header-headed;
        below = refl;
        above = rw (z, part_none (10 + low_of (2 + 2 * (head_part p).len) * 8) p, part_none (10 + low_of (2 + 2 * (head_part p).len) * 8) headed);
        keys = rw no_keys;
        bytes = rw no_keys;
      }

  pub headed_back : (cell_of (back_numbers (2 + 2 * (head_part p).len) p headed) (back_bytes (2 + 2 * (head_part p).len) b d) ≡ cell_of p b)
      × stretch.Wf (back_numbers (2 + 2 * (head_part p).len) p headed) (back_bytes (2 + 2 * (head_part p).len) b d)
  unfolding key_rows back_bytes
  headed_back =
      let few = entries-few p b w in
      let c : key_count headed ≡ key_count p = header-count p headed header-headed in
      let t = part-short 522 64 p in
      shown_by (2 + 2 * (head_part p).len) p b headed d p b l length-headed headed-shows (omega (arith, len-headed)) (omega (arith, len-headed)) (omega (arith, c, w.keys.rows_fit)) w (rw no_keys y)

pub header-saved : (k : ℕ) (xs bs zs : List ℕ) → Restorable k xs bs → is_used (stretch_at k xs) ≡ true → mark_at k xs ≡ 0
    → zs ≡ put xs ((slots + k) * stretch_width + 1) (part (k * stretch_width + 1) 9 xs)
    → Marking k xs bs (set zs ((slots + k) * stretch_width) (2 + 2 * get_or xs (k * stretch_width + 3) 0)) bs
unfolding cell_at
header-saved k xs bs zs r u z e =
    let l = r.inside in
    let p = r.numbers_fit in
    let q = r.bytes_fit in
    let n : length (part (k * stretch_width + 1) 9 xs) ≡ 9 = length_part (k * stretch_width + 1) 9 xs (omega arith) in
    let ys = put xs ((slots + k) * stretch_width + 1) (part (k * stretch_width + 1) 9 xs) in
    let all : length ys ≡ length xs = length-put xs ((slots + k) * stretch_width + 1) (part (k * stretch_width + 1) 9 xs) (omega arith) in
    let v = 2 + 2 * (head_part (stretch_at k xs)).len in
    let o : Only (slots + k) xs bs (set ys ((slots + k) * stretch_width) v) bs =
    only-again (slots + k) xs bs ys bs (set ys ((slots + k) * stretch_width) v) bs (omega arith) p q
    (only-put (slots + k) 1 xs bs (part (k * stretch_width + 1) 9 xs) (omega arith) p q (omega arith))
    (only_set (slots + k) v ys bs (omega arith) (omega arith) q) in
    let x : mark_at k (set ys ((slots + k) * stretch_width) v) ≡ v = mark_set k v ys l (omega arith) in
    let s = stretch_at (slots + k) xs in
    let y : stretch_at (slots + k) (set ys ((slots + k) * stretch_width) v) ≡ set (put s 1 (part 1 9 (stretch_at k xs))) 0 v =
    stretch-set (slots + k) (omega arith) v ys
    ∙ rw (stretch-put (slots + k) (omega arith) 1 xs (part (k * stretch_width + 1) 9 xs) (omega arith) p, stretch-part k (omega arith) 1 9 xs (omega arith)) in
    let a = stretch-length k (omega arith) xs p in
    let b = stretch-length (slots + k) (omega arith) xs p in
    let w = r.used u in
    let c = bytes-length k (omega arith) bs q in
    let g = headed_back (stretch_at k xs) (bytes_at k bs) s (bytes_at (slots + k) bs) a b u w c in
    let len = len-headed (stretch_at k xs) (bytes_at k bs) s (bytes_at (slots + k) bs) a b u w c in
    let few = entries-few (stretch_at k xs) (bytes_at k bs) w in
    rw (e, ← entries_in k xs (omega arith))
    (record {
      kept =
          kept_by_lem k xs bs (set ys ((slots + k) * stretch_width) v) bs r o v (set (put s 1 (part 1 9 (stretch_at k xs))) 0 v) (bytes_at (slots + k) bs) x y refl
          (omega arith) (omega (arith, len)) (omega (arith, len))
          (g.0 ∙ sym (undone-kept k xs bs z), g.1);
      marked = rw x (omega arith);
    })

-- ---- rows of entries

-- rows n to low of p are laid into the spare s, whose mark says so then
module _ (m n : ℕ) (p b s d : List ℕ) (l : length p ≡ 586) (x : length s ≡ 586) (g : 2 ≤ m) (h : n < low_of m) (small : low_of m ≤ 64) where
  abbrev lower_mark : ℕ
  lower_mark = 2 + 2 * n + m % 2

  abbrev lowered : List ℕ
  lowered = set (put s (10 + n * 8) (part (10 + n * 8) ((low_of m - n) * 8) p)) 0 lower_mark

  low-is : low_of lower_mark ≡ n
  low-is = omega arith

  some-rows : length (part (10 + n * 8) ((low_of m - n) * 8) p) ≡ (low_of m - n) * 8
  some-rows = length_part (10 + n * 8) ((low_of m - n) * 8) p (omega arith)

  length-lowered : length lowered ≡ 586
  length-lowered =
      let a = some-rows in
      length-set (put s (10 + n * 8) (part (10 + n * 8) ((low_of m - n) * 8) p)) 0 lower_mark
      ∙ length-put s (10 + n * 8) (part (10 + n * 8) ((low_of m - n) * 8) p) (omega arith)
      ∙ x

  -- the header, the rows that are laid in and what follows them
  header-lowered : part 1 9 lowered ≡ part 1 9 s
  header-lowered =
      part-set-before 1 9 (put s (10 + n * 8) (part (10 + n * 8) ((low_of m - n) * 8) p)) 0 lower_mark (omega arith)
      ∙ part-put-before 1 9 s (10 + n * 8) (part (10 + n * 8) ((low_of m - n) * 8) p) (omega arith) (omega arith)

  rows-lowered : part (10 + n * 8) ((low_of m - n) * 8) lowered ≡ part (10 + n * 8) ((low_of m - n) * 8) p
  rows-lowered =
      part-set-before (10 + n * 8) ((low_of m - n) * 8) (put s (10 + n * 8) (part (10 + n * 8) ((low_of m - n) * 8) p)) 0 lower_mark (omega arith)
      ∙ part-put_same ((low_of m - n) * 8) s (10 + n * 8) (part (10 + n * 8) ((low_of m - n) * 8) p) some-rows (omega arith)

  rest-lowered : (a k : ℕ) → 10 + low_of m * 8 ≤ a → part a k lowered ≡ part a k s
  rest-lowered a k f =
      let c = some-rows in
      part-set-before a k (put s (10 + n * 8) (part (10 + n * 8) ((low_of m - n) * 8) p)) 0 lower_mark (omega arith)
      ∙ part-put-after a k s (10 + n * 8) (part (10 + n * 8) ((low_of m - n) * 8) p) (omega arith) (omega arith)

  parity : has_keys lower_mark ≡ has_keys m
  unfolding has_keys
  parity = let z : lower_mark % 2 ≡ m % 2 = omega arith in rw z

  abbrev lower_back : List ℕ
  lower_back = back_numbers lower_mark p lowered

  below-lowered : part 10 (low_of m * 8) lower_back ≡ part 10 (low_of m * 8) p
  below-lowered =
      let a = length-lowered in
      let c : low_of lower_mark ≤ 64 = omega arith in
      let k : low_of m * 8 - n * 8 ≡ (low_of m - n) * 8 = omega arith in
      let f : part 10 (n * 8) lower_back ≡ part 10 (n * 8) p = rw low-is at (back_below lower_mark p lowered l a c) in
      let e : part (10 + n * 8) ((low_of m - n) * 8) lower_back ≡ part (10 + n * 8) ((low_of m - n) * 8) p =
      back_above lower_mark p lowered l a c (10 + n * 8) ((low_of m - n) * 8) (omega arith) (omega arith) ∙ rows-lowered in
      part_cut (n * 8) 10 (low_of m * 8) lower_back (omega arith)
      ∙ rw (k, f, e)
      (sym (rw k at (part_cut (n * 8) 10 (low_of m * 8) p (omega arith))))

  keys-lowered : (k : Bool) (j : ℕ) → part 522 j (cond k lowered p) ≡ part 522 j (cond k s p)
  keys-lowered true j = rest-lowered 522 j (omega arith)
  keys-lowered false j = refl

  lowered-shows : (head_part s).len ≤ 64 → low_of m ≤ (head_part s).len → key_count s ≤ 16 → Shows m p b s d lower_back (back_bytes lower_mark b d)
  unfolding back_bytes
  lowered-shows few low count =
      let a = length-lowered in
      let c : low_of lower_mark ≤ 64 = omega arith in
      record {
        used = back-used lower_mark p lowered l a c;
        header = back-header lower_mark p lowered l a c ∙ header-lowered;
        below = below-lowered;
        above =
            back_above lower_mark p lowered l a c (10 + low_of m * 8) (((head_part s).len - low_of m) * 8) (omega arith) (omega arith)
            ∙ rest-lowered (10 + low_of m * 8) (((head_part s).len - low_of m) * 8) (omega arith);
        keys = back-keys lower_mark p lowered l a c (key_count s * 4) (omega arith) ∙ rw parity (keys-lowered (has_keys m) (key_count s * 4));
        bytes = rw parity;
      }

  pub lowered_back : (head_part s).len ≤ 64 → low_of m ≤ (head_part s).len → length (back_bytes m b d) ≡ 1024 → stretch.Wf (back_numbers m p s) (back_bytes m b d)
      → (cell_of lower_back (back_bytes lower_mark b d) ≡ cell_of (back_numbers m p s) (back_bytes m b d)) × stretch.Wf lower_back (back_bytes lower_mark b d)
  unfolding back_bytes
  lowered_back few low y w =
      let count = (back-room m p b s d l x small w).1 in
      shows_it m p b s d lower_back (back_bytes lower_mark b d) l x (lowered-shows few low count) low few count w
      (length_back lower_mark p lowered l length-lowered (omega arith))
      (rw parity y)

-- ---- keys

-- the keys of p in use and their bytes are laid into the spare, whose mark says so then
module _ (m : ℕ) (p b s d : List ℕ) (l : length p ≡ 586) (x : length s ≡ 586) (y : length b ≡ 1024) (z : length d ≡ 1024) (even : m % 2 ≡ 0) (g : 2 ≤ m) (small : low_of m ≤ 64) (count : key_count s ≤ 16) where
  abbrev keyed : List ℕ
  keyed = set (put s 522 (part 522 (key_count s * 4) p)) 0 (m + 1)

  abbrev keyed_bytes : List ℕ
  keyed_bytes = put d 0 (part 0 (key_count s * 64) b)

  some-keys : length (part 522 (key_count s * 4) p) ≡ key_count s * 4
  some-keys = length_part 522 (key_count s * 4) p (omega arith)

  some_bytes : length (part 0 (key_count s * 64) b) ≡ key_count s * 64
  some_bytes = length_part 0 (key_count s * 64) b (omega arith)

  length-keyed : length keyed ≡ 586
  length-keyed =
      let a = some-keys in
      length-set (put s 522 (part 522 (key_count s * 4) p)) 0 (m + 1) ∙ length-put s 522 (part 522 (key_count s * 4) p) (omega arith) ∙ x

  length-keyed-bytes : length keyed_bytes ≡ 1024
  length-keyed-bytes = let a = some_bytes in length-put d 0 (part 0 (key_count s * 64) b) (omega arith) ∙ z

  front-keyed : (a k : ℕ) → 0 < a → a + k ≤ 522 → part a k keyed ≡ part a k s
  front-keyed a k f h =
      part-set-before a k (put s 522 (part 522 (key_count s * 4) p)) 0 (m + 1) f
      ∙ part-put-before a k s 522 (part 522 (key_count s * 4) p) h (omega arith)

  keys-keyed : part 522 (key_count s * 4) keyed ≡ part 522 (key_count s * 4) p
  keys-keyed =
      part-set-before 522 (key_count s * 4) (put s 522 (part 522 (key_count s * 4) p)) 0 (m + 1) (omega arith)
      ∙ part-put_same (key_count s * 4) s 522 (part 522 (key_count s * 4) p) some-keys (omega arith)

  bytes-keyed : take (key_count s * 64) keyed_bytes ≡ take (key_count s * 64) b
  bytes-keyed =
      part-front (key_count s * 64) keyed_bytes
      ∙ part-put_same (key_count s * 64) d 0 (part 0 (key_count s * 64) b) some_bytes (omega arith)
      ∙ sym (part-front (key_count s * 64) b)

  had-none : has_keys m ≡ false
  unfolding has_keys
  had-none = rw even

  has_all : has_keys (m + 1) ≡ true
  unfolding has_keys
  has_all = let e : (m + 1) % 2 ≡ 1 = omega arith in rw e

  same_low : low_of (m + 1) ≡ low_of m
  same_low = omega arith

  keyed-shows : (head_part s).len ≤ 64 → low_of m ≤ (head_part s).len → Shows m p b s d (back_numbers (m + 1) p keyed) keyed_bytes
  unfolding back_bytes
  keyed-shows few low =
      let a = length-keyed in
      let c : low_of (m + 1) ≤ 64 = omega arith in
      record {
        used = back-used (m + 1) p keyed l a c;
        header = back-header (m + 1) p keyed l a c ∙ front-keyed 1 9 (omega arith) (omega arith);
        below = rw same_low at (back_below (m + 1) p keyed l a c);
        above =
            back_above (m + 1) p keyed l a c (10 + low_of m * 8) (((head_part s).len - low_of m) * 8) (omega arith) (omega arith)
            ∙ front-keyed (10 + low_of m * 8) (((head_part s).len - low_of m) * 8) (omega arith) (omega arith);
        keys = rw had-none (rw has_all at (back-keys (m + 1) p keyed l a c (key_count s * 4) (omega arith)) ∙ keys-keyed);
        bytes = rw had-none bytes-keyed;
      }

  pub keyed_back : (head_part s).len ≤ 64 → low_of m ≤ (head_part s).len → stretch.Wf (back_numbers m p s) (back_bytes m b d)
      → (cell_of (back_numbers (m + 1) p keyed) (back_bytes (m + 1) b keyed_bytes) ≡ cell_of (back_numbers m p s) (back_bytes m b d)) × stretch.Wf (back_numbers (m + 1) p keyed) (back_bytes (m + 1) b keyed_bytes)
  unfolding back_bytes
  keyed_back few low w =
      rw has_all
      (shows_it m p b s d (back_numbers (m + 1) p keyed) keyed_bytes l x (keyed-shows few low) low few count w
      (length_back (m + 1) p keyed l length-keyed (omega arith))
      length-keyed-bytes)

pub only-both : (k : ℕ) (xs bs zs ds : List ℕ) → zs ≡ put xs (k * stretch_width) (stretch_at k zs) → ds ≡ put bs (k * bytes_width) (part (k * bytes_width) bytes_width ds) → Only k xs bs zs ds
unfolding bytes_at
only-both k xs bs zs ds a b = record { numbers = a; bytes = b }

-- ---- the spare of stretch k holds more

-- nothing is written
pub kept-none : (k : ℕ) (xs bs : List ℕ) → Restorable k xs bs → Kept k xs bs xs bs
kept-none k xs bs r =
    record { only = only_none (slots + k) xs bs (omega (arith, r.inside)) r.numbers_fit r.bytes_fit; cell = refl; saved = r.saved }

pub lowered_none : (k n : ℕ) (xs bs : List ℕ) → Restorable k xs bs → low_of (mark_at k xs) ≤ n → Lowering k n xs bs xs bs
lowered_none k n xs bs r h = record { kept = kept-none k xs bs r; marked = λ m. m; rows = h; keys = refl }

module _ (k : ℕ) (xs bs : List ℕ) (r : Restorable k xs bs) where
  abbrev live : List ℕ
  live = stretch_at k xs

  abbrev spare : List ℕ
  spare = stretch_at (slots + k) xs

  length-live : length live ≡ 586
  length-live = stretch-length k (omega (arith, r.inside)) xs r.numbers_fit

  length-spare : length spare ≡ 586
  length-spare = stretch-length (slots + k) (omega (arith, r.inside)) xs r.numbers_fit

  length-live-bytes : length (bytes_at k bs) ≡ 1024
  length-live-bytes = bytes-length k (omega (arith, r.inside)) bs r.bytes_fit

  length-spare-bytes : length (bytes_at (slots + k) bs) ≡ 1024
  length-spare-bytes = bytes-length (slots + k) (omega (arith, r.inside)) bs r.bytes_fit

  either-bytes : (h : Bool) → length (cond h (bytes_at (slots + k) bs) (bytes_at k bs)) ≡ 1024
  either-bytes true = length-spare-bytes
  either-bytes false = length-live-bytes

  -- what it goes back to, by its parts
  was : 2 ≤ mark_at k xs → undone_cell k xs bs ≡ cell_of (back_numbers (mark_at k xs) live spare) (back_bytes (mark_at k xs) (bytes_at k bs) (bytes_at (slots + k) bs))
  unfolding back_at back_bytes_at
  was h = undone-saved k xs bs h

  was_wf : 2 ≤ mark_at k xs → stretch.Wf (back_numbers (mark_at k xs) live spare) (back_bytes (mark_at k xs) (bytes_at k bs) (bytes_at (slots + k) bs))
  unfolding back_at back_bytes_at
  was_wf h = (r.saved h).wf

  pub low_small : 2 ≤ mark_at k xs → low_of (mark_at k xs) ≤ 64
  low_small h = let v = r.saved h in omega arith

  pub few-keys : 2 ≤ mark_at k xs → key_count spare ≤ 16
  few-keys h = (back-room (mark_at k xs) live (bytes_at k bs) spare (bytes_at (slots + k) bs) length-live length-spare (low_small h) (was_wf h)).1

  -- no more keys are copied than a stretch has
  pub few-copied : 1 ≤ get_or xs ((slots + k) * stretch_width) 0 → (get_or xs ((slots + k) * stretch_width) 0 % 2 ≡ 1 → ⊥) → get_or xs ((slots + k) * stretch_width + 8) 0 ≤ 16
  unfolding mark_at
  few-copied a b = let h = few-keys (omega arith) in omega (arith, h, keys_in_lem (slots + k) xs (omega (arith, r.inside)))

  pub rows-saved : (n : ℕ) (ws : List ℕ) → 2 ≤ mark_at k xs → n < low_of (mark_at k xs)
      → ws ≡ put xs ((slots + k) * stretch_width + (10 + n * 8)) (part (k * stretch_width + (10 + n * 8)) ((low_of (mark_at k xs) - n) * 8) xs)
      → Lowering k n xs bs (set ws ((slots + k) * stretch_width) (2 + 2 * n + mark_at k xs % 2)) bs
  unfolding back_bytes
  rows-saved n ws h g e =
      let l = r.inside in
      let p = r.numbers_fit in
      let q = r.bytes_fit in
      let m = mark_at k xs in
      let small = low_small h in
      let v = 2 + 2 * n + m % 2 in
      let t = part (k * stretch_width + (10 + n * 8)) ((low_of m - n) * 8) xs in
      let c : length t ≡ (low_of m - n) * 8 = length_part (k * stretch_width + (10 + n * 8)) ((low_of m - n) * 8) xs (omega arith) in
      let ys = put xs ((slots + k) * stretch_width + (10 + n * 8)) t in
      let all : length ys ≡ length xs = length-put xs ((slots + k) * stretch_width + (10 + n * 8)) t (omega arith) in
      let zs = set ys ((slots + k) * stretch_width) v in
      let o : Only (slots + k) xs bs zs bs =
      only-again (slots + k) xs bs ys bs zs bs (omega arith) p q
      (only-put (slots + k) (10 + n * 8) xs bs t (omega arith) p q (omega arith))
      (only_set (slots + k) v ys bs (omega arith) (omega arith) q) in
      let x : mark_at k zs ≡ v = mark_set k v ys l (omega arith) in
      let y : stretch_at (slots + k) zs ≡ set (put spare (10 + n * 8) (part (10 + n * 8) ((low_of m - n) * 8) live)) 0 v =
      stretch-set (slots + k) (omega arith) v ys
      ∙ rw (stretch-put (slots + k) (omega arith) (10 + n * 8) xs t (omega arith) p, stretch-part k (omega arith) (10 + n * 8) ((low_of m - n) * 8) xs (omega arith)) in
      let f = r.saved h in
      let back =
      lowered_back m n live (bytes_at k bs) spare (bytes_at (slots + k) bs) length-live length-spare h g small f.room f.rows (either-bytes (has_keys m)) (was_wf h) in
      let len : (head_part (set (put spare (10 + n * 8) (part (10 + n * 8) ((low_of m - n) * 8) live)) 0 v)).len ≡ (head_part spare).len =
      ap (λ a. a.len) (header-head spare _ (header-lowered m n live (bytes_at k bs) spare (bytes_at (slots + k) bs) length-live length-spare h g small)) in
      rw e
      (record {
        kept =
            kept_by_lem k xs bs zs bs r o v _ (bytes_at (slots + k) bs) x y refl (omega arith) (omega (arith, len, f.rows)) (omega (arith, len, f.room))
            (back.0 ∙ sym (was h), back.1);
        marked = λ a. rw x (omega arith);
        rows = rw x (omega arith);
        keys = rw x (omega arith);
      })

  pub keys-saved : (ws ds : List ℕ) → 2 ≤ mark_at k xs → mark_at k xs % 2 ≡ 0
      → ws ≡ put xs ((slots + k) * stretch_width + 522) (part (k * stretch_width + 522) (key_count spare * 4) xs)
      → ds ≡ put bs ((slots + k) * bytes_width) (part (k * bytes_width) (key_count spare * 64) bs)
      → KeySaving k xs bs (set ws ((slots + k) * stretch_width) (mark_at k xs + 1)) ds
  keys-saved ws ds h even e i =
      let l = r.inside in
      let p = r.numbers_fit in
      let q = r.bytes_fit in
      let m = mark_at k xs in
      let small = low_small h in
      let few = few-keys h in
      let v = m + 1 in
      let t = part (k * stretch_width + 522) (key_count spare * 4) xs in
      let c : length t ≡ key_count spare * 4 = length_part (k * stretch_width + 522) (key_count spare * 4) xs (omega arith) in
      let ys = put xs ((slots + k) * stretch_width + 522) t in
      let all : length ys ≡ length xs = length-put xs ((slots + k) * stretch_width + 522) t (omega arith) in
      let zs = set ys ((slots + k) * stretch_width) v in
      let a = part (k * bytes_width) (key_count spare * 64) bs in
      let b : length a ≡ key_count spare * 64 = length_part (k * bytes_width) (key_count spare * 64) bs (omega arith) in
      let cs = put bs ((slots + k) * bytes_width) a in
      let o = only-both (slots + k) xs bs zs cs
      (only-again (slots + k) xs bs ys bs zs bs (omega arith) p q
      (only-put (slots + k) 522 xs bs t (omega arith) p q (omega arith))
      (only_set (slots + k) v ys bs (omega arith) (omega arith) q)).numbers
      (rw (add-zero ((slots + k) * bytes_width)) at (laid_in bytes_width (slots + k) 0 bs a (omega arith) (omega arith))) in
      let x : mark_at k zs ≡ v = mark_set k v ys l (omega arith) in
      let y : stretch_at (slots + k) zs ≡ set (put spare 522 (part 522 (key_count spare * 4) live)) 0 v =
      stretch-set (slots + k) (omega arith) v ys
      ∙ rw (stretch-put (slots + k) (omega arith) 522 xs t (omega arith) p, stretch-part k (omega arith) 522 (key_count spare * 4) xs (omega arith)) in
      let d : bytes_at (slots + k) cs ≡ put (bytes_at (slots + k) bs) 0 (part 0 (key_count spare * 64) (bytes_at k bs)) =
      bytes-put (slots + k) (omega arith) bs a (omega arith) q ∙ rw (bytes-part k (omega arith) (key_count spare * 64) bs (omega arith)) in
      let f = r.saved h in
      let back =
      keyed_back m live (bytes_at k bs) spare (bytes_at (slots + k) bs) length-live length-spare length-live-bytes length-spare-bytes even h small few f.room f.rows (was_wf h) in
      let len : (head_part (set (put spare 522 (part 522 (key_count spare * 4) live)) 0 v)).len ≡ (head_part spare).len =
      ap (λ g. g.len) (header-head spare _ (front-keyed m live (bytes_at k bs) spare (bytes_at (slots + k) bs) length-live length-spare length-live-bytes length-spare-bytes even h small few 1 9 (omega arith) (omega arith))) in
      rw (e, i)
      (record {
        kept =
            kept_by_lem k xs bs zs cs r o v _ _ x y d (omega arith) (omega (arith, len, f.rows)) (omega (arith, len, f.room))
            (back.0 ∙ sym (was h), back.1);
        rows = rw x (omega arith);
        keys = rw x (omega arith);
      })

  -- the number of keys is read off the spare
  pub keys-saved_by : (n : ℕ) (ws ds : List ℕ) → 2 ≤ mark_at k xs → mark_at k xs % 2 ≡ 0 → get_or xs ((slots + k) * stretch_width + 8) 0 ≡ n
      → ws ≡ put xs ((slots + k) * stretch_width + 522) (part (k * stretch_width + 522) (n * 4) xs)
      → ds ≡ put bs ((slots + k) * bytes_width) (part (k * bytes_width) (n * 64) bs)
      → KeySaving k xs bs (set ws ((slots + k) * stretch_width) (mark_at k xs + 1)) ds
  keys-saved_by n ws ds h even c e i =
      let z : key_count spare ≡ n = keys_in_lem (slots + k) xs (omega (arith, r.inside)) ∙ c in
      keys-saved ws ds h even (rw z e) (rw z i)

  -- the keys are there
  pub keys-there : mark_at k xs % 2 ≡ 1 → KeySaving k xs bs xs bs
  keys-there e = record { kept = kept-none k xs bs r; rows = refl; keys = e }
