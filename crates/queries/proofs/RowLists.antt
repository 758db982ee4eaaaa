-- The rows of a lent list of keys at exit are those that the rules leave there: keys and values of at most 32 bytes, laid in row by
-- row, are read back, and the rows behind them are as they were. Assumes nothing.
use mathlib.Core.Bool.{Bool, true, false, ◌&&◌, ◌||◌}
use mathlib.Core.List.{List, [], ◌∷◌, ◌++◌, map, reverse_aux}
use Rattle.std.specs.Prelude.{Option}
use mathlib.Core.Path.{◌≡◌, refl, ap, ◌∙◌}
use Prim.Native.Nat.{ℕ, zero, suc, ◌+◌, ◌-◌, ◌*◌, ◌/◌, ◌≤◌, ◌<◌, min}
use native.Mathlib.Nat.{add-zero, add-suc, suc-add}
use native.Mathlib.Omega.{arith}
use lib.Dec.{leb, eqb}
use lib.ListN.{length, get_or, take, drop, length-take}
use borrow.Author.Tests.{leb-true, le-leb}
use Rattle.cells.specs.Part.{part, put}
use Rattle.cells.specs.PartLaws.{length-put, take_part, get_or-put-in, get_or-put-before, get_or-put-after, part-put_same, part-put-before, part-put-after}
use Rattle.maps.specs.BoolLaws.{both_left, both_right, both}
use Rattle.maps.specs.Lists.{every}
use Rattle.maps.specs.ListLaws.{every-head, every-tail, every-cons, every-selected}
use Rattle.maps.specs.Maps.{Pair, Map}
use Rattle.maps.specs.OrderLaws.{split}
use Rattle.rules.specs.Causes.{Result, Ok, Err, and_then}
use Rattle.rules.specs.Items.{Append, Rewrite, LogQueue, same_queue}
use Rattle.rules.specs.Table.{Held, Table}
use Rattle.rules.specs.TableQueries.{KeyValue, row_of, in_bounds, start_above_end, in_direction, scan, keys_of, fetch_kvs_before, fetch_rewritten_kvs}
use Rattle.rules.specs.Queries.{answered, lent_after}
use Rattle.groups.specs.PlaceLaws.{part-short}
use Rattle.kvs.specs.Rows.{Row, rows_from, key_of, value_of, held_of, pair_of, keys_in}
use Rattle.key_lists.specs.Lists.{row_lens, row_bytes, laid_by, lent_lens, lent_bytes, list_from, lent_list, lens_after, bytes_after}

-- ---- rows that are short

-- at most 32 bytes each
unfoldable pub short : KeyValue → Bool
short x = leb (length x.key) 32 && leb (length x.value) 32

unfoldable pub Short : Result (List KeyValue) → Type 0
Short (Ok rows) = every short rows ≡ true
Short (Err r) = Unit {0}

short_key : (x : KeyValue) → short x ≡ true → length x.key ≤ 32
unfolding short
short_key x h = leb-true (length x.key) 32 (both_left (leb (length x.key) 32) (leb (length x.value) 32) h)

short-value : (x : KeyValue) → short x ≡ true → length x.value ≤ 32
unfolding short
short-value x h = leb-true (length x.value) 32 (both_right (leb (length x.key) 32) (leb (length x.value) 32) h)

-- ---- one row laid in

module _ (j : ℕ) (x : KeyValue) (lens out : List ℕ) (h : short x ≡ true) (l : j * 2 + 2 ≤ length lens) (b : j * 64 + 64 ≤ length out) where
  length_lens : length (row_lens j x lens) ≡ length lens
  unfolding row_lens
  length_lens = length-put lens (j * 2) _ (omega arith)

  key-put : length (put out (j * 64) x.key) ≡ length out
  key-put = let k = short_key x h in length-put out (j * 64) x.key (omega arith)

  length-bytes : length (row_bytes j x out) ≡ length out
  unfolding row_bytes
  length-bytes =
      let k = key-put in
      let v = short-value x h in
      length-put (put out (j * 64) x.key) (j * 64 + 32) x.value (omega arith) ∙ k

  -- it is read back
  key-length : get_or (row_lens j x lens) (j * 2) 0 ≡ length x.key
  unfolding row_lens
  key-length =
      rw (add-zero (j * 2)) at (get_or-put-in lens (j * 2) (length x.key ∷ length x.value ∷ []) 0 0 (omega arith) (omega arith))

  value-length : get_or (row_lens j x lens) (j * 2 + 1) 0 ≡ length x.value
  unfolding row_lens
  value-length = get_or-put-in lens (j * 2) (length x.key ∷ length x.value ∷ []) 1 0 (omega arith) (omega arith)

  key_back : take (length x.key) (part (j * 64) 32 (row_bytes j x out)) ≡ x.key
  unfolding row_bytes
  key_back =
      let k = short_key x h in
      let e = key-put in
      rw (part-put-before (j * 64) 32 (put out (j * 64) x.key) (j * 64 + 32) x.value (omega arith) (omega arith))
      (take_part (length x.key) (j * 64) 32 (put out (j * 64) x.key) k ∙ part-put_same (length x.key) out (j * 64) x.key refl (omega arith))

  value_back : take (length x.value) (part (j * 64 + 32) 32 (row_bytes j x out)) ≡ x.value
  unfolding row_bytes
  value_back =
      let v = short-value x h in
      let e = key-put in
      let d = put out (j * 64) x.key in
      take_part (length x.value) (j * 64 + 32) 32 (put d (j * 64 + 32) x.value) v ∙ part-put_same (length x.value) d (j * 64 + 32) x.value refl (omega arith)

  -- what stands before and behind it is as it was
  lens-before : (i : ℕ) → i < j * 2 → get_or (row_lens j x lens) i 0 ≡ get_or lens i 0
  unfolding row_lens
  lens-before i a = get_or-put-before lens (j * 2) _ i 0 a (omega arith)

  lens-behind : (i : ℕ) → j * 2 + 2 ≤ i → get_or (row_lens j x lens) i 0 ≡ get_or lens i 0
  unfolding row_lens
  lens-behind i a = get_or-put-after lens (j * 2) (length x.key ∷ length x.value ∷ []) i 0 a (omega arith)

  bytes-before : (a n : ℕ) → a + n ≤ j * 64 → part a n (row_bytes j x out) ≡ part a n out
  unfolding row_bytes
  bytes-before a n c =
      let e = key-put in
      part-put-before a n (put out (j * 64) x.key) (j * 64 + 32) x.value (omega arith) (omega arith)
      ∙ part-put-before a n out (j * 64) x.key c (omega arith)

  bytes-behind : (a n : ℕ) → j * 64 + 64 ≤ a → part a n (row_bytes j x out) ≡ part a n out
  unfolding row_bytes
  bytes-behind a n c =
      let k = short_key x h in
      let v = short-value x h in
      let e = key-put in
      part-put-after a n (put out (j * 64) x.key) (j * 64 + 32) x.value (omega arith) (omega arith)
      ∙ part-put-after a n out (j * 64) x.key (omega arith) (omega arith)

-- ---- rows laid in from row j on

record Laid (j : ℕ) (xs : List KeyValue) (lens out : List ℕ) : Type 0 where
  pub length_lens : length (lent_lens j xs lens) ≡ length lens
  pub length-bytes : length (lent_bytes j xs out) ≡ length out
  pub lens-before : (i : ℕ) → i < j * 2 → get_or (lent_lens j xs lens) i 0 ≡ get_or lens i 0
  pub bytes-before : (a n : ℕ) → a + n ≤ j * 64 → part a n (lent_bytes j xs out) ≡ part a n out

laid : (j : ℕ) (xs : List KeyValue) (lens out : List ℕ) → every short xs ≡ true → (j + length xs) * 2 ≤ length lens → (j + length xs) * 64 ≤ length out → Laid j xs lens out
unfolding laid_by
laid j [] lens out h l b = record { length_lens = refl; length-bytes = refl; lens-before = λ i a. refl; bytes-before = λ a n c. refl }
laid j (x ∷ xs) lens out h l b =
    let hx = every-head short x xs h in
    let e = length_lens j x lens out hx (omega arith) (omega arith) in
    let f = length-bytes j x lens out hx (omega arith) (omega arith) in
    let ih = laid (suc j) xs (row_lens j x lens) (row_bytes j x out) (every-tail short x xs h) (omega arith) (omega arith) in
    record {
      length_lens = ih.length_lens ∙ e;
      length-bytes = ih.length-bytes ∙ f;
      lens-before = λ i a. ih.lens-before i (omega arith) ∙ lens-before j x lens out hx (omega arith) (omega arith) i a;
      bytes-before = λ a n c. ih.bytes-before a n (omega arith) ∙ bytes-before j x lens out hx (omega arith) (omega arith) a n c;
    }

-- rows that agree in both lists are the same
list_same : (i n : ℕ) (lens out lens' out' : List ℕ) → ((m : ℕ) → i * 2 ≤ m → get_or lens' m 0 ≡ get_or lens m 0) → ((a k : ℕ) → i * 64 ≤ a → part a k out' ≡ part a k out) → list_from i n lens' out' ≡ list_from i n lens out
unfolding list_from
list_same i zero lens out lens' out' f g = refl
list_same i (suc n) lens out lens' out' f g =
    rw (
      f (i * 2) (omega arith),
      f (i * 2 + 1) (omega arith),
      g (i * 64) 32 (omega arith),
      g (i * 64 + 32) 32 (omega arith),
      list_same (suc i) n lens out lens' out' (λ m a. f m (omega arith)) (λ a k c. g a k (omega arith)),
    )

list-drop : (i j n : ℕ) (lens out : List ℕ) → i ≤ n → drop i (list_from j n lens out) ≡ list_from (j + i) (n - i) lens out
unfolding list_from
list-drop zero j n lens out h = let e : n - 0 ≡ n = omega arith in rw (add-zero j, e)
list-drop (suc i) j zero lens out h = absurd (omega arith)
list-drop (suc i) j (suc n) lens out h =
    let e : suc n - suc i ≡ n - i = omega arith in
    list-drop i (suc j) n lens out (omega arith) ∙ rw (suc-add j i, add-suc j i, e)

list-laid : (j n : ℕ) (xs : List KeyValue) (lens out : List ℕ) → every short xs ≡ true → length xs ≤ n → (j + n) * 2 ≤ length lens → (j + n) * 64 ≤ length out → list_from j n (lent_lens j xs lens) (lent_bytes j xs out) ≡ xs ++ list_from (j + length xs) (n - length xs) lens out
unfolding laid_by list_from
list-laid j n [] lens out h m l b = let e : n - 0 ≡ n = omega arith in rw (add-zero j, e)
list-laid j zero (x ∷ xs) lens out h m l b = absurd (omega arith)
list-laid j (suc n) (x ∷ xs) lens out h m l b =
    let hx = every-head short x xs h in
    let ht = every-tail short x xs h in
    let L = row_lens j x lens in
    let O = row_bytes j x out in
    let p : j * 2 + 2 ≤ length lens = omega arith in
    let q : j * 64 + 64 ≤ length out = omega arith in
    let e = length_lens j x lens out hx p q in
    let f = length-bytes j x lens out hx p q in
    let w = laid (suc j) xs L O ht (omega arith) (omega arith) in
    let z : suc n - suc (length xs) ≡ n - length xs = omega arith in
    let ih = list-laid (suc j) n xs L O ht (omega arith) (omega arith) (omega arith) in
    rw (
      w.lens-before (j * 2) (omega arith),
      w.lens-before (j * 2 + 1) (omega arith),
      w.bytes-before (j * 64) 32 (omega arith),
      w.bytes-before (j * 64 + 32) 32 (omega arith),
      key-length j x lens out hx p q,
      value-length j x lens out hx p q,
      key_back j x lens out hx p q,
      value_back j x lens out hx p q,
      ih,
      list_same (suc j + length xs) (n - length xs) lens out L O (λ i a. lens-behind j x lens out hx p q i (omega arith)) (λ a k c. bytes-behind j x lens out hx p q a k (omega arith)),
      add-suc j (length xs),
      ← suc-add j (length xs),
      z,
    )

-- ---- the list at exit

rows_in_lem : (n m : ℕ) → n ≤ m / 2 → n * 2 ≤ m
rows_in_lem n m h = omega arith

bytes-in : (n m : ℕ) → n ≤ m / 64 → n * 64 ≤ m
bytes-in n m h = omega arith

length_list : (j n : ℕ) (lens out : List ℕ) → length (list_from j n lens out) ≡ n
unfolding list_from
length_list j zero lens out = refl
length_list j (suc n) lens out = ap suc (length_list (suc j) n lens out)

lent_laid : (lens out : List ℕ) (xs : List KeyValue) → every short xs ≡ true → length xs ≤ length (lent_list lens out) → lent_list (lent_lens 0 xs lens) (lent_bytes 0 xs out) ≡ xs ++ drop (length xs) (lent_list lens out)
unfolding lent_list
lent_laid lens out xs h l =
    let n = min (length lens / 2) (length out / 64) in
    let m : length xs ≤ n = omega (arith, length_list 0 n lens out) in
    let p : n * 2 ≤ length lens = rows_in_lem n (length lens) (omega arith) in
    let q : n * 64 ≤ length out = bytes-in n (length out) (omega arith) in
    let w = laid 0 xs lens out h (omega arith) (omega arith) in
    rw (w.length_lens, w.length-bytes, list-drop (length xs) 0 n lens out m) (list-laid 0 n xs lens out h m (omega arith) (omega arith))

pub rows_left : (lens out : List ℕ) (a : Result (List KeyValue)) → Short a → lent_list (lens_after (answered (lent_list lens out) a) lens) (bytes_after (answered (lent_list lens out) a) out) ≡ lent_after (lent_list lens out) (answered (lent_list lens out) a)
unfolding Short answered and_then lens_after bytes_after lent_after
rows_left lens out (Err r) h = refl
rows_left lens out (Ok xs) h =
    split (leb (length xs) (length (lent_list lens out)))
    (λ t. rw t (lent_laid lens out xs h (leb-true _ _ t)))
    (λ t. rw t)

-- ---- what a group's keys answer is short

unfoldable short_pair : Pair (List ℕ) Held → Bool
short_pair p = short (row_of p)

pair-short : (r : Row) → short_pair (pair_of r) ≡ true
unfolding short_pair short row_of pair_of held_of key_of value_of
pair-short r =
    both
    (le-leb (length (take (get_or r.numbers 0 0) (part 0 32 r.bytes))) 32 (simp length-take (omega (arith, part-short 0 32 r.bytes))))
    (le-leb (length (take (get_or r.numbers 1 0) (part 32 32 r.bytes))) 32 (simp length-take (omega (arith, part-short 32 32 r.bytes))))

pairs-short : (rs : List Row) → every short_pair (map pair_of rs) ≡ true
pairs-short [] = unfold every in refl
pairs-short (r ∷ rs) = every-cons short_pair (pair_of r) (map pair_of rs) (pair-short r) (pairs-short rs)

keys-short : (n : ℕ) (rows bs : List ℕ) → every short_pair (keys_in n rows bs) ≡ true
unfolding keys_in
keys-short n rows bs = pairs-short (rows_from 0 n rows bs)

rows_short : (m : Map (List ℕ) Held) → every short_pair m ≡ true → every short (map row_of m) ≡ true
unfolding short_pair
rows_short [] h = unfold every in refl
rows_short (x ∷ m) h = every-cons short (row_of x) (map row_of m) (every-head (λ p. short (row_of p)) x m h) (rows_short m (every-tail (λ p. short (row_of p)) x m h))

reversed-short : (xs ys : List KeyValue) → every short xs ≡ true → every short ys ≡ true → every short (reverse_aux xs ys) ≡ true
reversed-short [] ys h g = g
reversed-short (x ∷ xs) ys h g = reversed-short xs (x ∷ ys) (every-tail short x xs h) (every-cons short x ys (every-head short x xs h) g)

direction-short : (b : Bool) (xs : List KeyValue) → every short xs ≡ true → every short (in_direction b xs) ≡ true
unfolding in_direction
direction-short false xs h = h
direction-short true xs h = reversed-short xs [] h (unfold every in refl)

taken-short : (n : ℕ) (xs : List KeyValue) → every short xs ≡ true → every short (take n xs) ≡ true
taken-short zero xs h = unfold every in refl
taken-short (suc n) [] h = unfold every in refl
taken-short (suc n) (x ∷ xs) h = every-cons short x (take n xs) (every-head short x xs h) (taken-short n xs (every-tail short x xs h))

module _ (n : ℕ) (rows bs : List ℕ) (t : Table) (e : t.keys ≡ keys_in n rows bs) where
  own-short : every short_pair t.keys ≡ true
  own-short = rw e (keys-short n rows bs)

  pub scan-short : (start end : Option (List ℕ)) (backwards : Bool) (count : ℕ) → Short (scan start end backwards count t)
  unfolding Short scan
  scan-short start end backwards count =
      split (start_above_end start end || eqb count 0)
      (λ h. rw h tt)
      (λ h. rw h
      (taken-short count _ (direction-short backwards _ (rows_short _ (every-selected short_pair (λ p. in_bounds start end p.key) t.keys own-short)))))

  queue-short : (q : LogQueue) → every short_pair (keys_of q t) ≡ true
  unfolding keys_of
  queue-short q = every-selected short_pair (λ p. same_queue p.val.file.queue q) t.keys own-short

  pub before-short : (gate : ℕ) → Short (Ok (fetch_kvs_before gate t))
  unfolding Short fetch_kvs_before
  before-short gate = rows_short _ (every-selected short_pair (λ p. leb p.val.file.seq gate) (keys_of Append t) (queue-short Append))

  pub rewritten-short : Short (Ok (fetch_rewritten_kvs t))
  unfolding Short fetch_rewritten_kvs
  rewritten-short = rows_short _ (queue-short Rewrite)
