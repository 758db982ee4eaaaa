-- The laws of the stretch that a stretch goes back to by its spare: what it holds, what else stands for the same table, and what
-- a change that leaves it as it was may write. Assumes nothing.
use Rattle.std.specs.Prelude.{Bool, cond, List, [], ◌∷◌, ◌++◌, ◌≡◌, refl, ℕ, ◌+◌, ◌-◌, ◌*◌, ◌≤◌, ◌<◌, length, get_or, take}
use Rattle.std.proofs.Math.Bool.{true, false}
use Rattle.std.proofs.Math.Path.{sym}
use Rattle.std.proofs.Common.{ap, ◌∙◌, arith}
use Rattle.cells.specs.Part.{part, put}
use Rattle.cells.specs.PartLaws.{length_part, length-put, get_or-part, take_part, part-append, part-front, part-part, part-put_same, part-put-before, part-put-after, part-put-within, shorter-front}
use Rattle.maps.specs.BoolLaws.{clash}
use Rattle.maps.specs.OrderLaws.{split}
use Rattle.stretch.specs.Stretch.{span_in, head_part, key_count, entry_rows, key_rows, cell_of}
use Rattle.stretch.specs.Stretch as stretch
use Rattle.stretch.specs.Laws.{same-front}
use Rattle.stretch.specs.Reach.{Leaves}
use Rattle.groups.specs.Undo.{low_of, has_keys, back_numbers, back_bytes}

-- ---- what it holds

module _ (m : ℕ) (p s : List ℕ) (l : length p ≡ 586) (n : length s ≡ 586) (low : low_of m ≤ 64) where
  either : (b : Bool) → length (cond b s p) ≡ 586
  either true = n
  either false = l

  -- the pieces that are laid in
  rows-length : length (part 10 (low_of m * 8) p) ≡ low_of m * 8
  rows-length = length_part 10 (low_of m * 8) p (omega arith)

  keys_length : length (part 522 64 (cond (has_keys m) s p)) ≡ 64
  keys_length = length_part 522 64 (cond (has_keys m) s p) (omega (arith, either (has_keys m)))

  length-one : length (put s 0 (1 ∷ [])) ≡ 586
  length-one = length-put s 0 (1 ∷ []) (omega arith) ∙ n

  length_two : length (put (put s 0 (1 ∷ [])) 10 (part 10 (low_of m * 8) p)) ≡ 586
  length_two =
      let a = rows-length in
      let b = length-one in
      length-put (put s 0 (1 ∷ [])) 10 (part 10 (low_of m * 8) p) (omega arith) ∙ b

  pub length_back : length (back_numbers m p s) ≡ 586
  unfolding back_numbers
  length_back =
      let a = keys_length in
      let b = length_two in
      length-put (put (put s 0 (1 ∷ [])) 10 (part 10 (low_of m * 8) p)) 522 (part 522 64 (cond (has_keys m) s p)) (omega arith) ∙ b

  -- before the keys, before the rows
  before-keys : (a k : ℕ) → a + k ≤ 522 → part a k (back_numbers m p s) ≡ part a k (put (put s 0 (1 ∷ [])) 10 (part 10 (low_of m * 8) p))
  unfolding back_numbers
  before-keys a k h =
      let b = length_two in
      part-put-before a k (put (put s 0 (1 ∷ [])) 10 (part 10 (low_of m * 8) p)) 522 (part 522 64 (cond (has_keys m) s p)) h (omega arith)

  pub back-used : part 0 1 (back_numbers m p s) ≡ 1 ∷ []
  back-used =
      let b = length-one in
      before-keys 0 1 (omega arith)
      ∙ part-put-before 0 1 (put s 0 (1 ∷ [])) 10 (part 10 (low_of m * 8) p) (omega arith) (omega arith)
      ∙ part-put_same 1 s 0 (1 ∷ []) refl (omega arith)

  pub back-header : part 1 9 (back_numbers m p s) ≡ part 1 9 s
  back-header =
      let b = length-one in
      before-keys 1 9 (omega arith)
      ∙ part-put-before 1 9 (put s 0 (1 ∷ [])) 10 (part 10 (low_of m * 8) p) (omega arith) (omega arith)
      ∙ part-put-after 1 9 s 0 (1 ∷ []) (omega arith) (omega arith)

  pub back_below : part 10 (low_of m * 8) (back_numbers m p s) ≡ part 10 (low_of m * 8) p
  back_below =
      let b = length-one in
      before-keys 10 (low_of m * 8) (omega arith)
      ∙ part-put_same (low_of m * 8) (put s 0 (1 ∷ [])) 10 (part 10 (low_of m * 8) p) rows-length (omega arith)

  pub back_above : (a k : ℕ) → 10 + low_of m * 8 ≤ a → a + k ≤ 522 → part a k (back_numbers m p s) ≡ part a k s
  back_above a k g h =
      let c = rows-length in
      let b = length-one in
      before-keys a k h
      ∙ part-put-after a k (put s 0 (1 ∷ [])) 10 (part 10 (low_of m * 8) p) (omega arith) (omega arith)
      ∙ part-put-after a k s 0 (1 ∷ []) (omega arith) (omega arith)

  pub back-keys : (k : ℕ) → k ≤ 64 → part 522 k (back_numbers m p s) ≡ part 522 k (cond (has_keys m) s p)
  unfolding back_numbers
  back-keys k h =
      let a = keys_length in
      let b = length_two in
      part-put-within 0 k (put (put s 0 (1 ∷ [])) 10 (part 10 (low_of m * 8) p)) 522 (part 522 64 (cond (has_keys m) s p)) (omega arith) (omega arith)
      ∙ part-part 0 k 522 64 (cond (has_keys m) s p) (omega arith)

-- ---- a header is its first number and the nine behind it

header_at : (p q : List ℕ) → part 1 9 q ≡ part 1 9 p → (i : ℕ) → i < 9 → get_or q (1 + i) 0 ≡ get_or p (1 + i) 0
header_at p q e i h =
    sym (get_or-part 1 9 q i 0 h) ∙ ap (λ (l : List ℕ). get_or l i 0) e ∙ get_or-part 1 9 p i 0 h

pub header-head : (p q : List ℕ) → part 1 9 q ≡ part 1 9 p → head_part q ≡ head_part p
unfolding head_part span_in
header-head p q e =
    rw (header_at p q e 1 (omega arith), header_at p q e 2 (omega arith), header_at p q e 3 (omega arith), header_at p q e 4 (omega arith), header_at p q e 5 (omega arith), header_at p q e 6 (omega arith))

pub header-count : (p q : List ℕ) → part 1 9 q ≡ part 1 9 p → key_count q ≡ key_count p
unfolding key_count
header-count p q e = header_at p q e 7 (omega arith)

-- ---- what stands for the same table

-- q with its bytes e holds what p with b goes back to by its spare s with d
pub record Shows (m : ℕ) (p b s d q e : List ℕ) : Type 0 where
  pub used : part 0 1 q ≡ 1 ∷ []
  pub header : part 1 9 q ≡ part 1 9 s
  pub below : part 10 (low_of m * 8) q ≡ part 10 (low_of m * 8) p
  pub above : part (10 + low_of m * 8) (((head_part s).len - low_of m) * 8) q ≡ part (10 + low_of m * 8) (((head_part s).len - low_of m) * 8) s
  pub keys : part 522 (key_count s * 4) q ≡ part 522 (key_count s * 4) (cond (has_keys m) s p)
  pub bytes : take (key_count s * 64) e ≡ take (key_count s * 64) (back_bytes m b d)

-- the front of a stretch in its four pieces
pieces : (low len : ℕ) (q : List ℕ) → low ≤ len → take (10 + len * 8) q ≡ part 0 1 q ++ (part 1 9 q ++ (part 10 (low * 8) q ++ part (10 + low * 8) ((len - low) * 8) q))
pieces low len q h =
    let a : 10 + len * 8 ≡ 1 + (9 + (low * 8 + (len - low) * 8)) = omega arith in
    ap (λ (n : ℕ). take n q) a
    ∙ part-front (1 + (9 + (low * 8 + (len - low) * 8))) q
    ∙ sym (part-append 0 1 (9 + (low * 8 + (len - low) * 8)) q)
    ∙ ap (λ (l : List ℕ). part 0 1 q ++ l) (sym (part-append 1 9 (low * 8 + (len - low) * 8) q))
    ∙ ap (λ (l : List ℕ). part 0 1 q ++ (part 1 9 q ++ l)) (sym (part-append 10 (low * 8) ((len - low) * 8) q))

module _ (m : ℕ) (p b s d q e : List ℕ) (l : length p ≡ 586) (n : length s ≡ 586) (o : Shows m p b s d q e) (low : low_of m ≤ (head_part s).len) (rows : (head_part s).len ≤ 64) (count : key_count s ≤ 16) where
  small : low_of m ≤ 64
  small = omega arith

  same_pieces : take (10 + (head_part s).len * 8) q ≡ take (10 + (head_part s).len * 8) (back_numbers m p s)
  same_pieces =
      let v = small in
      rw (
        pieces (low_of m) (head_part s).len q low,
        pieces (low_of m) (head_part s).len (back_numbers m p s) low,
        o.used,
        o.header,
        o.below,
        o.above,
        back-used m p s l n v,
        back-header m p s l n v,
        back_below m p s l n v,
        back_above m p s l n v (10 + low_of m * 8) (((head_part s).len - low_of m) * 8) (omega arith) (omega arith),
      )

  same_keys : part 522 (key_count s * 4) q ≡ part 522 (key_count s * 4) (back_numbers m p s)
  same_keys = o.keys ∙ sym (back-keys m p s l n small (key_count s * 4) (omega arith))

  head_back : head_part (back_numbers m p s) ≡ head_part s
  head_back = header-head s (back_numbers m p s) (back-header m p s l n small)

  count_back : key_count (back_numbers m p s) ≡ key_count s
  count_back = header-count s (back_numbers m p s) (back-header m p s l n small)

  -- from what it goes back to
  pub shows_it : stretch.Wf (back_numbers m p s) (back_bytes m b d) → length q ≡ 586 → length e ≡ 1024 → (cell_of q e ≡ cell_of (back_numbers m p s) (back_bytes m b d)) × stretch.Wf q e
  shows_it w x y =
      same-front (back_numbers m p s) (back_bytes m b d) q e w x y
      (rw (ap (λ h. h.len) head_back) same_pieces)
      (rw count_back same_keys)
      (rw count_back o.bytes)

  -- and to it
  pub shown_by : stretch.Wf q e → length (back_bytes m b d) ≡ 1024 → (cell_of (back_numbers m p s) (back_bytes m b d) ≡ cell_of q e) × stretch.Wf (back_numbers m p s) (back_bytes m b d)
  shown_by w y =
      let h = header-head s q o.header in
      let c = header-count s q o.header in
      same-front q e (back_numbers m p s) (back_bytes m b d) w (length_back m p s l n small) y
      (rw (ap (λ g. g.len) h) (sym same_pieces))
      (rw c (sym same_keys))
      (rw c (sym o.bytes))

-- a well-formed one has room for what it holds
pub back-room : (m : ℕ) (p b s d : List ℕ) → length p ≡ 586 → length s ≡ 586 → low_of m ≤ 64 → stretch.Wf (back_numbers m p s) (back_bytes m b d) → ((head_part s).len ≤ 64) × (key_count s ≤ 16)
unfolding entry_rows key_rows
back-room m p b s d l n v w =
    let q = back_numbers m p s in
    let h = header-head s q (back-header m p s l n v) in
    let c = header-count s q (back-header m p s l n v) in
    let x : length (entry_rows q) ≡ 512 = length_part 10 512 q (omega (arith, w.numbers.numbers-are)) in
    let y : length (key_rows q) ≡ 64 = length_part 522 64 q (omega (arith, w.numbers.numbers-are)) in
    let r = w.numbers.entries.room in
    let t = w.keys.rows_fit in
    (omega (arith, ap (λ g. g.len) h), omega (arith, c))

-- ---- what a change leaves

module _ (m n : ℕ) (written : Bool) (p b p' b' s d : List ℕ) (low : low_of m ≤ n) (small : low_of m ≤ 64) (keys : written ≡ true → has_keys m ≡ true) (o : Leaves n written p b p' b') where
  rows_stay : part 10 (low_of m * 8) p' ≡ part 10 (low_of m * 8) p
  unfolding entry_rows
  rows_stay =
      sym (take_part (low_of m * 8) 10 512 p' (omega arith))
      ∙ shorter-front (low_of m * 8) (n * 8) (entry_rows p') (entry_rows p) (omega arith) o.rows
      ∙ take_part (low_of m * 8) 10 512 p (omega arith)

  keys_stay : (h : Bool) → has_keys m ≡ h → (part 522 64 (cond h s p') ≡ part 522 64 (cond h s p)) × (cond h d b' ≡ cond h d b)
  unfolding key_rows
  keys_stay true e = (refl, refl)
  keys_stay false e =
      let f : written ≡ false = split written (λ t. absurd (clash (sym e ∙ keys t))) (λ t. t) in o.keys f

  pub back-stays : back_numbers m p' s ≡ back_numbers m p s
  unfolding back_numbers
  back-stays = rw (rows_stay, (keys_stay (has_keys m) refl).0)

  pub bytes_stay : back_bytes m b' d ≡ back_bytes m b d
  unfolding back_bytes
  bytes_stay = (keys_stay (has_keys m) refl).1
