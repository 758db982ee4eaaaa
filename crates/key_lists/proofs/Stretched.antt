-- A stretch of rows copied to the list, and the answer of a scan by it. Assumes nothing.
use Prim.Native.Nat.{ℕ, suc, ◌+◌, ◌-◌, ◌≤◌, ◌<◌}
use native.Mathlib.Nat.{zero-add, add-zero}
use native.Mathlib.Numerals.{add-one}
use native.Mathlib.Decide.{dec_lt}
use native.Mathlib.Omega.{arith}
use mathlib.Core.Bool.{Bool, true, false, cond}
use mathlib.Core.Path.{◌≡◌, refl, sym, ap, ◌∙◌}
use mathlib.Core.List.{List, [], ◌∷◌, ◌++◌, map, reverse, reverse-cons}
use lib.ListN.{length, get_or, take, length-map, length-reverse, get_or-append, get_or-map}
use lib.Seq.{length-take-le, take-suc, get_or-append-add}
use Rattle.cells.specs.Part.{part}
use Rattle.cells.specs.PartLaws.{length_part, get_or-part}
use Rattle.maps.specs.Maps.{Map}
use Rattle.rules.specs.Table.{Held}
use Rattle.rules.specs.TableQueries.{KeyValue, row_of, in_direction}
use Rattle.kvs.specs.Places.{no_pair, pair_at}
use Rattle.key_lists.specs.Lists.{stretch, laid_by}

-- an element of a list in a direction

get_or-reverse : {A : Type 0} (l : List A) (j : ℕ) (z : A) → j < length l → get_or (reverse l) j z ≡ get_or l (length l - 1 - j) z
get_or-reverse [] j z h = absurd (omega arith)
get_or-reverse (x ∷ xs) j z h =
    rw (reverse-cons x xs)
    (elim (dec_lt j (length xs)) [
      | yes l ↦
          (let e : suc (length xs) - 1 - j ≡ suc (length xs - 1 - j) = omega arith in
          get_or-append (reverse xs) (x ∷ []) z j (rw (length-reverse xs) l) ∙ rw e (get_or-reverse xs j z l))
      | no l ↦
          (let e : suc (length xs) - 1 - j ≡ 0 = omega arith in
          let f : j ≡ length (reverse xs) + 0 = rw (length-reverse xs) (omega arith) in
          rw (e, f) (get_or-append-add (reverse xs) (x ∷ []) 0 z))
    ])

get_or_direction : {A : Type 0} (b : Bool) (l : List A) (j : ℕ) (z : A) → j < length l → get_or (in_direction b l) j z ≡ get_or l (cond b (length l - 1 - j) j) z
unfolding in_direction
get_or_direction false l j z h = refl
get_or_direction true l j z h = get_or-reverse l j z h

pub length_direction : {A : Type 0} (b : Bool) (l : List A) → length (in_direction b l) ≡ length l
unfolding in_direction
length_direction false l = refl
length_direction true l = length-reverse l

within_direction : (b : Bool) (n j : ℕ) → j < n → cond b (n - 1 - j) j < n
within_direction true n j h = omega arith
within_direction false n j h = h

-- ---- the rows of a stretch

module _ (m : Map (List ℕ) Held) (low high : ℕ) (b : Bool) (f : low ≤ high) (g : high ≤ length m) where
  length-rows : length (map row_of (part low (high - low) m)) ≡ high - low
  length-rows = length-map (part low (high - low) m) row_of ∙ length_part low (high - low) m (omega arith)

  pub length-stretch : length (stretch low high b m) ≡ high - low
  unfolding stretch
  length-stretch = length_direction b (map row_of (part low (high - low) m)) ∙ length-rows

  -- row j of it is the pair at place i
  row_at_lem : (j i : ℕ) → j < high - low → i ≡ low + cond b (high - low - 1 - j) j
      → get_or (stretch low high b m) j (row_of no_pair) ≡ row_of (pair_at i m)
  unfolding stretch pair_at
  row_at_lem j i h e =
      let l = map row_of (part low (high - low) m) in
      let k = cond b (high - low - 1 - j) j in
      let w : k < high - low = within_direction b (high - low) j h in
      get_or_direction b l j (row_of no_pair) (rw length-rows h)
      ∙ ap (λ c. get_or l (cond b (c - 1 - j) j) (row_of no_pair)) length-rows
      ∙ get_or-map row_of (part low (high - low) m) k no_pair
      ∙ ap row_of (get_or-part low (high - low) m k no_pair w ∙ ap (λ a. get_or m a no_pair) (sym e))

-- ---- one row more

laid-snoc : (f : ℕ → KeyValue → List ℕ → List ℕ) (j : ℕ) (xs : List KeyValue) (x : KeyValue) (l : List ℕ) → laid_by f j (xs ++ (x ∷ [])) l ≡ f (j + length xs) x (laid_by f j xs l)
unfolding laid_by
laid-snoc f j [] x l = rw (add-zero j)
laid-snoc f j (y ∷ xs) x l = let e : j + suc (length xs) ≡ suc j + length xs = omega arith in rw e (laid-snoc f (suc j) xs x (f j y l))

laid_more : (f : ℕ → KeyValue → List ℕ → List ℕ) (L : List KeyValue) (l : List ℕ) (j : ℕ) (z x : KeyValue) (l' l'' : List ℕ)
    → j < length L → get_or L j z ≡ x → l' ≡ laid_by f 0 (take j L) l → l'' ≡ f j x l' → l'' ≡ laid_by f 0 (take (j + 1) L) l
laid_more f L l j z x l' l'' h e p q =
    let t : length (take j L) ≡ j = length-take-le j L (omega arith) in
    let g : laid_by f 0 (take j L ++ (get_or L j z ∷ [])) l ≡ f (0 + length (take j L)) (get_or L j z) (laid_by f 0 (take j L) l) = laid-snoc f 0 (take j L) (get_or L j z) l in
    rw (add-one j, take-suc L j z h) (q ∙ rw (p, ← e) (sym (rw (t, zero-add j) at g)))

pub stretch-none : (f : ℕ → KeyValue → List ℕ → List ℕ) (l : List ℕ) → l ≡ laid_by f 0 [] l
unfolding laid_by
stretch-none f l = refl

module _ (m : Map (List ℕ) Held) (low high : ℕ) (b : Bool) (g : low ≤ high) (h : high ≤ length m) where
  pub stretch-more : (f : ℕ → KeyValue → List ℕ → List ℕ) (j i : ℕ) (l l' l'' : List ℕ) → j < high - low → i ≡ low + cond b (high - low - 1 - j) j
      → l' ≡ laid_by f 0 (take j (stretch low high b m)) l → l'' ≡ f j (row_of (pair_at i m)) l'
      → l'' ≡ laid_by f 0 (take (j + 1) (stretch low high b m)) l
  stretch-more f j i l l' l'' a e p q =
      laid_more f (stretch low high b m) l j (row_of no_pair) (row_of (pair_at i m)) l' l''
      (rw (length-stretch m low high b g h) a)
      (row_at_lem m low high b g h j i a e) p q
