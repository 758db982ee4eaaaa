-- The laws of `part` and `put`, over any type of elements. Places and lists are written out, and the bounds come last.
-- Assumes nothing.
use Rattle.std.specs.Prelude.{ℕ, zero, suc, ◌+◌, ◌-◌, ◌≤◌, ◌<◌, ◌≡◌, get_or, set, drop, replicate}
use Rattle.std.proofs.Math.Nat.{zero-add, add_assoc, sub-add-eq}
use Rattle.std.proofs.Common.{suc-add, add-zero, ◌∙◌, take-append-drop, length-take-le, drop-set-lt, get_or-take, get_or-drop, take-add}
use Rattle.std.proofs.Math.Numerals.{add-one}
use native.Mathlib.Omega.{arith}
use Rattle.std.proofs.Math.Path.{refl, sym, ap}
use mathlib.Core.List.{List, [], ◌∷◌, ◌++◌, append_assoc, append-nil}
use Rattle.std.proofs.Math.ListN.{length, take, length-append, length-take, length-drop, get_or-append, replicate-append-replicate}
use Rattle.std.proofs.lemmas.List.{length-replicate, drop-append-le, set_split, take-set-le, drop-set-add}
use Rattle.std.proofs.Math.Seq.{take_all, drop-length, take-nil, take-suc, drop-cons, take-append-le, drop-append-add, take-set-lt, take-take, drop-drop, take_at, drop_at, append_snoc}
use borrow.Rule.Slice.PartMut.{put_mid}
use Rattle.cells.specs.Part.{part, put}

module _ {A : Type 0} where
  -- ---- a part

  pub length_part : (a n : ℕ) (l : List A) → a + n ≤ length l → length (part a n l) ≡ n
  unfolding part
  length_part a n l h = simp (length-take, length-drop) (omega arith)

  pub get_or-part : (a n : ℕ) (l : List A) (i : ℕ) (z : A) → i < n → get_or (part a n l) i z ≡ get_or l (a + i) z
  unfolding part
  get_or-part a n l i z h = rw (get_or-take, get_or-drop)

  -- all of a list, whose length is known as n
  pub part_all : (n : ℕ) (l : List A) → length l ≡ n → part 0 n l ≡ l
  unfolding part
  part_all n l e = take_all n l (omega arith)

  pub part_none : (a : ℕ) (l : List A) → part a 0 l ≡ []
  unfolding part
  part_none a l = refl

  -- neighbours make the longer part
  pub part-append : (a n m : ℕ) (l : List A) → part a n l ++ part (a + n) m l ≡ part a (n + m) l
  unfolding part
  part-append a n m l = rw (take-add n m (drop a l), drop-drop n a l)

  -- one more at the back, and at the front
  pub part-snoc : (a n : ℕ) (l : List A) (z : A) → a + n < length l → part a n l ++ (get_or l (a + n) z ∷ []) ≡ part a (n + 1) l
  unfolding part
  part-snoc a n l z h = rw (add-one n, take-suc (drop a l) n z (simp length-drop (omega arith)), get_or-drop)

  pub part-cons : (a n : ℕ) (l : List A) (z : A) → a < length l → get_or l a z ∷ part (a + 1) n l ≡ part a (n + 1) l
  unfolding part
  part-cons a n l z h = rw (add-one n, add-one a, drop-cons l a z)

  drop-take : (m k : ℕ) (l : List A) → drop m (take (m + k) l) ≡ take k (drop m l)
  drop-take zero k l = rw zero-add
  drop-take (suc m) k [] = rw (suc-add m k, take-nil)
  drop-take (suc m) k (x ∷ l) = rw suc-add (drop-take m k l)

  pub part-part : (b m a n : ℕ) (l : List A) → b + m ≤ n → part b m (part a n l) ≡ part (a + b) m l
  unfolding part
  part-part b m a n l h =
      let e : n ≡ b + (n - b) = omega arith in
      rw (e, drop-take b (n - b) (drop a l), drop-drop b a l) (take-take m (n - b) _ (omega arith))

  -- a part cut in two
  pub take_part : (k a n : ℕ) (l : List A) → k ≤ n → take k (part a n l) ≡ part a k l
  unfolding part
  take_part k a n l h = take-take k n (drop a l) h

  pub drop-part : (k a n : ℕ) (l : List A) → k ≤ n → drop k (part a n l) ≡ part (a + k) (n - k) l
  unfolding part
  drop-part k a n l h =
      let e : n ≡ k + (n - k) = omega arith in
      rw (← drop-drop k a l) (rw (← e) at (drop-take k (n - k) (drop a l)))

  pub part_cut : (k a n : ℕ) (l : List A) → k ≤ n → part a n l ≡ part a k l ++ part (a + k) (n - k) l
  part_cut k a n l h =
      let e : k + (n - k) ≡ n = omega arith in
      rw e at (sym (part-append a k (n - k) l))

  -- a part of the front, and of what follows the front
  pub part-take : (a n m : ℕ) (l : List A) → a + n ≤ m → part a n (take m l) ≡ part a n l
  unfolding part
  part-take a n m l h = rw zero-add at (part-part a n 0 m l h)

  pub part-drop : (a n m : ℕ) (l : List A) → part a n (drop m l) ≡ part (m + a) n l
  unfolding part
  part-drop a n m l = rw (drop-drop a m l)

  -- a part of two lists, in the first and in the second
  pub part_left : (a n : ℕ) (s t : List A) → a + n ≤ length s → part a n (s ++ t) ≡ part a n s
  unfolding part
  part_left a n s t h = rw (drop-append-le a s t (omega arith)) (take-append-le n (drop a s) t (simp length-drop (omega arith)))

  pub part_right : (a n : ℕ) (s t : List A) → part (length s + a) n (s ++ t) ≡ part a n t
  unfolding part
  part_right a n s t = rw (drop-append-add s t a)

  pub part-replicate : (a n k : ℕ) (v : A) → a + n ≤ k → part a n (replicate k v) ≡ replicate n v
  unfolding part
  part-replicate a n k v h =
      let e : k ≡ a + (n + (k - (a + n))) = omega arith in
      rw (e, ← replicate-append-replicate a (n + (k - (a + n))) v, ← replicate-append-replicate n (k - (a + n)) v, drop_at (replicate a v) _ a (length-replicate a v))
      (take_at (replicate n v) _ n (length-replicate n v))

  -- a store in a part, after it, and before it
  pub part-set-in : (a n : ℕ) (l : List A) (i : ℕ) (v : A) → i < n → part a n (set l (a + i) v) ≡ set (part a n l) i v
  unfolding part
  part-set-in a n l i v h = rw (drop-set-add a l i v) (take-set-lt n (drop a l) i v h)

  pub part-set-after : (a n : ℕ) (l : List A) (i : ℕ) (v : A) → a + n ≤ i → part a n (set l i v) ≡ part a n l
  part-set-after a n l i v h = sym (part-take a n i (set l i v) h) ∙ rw (take-set-le i l i v (omega arith)) (part-take a n i l h)

  pub part-set-before : (a n : ℕ) (l : List A) (i : ℕ) (v : A) → i < a → part a n (set l i v) ≡ part a n l
  unfolding part
  part-set-before a n l i v h = rw (drop-set-lt a l i v h)

  -- ---- a put: what lies before it, from its place on, and after it

  length-head : (d : List A) (at : ℕ) (s : List A) → at ≤ length d → length (take at d ++ s) ≡ at + length s
  length-head d at s h = simp (length-append, length-take) (omega arith)

  pub length-put : (d : List A) (at : ℕ) (s : List A) → at + length s ≤ length d → length (put d at s) ≡ length d
  unfolding put
  length-put d at s h = simp (length-append, length-take, length-drop) (omega arith)

  pub take_put : (k : ℕ) (d : List A) (at : ℕ) (s : List A) → k ≤ at → at ≤ length d → take k (put d at s) ≡ take k d
  unfolding put
  take_put k d at s b h =
      rw (append_assoc, take-append-le k (take at d) _ (simp length-take (omega arith))) (take-take k at d b)

  pub from-put : (d : List A) (at : ℕ) (s : List A) → at ≤ length d → drop at (put d at s) ≡ s ++ drop (at + length s) d
  unfolding put
  from-put d at s h = rw append_assoc (drop_at (take at d) _ at (length-take-le at d h))

  pub drop-put : (k : ℕ) (d : List A) (at : ℕ) (s : List A) → at + length s ≤ k → at ≤ length d → drop k (put d at s) ≡ drop k d
  unfolding put
  drop-put k d at s b h =
      let e : k ≡ at + length s + (k - (at + length s)) = omega arith in
      let j = k - (at + length s) in
      rw (e, ← drop-drop j (at + length s) (put d at s), ← drop-drop j (at + length s) d, drop_at (take at d ++ s) _ (at + length s) (length-head d at s h))

  -- ---- an element of a put

  pub get_or-put-in : (d : List A) (at : ℕ) (s : List A) (i : ℕ) (z : A) → i < length s → at ≤ length d → get_or (put d at s) (at + i) z ≡ get_or s i z
  get_or-put-in d at s i z b h = rw (← get_or-drop at (put d at s) i z, from-put d at s h) (get_or-append s _ z i b)

  pub get_or-put-before : (d : List A) (at : ℕ) (s : List A) (i : ℕ) (z : A) → i < at → at ≤ length d → get_or (put d at s) i z ≡ get_or d i z
  get_or-put-before d at s i z b h = sym (get_or-take at (put d at s) i z b) ∙ rw (take_put at d at s (omega arith) h) (get_or-take at d i z b)

  pub get_or-put-after : (d : List A) (at : ℕ) (s : List A) (i : ℕ) (z : A) → at + length s ≤ i → at ≤ length d → get_or (put d at s) i z ≡ get_or d i z
  get_or-put-after d at s i z b h =
      let q : get_or (drop i (put d at s)) 0 z ≡ get_or (drop i d) 0 z = rw (drop-put i d at s b h) in
      rw add-zero at (sym (get_or-drop i (put d at s) 0 z) ∙ q ∙ get_or-drop i d 0 z)

  -- ---- a part of a put: at its place, before it, after it, within it, and around it

  pub part-put_same : (n : ℕ) (d : List A) (at : ℕ) (s : List A) → length s ≡ n → at ≤ length d → part at n (put d at s) ≡ s
  unfolding part
  part-put_same n d at s e h = rw (from-put d at s h) (take_at s _ n e)

  pub part-put-before : (a n : ℕ) (d : List A) (at : ℕ) (s : List A) → a + n ≤ at → at ≤ length d → part a n (put d at s) ≡ part a n d
  part-put-before a n d at s b h = sym (part-take a n at (put d at s) b) ∙ rw (take_put at d at s (omega arith) h) (part-take a n at d b)

  pub part-put-after : (a n : ℕ) (d : List A) (at : ℕ) (s : List A) → at + length s ≤ a → at ≤ length d → part a n (put d at s) ≡ part a n d
  unfolding part
  part-put-after a n d at s b h = rw (drop-put a d at s b h)

  pub part-put-within : (i n : ℕ) (d : List A) (at : ℕ) (s : List A) → i + n ≤ length s → at ≤ length d → part (at + i) n (put d at s) ≡ part i n s
  unfolding part
  part-put-within i n d at s b h =
      rw (← drop-drop i at (put d at s), from-put d at s h) (part_left i n s _ b)

  pub part-put-around : (a n : ℕ) (d : List A) (i : ℕ) (s : List A) → i + length s ≤ n → a + n ≤ length d → part a n (put d (a + i) s) ≡ put (part a n d) i s
  unfolding put
  part-put-around a n d i s b h =
      let P = put d (a + i) s in
      rw (
        part_cut i a n P (omega arith),
        part_cut (length s) (a + i) (n - i) P (omega arith),
        part-put-before a i d (a + i) s (omega arith) (omega arith),
        part-put_same (length s) d (a + i) s refl (omega arith),
        part-put-after (a + i + length s) (n - i - length s) d (a + i) s (omega arith) (omega arith),
        take_part i a n d (omega arith),
        drop-part (i + length s) a n d (omega arith),
        append_assoc,
        add_assoc a i (length s),
        ← sub-add-eq n i (length s),
      )

  pub take-put-around : (k : ℕ) (d : List A) (at : ℕ) (s : List A) → at + length s ≤ k → k ≤ length d → take k (put d at s) ≡ put (take k d) at s
  unfolding part
  take-put-around k d at s b h = rw zero-add at (part-put-around 0 k d at s b (omega arith))

  -- ---- what is a put, and puts of puts

  -- a list is d with s laid in, if it is as d before and after, and s there
  pub put_is : (e d : List A) (at : ℕ) (s : List A) → take at e ≡ take at d → part at (length s) e ≡ s → drop (at + length s) e ≡ drop (at + length s) d → e ≡ put d at s
  unfolding put part
  put_is e d at s p q r =
      sym (take-append-drop at e)
      ∙ ap (λ (l : List A). take at e ++ l) (sym (take-append-drop (length s) (drop at e)))
      ∙ rw (p, q, drop-drop (length s) at e, r) (sym (append_assoc (take at d) s _))

  -- what is there already, laid in again
  pub put-part : (a n : ℕ) (d : List A) → a + n ≤ length d → put d a (part a n d) ≡ d
  put-part a n d h = sym (put_is d d a (part a n d) refl (rw (length_part a n d h)) refl)

  pub put_all : (d s : List A) → length s ≡ length d → put d 0 s ≡ s
  unfolding put
  put_all d s e = rw (zero-add, e, drop-length) (append-nil s)

  pub put-nil : (d : List A) (at : ℕ) → put d at [] ≡ d
  unfolding put
  put-nil d at = rw (add-zero, append-nil) (take-append-drop at d)

  -- over an earlier one that it covers
  pub put-put : (d : List A) (at : ℕ) (s t : List A) → length s ≤ length t → at ≤ length d → put (put d at s) at t ≡ put d at t
  unfolding put
  put-put d at s t b h = rw (take_put at d at s (omega arith) h, drop-put (at + length t) d at s (omega arith) h)

  -- one after the other
  pub put-append : (d : List A) (at : ℕ) (s t : List A) → at ≤ length d → put d at (s ++ t) ≡ put (put d at s) (at + length s) t
  unfolding put
  put-append d at s t h =
      rw (
        length-append,
        ← add_assoc at (length s) (length t),
        ← append_assoc (take at d) s t,
        take_at (take at d ++ s) _ (at + length s) (length-head d at s h),
        drop-put (at + length s + length t) d at s (omega arith) h,
      )

  -- at places apart, in either order
  pub put_comm : (d : List A) (at : ℕ) (s : List A) (b : ℕ) (t : List A) → at + length s ≤ b → b + length t ≤ length d → put (put d at s) b t ≡ put (put d b t) at s
  put_comm d at s b t p h =
      let X = put d b t in
      let l : length X ≡ length d = length-put d b t h in
      sym (put_is (put X at s) (put d at s) b t
      (rw (take-put-around b X at s p (omega arith), take_put b d b t (omega arith) (omega arith), take-put-around b d at s p (omega arith)))
      (rw (part-put-after b (length t) X at s p (omega arith)) (part-put_same (length t) d b t refl (omega arith)))
      (rw (
        drop-put (b + length t) X at s (omega arith) (omega arith),
        drop-put (b + length t) d at s (omega arith) (omega arith),
        drop-put (b + length t) d b t (omega arith) (omega arith),
      )))

  -- in a part that is laid back
  pub put-in-part : (a n : ℕ) (d : List A) (i : ℕ) (s : List A) → i + length s ≤ n → a + n ≤ length d → put d a (put (part a n d) i s) ≡ put d (a + i) s
  put-in-part a n d i s b h =
      let P = put d (a + i) s in
      let l : length (part a n P) ≡ n = length_part a n P (rw (length-put d (a + i) s (omega arith)) h) in
      rw (← part-put-around a n d i s b h)
      (sym (put_is P d a (part a n P) (take_put a d (a + i) s (omega arith) (omega arith)) (rw l) (rw l (drop-put (a + n) d (a + i) s (omega arith) (omega arith)))))

  -- ---- one element

  pub set-put : (l : List A) (i : ℕ) (v : A) → i < length l → set l i v ≡ put l i (v ∷ [])
  unfolding put
  set-put l i v h = rw (set_split l i v h, append_snoc, add-one)

  -- one more behind, and before, what is laid in
  pub put-snoc : (d : List A) (at : ℕ) (s : List A) (v : A) → at + length s < length d → set (put d at s) (at + length s) v ≡ put d at (s ++ (v ∷ []))
  put-snoc d at s v h =
      set-put (put d at s) (at + length s) v (rw (length-put d at s (omega arith)) h) ∙ sym (put-append d at s (v ∷ []) (omega arith))

  pub put-cons : (d : List A) (at : ℕ) (s : List A) (v : A) → at + 1 + length s ≤ length d → set (put d (at + 1) s) at v ≡ put d at (v ∷ s)
  put-cons d at s v h =
      set-put (put d (at + 1) s) at v (rw (length-put d (at + 1) s h) (omega arith))
      ∙ sym (put_comm d at (v ∷ []) (at + 1) s (omega arith) h)
      ∙ sym (put-append d at (v ∷ []) s (omega arith))

  -- ---- what a loan says, as a part and as a put

  -- `&s[a..a + n]`
  pub part-is : (a n : ℕ) (l : List A) → take n (drop a l) ≡ part a n l
  unfolding part
  part-is a n l = refl

  -- `&s[..n]`, and `&s[a..]`
  pub part-front : (n : ℕ) (l : List A) → take n l ≡ part 0 n l
  unfolding part
  part-front n l = refl

  pub part_back : (a : ℕ) (l : List A) → drop a l ≡ part a (length l - a) l
  unfolding part
  part_back a l = sym (take_all (length l - a) (drop a l) (simp length-drop (omega arith)))

  -- `&mut d[a..a + n]` comes back holding s: by its length, and by that of what was lent
  pub loan-put : (a n : ℕ) (d s : List A) → length s ≡ n → put_mid a n d s ≡ put d a s
  unfolding put
  loan-put a n d s e = rw (← e, drop-drop (length s) a d) (sym (append_assoc (take a d) s _))

  pub loan-kept : (a n : ℕ) (d s : List A) → length s ≡ length (take n (drop a d)) → a + n ≤ length d → put_mid a n d s ≡ put d a s
  unfolding part
  loan-kept a n d s e h = loan-put a n d s (e ∙ length_part a n d h)

  -- the same where s was laid into what was lent, from its place i, which is place p of d
  pub loan-put-in : (a n : ℕ) (d l : List A) (i p : ℕ) (s : List A) → l ≡ put (take n (drop a d)) i s → a + i ≡ p → i + length s ≤ n → a + n ≤ length d → put_mid a n d l ≡ put d p s
  unfolding part
  loan-put-in a n d l i p s e q b h =
      let k : length (part a n d) ≡ n = length_part a n d h in
      rw (e, ← q) (loan-put a n d (put (part a n d) i s) (length-put (part a n d) i s (omega arith) ∙ k) ∙ put-in-part a n d i s b h)

  -- `&mut d[..n]` comes back holding s, and with s laid in
  pub loan-front : (n : ℕ) (d s : List A) → length s ≡ n → s ++ drop n d ≡ put d 0 s
  unfolding put
  loan-front n d s e = rw (zero-add, e)

  pub loan-front-in : (n : ℕ) (d l : List A) (i : ℕ) (s : List A) → l ≡ put (take n d) i s → i + length s ≤ n → n ≤ length d → l ++ drop n d ≡ put d i s
  loan-front-in n d l i s e b h = loan-put-in 0 n d l i i s e (zero-add i) b (omega arith)

  -- two lists that are the same up to k and from k on
  pub same-around : (k : ℕ) (l m : List A) → take k l ≡ take k m → drop k l ≡ drop k m → l ≡ m
  same-around k l m p q = sym (take-append-drop k l) ∙ rw (p, q) (take-append-drop k m)

  -- a part of what two lists share at the front, and at the back
  pub part_of-front : (a n m : ℕ) (l k : List A) → take m l ≡ take m k → a + n ≤ m → part a n l ≡ part a n k
  part_of-front a n m l k e h = sym (part-take a n m l h) ∙ ap (part a n) e ∙ part-take a n m k h

  pub part_of_back : (a n m : ℕ) (l k : List A) → drop m l ≡ drop m k → m ≤ a → part a n l ≡ part a n k
  part_of_back a n m l k e h =
      let q : m + (a - m) ≡ a = omega arith in
      rw q at (sym (part-drop (a - m) n m l) ∙ ap (part (a - m) n) e ∙ part-drop (a - m) n m k)

  -- shorter fronts, and longer backs, are the same
  pub shorter-front : (k m : ℕ) (l d : List A) → k ≤ m → take m l ≡ take m d → take k l ≡ take k d
  shorter-front k m l d h e = sym (take-take k m l h) ∙ ap (take k) e ∙ take-take k m d h

  pub shorter_back : (k m : ℕ) (l d : List A) → k ≤ m → drop k l ≡ drop k d → drop m l ≡ drop m d
  shorter_back k m l d h e =
      let q : k + (m - k) ≡ m = omega arith in
      rw q at (sym (drop-drop (m - k) k l) ∙ ap (drop (m - k)) e ∙ drop-drop (m - k) k d)

  -- a list that has the front of another is as long as that front
  pub front_length : (m : ℕ) (l d : List A) → take m d ≡ take m l → m ≤ length l → m ≤ length d
  front_length m l d e h =
      let p : length (take m d) ≡ m = ap length e ∙ length-take-le m l h in
      let q = length-take m d in
      omega arith
