-- What a map asks of the order of its keys, proved of the two orders that the rules use.
-- Assumes nothing.
use Rattle.std.specs.Prelude.{Bool, true, false, ◌&&◌, ◌||◌, List, [], ◌∷◌, ◌≡◌, refl, ℕ, ◌<◌, ltb, eqb}
use Rattle.std.proofs.Common.{true≢false, sym, ◌∙◌, arith, ltb-true, ltb-false, eqb-true, lt-ltb, le-ltb, eq-eqb}
use Rattle.std.proofs.lemmas.Bool.{false≢true, eqb-false}
use Rattle.maps.specs.Maps.{Order, numbers, bytes, equal_bytes, bytes_below}

-- by the two values of a test
pub split : {P : Type 0} (b : Bool) → (b ≡ true → P) → (b ≡ false → P) → P
split true f g = f refl
split false f g = g refl

-- the parts of two tests that pass together
pub and_both : {P : Type 0} (a b : Bool) → (a && b) ≡ true → (a ≡ true → b ≡ true → P) → P
and_both true b e f = f refl e
and_both false b e f = absurd (false≢true e)

-- equal keys are one key, and the keys stand in a row
pub record Lawful {K : Type 0} (o : Order K) : Type 0 where
  pub same-eq : (k j : K) → o.same k j ≡ true → k ≡ j
  pub same_refl : (k : K) → o.same k k ≡ true
  pub below-not : (k : K) → o.below k k ≡ false
  pub below-trans : (k j l : K) → o.below k j ≡ true → o.below j l ≡ true → o.below k l ≡ true
  pub below-else : (k j : K) → o.same k j ≡ false → o.below k j ≡ false → o.below j k ≡ true

module _ {K : Type 0} (o : Order K) (law : Lawful o) where
  -- by the three ways in which two keys can stand
  pub three : {P : Type 0} (k j : K) → (o.same k j ≡ true → k ≡ j → P) → (o.same k j ≡ false → o.below k j ≡ true → P) → (o.same k j ≡ false → o.below k j ≡ false → o.below j k ≡ true → P) → P
  three k j f g h =
      split (o.same k j) (λ e. f e (law.same-eq k j e)) (λ e. split (o.below k j) (λ b. g e b) (λ b. h e b (law.below-else k j e b)))

  pub below-differs : (k j : K) → o.below k j ≡ true → o.same k j ≡ false
  below-differs k j b =
      split (o.same k j) (λ e. absurd (true≢false (sym b ∙ rw (law.same-eq k j e) (law.below-not j)))) (λ e. e)

  pub same_sym : (k j : K) → o.same k j ≡ false → o.same j k ≡ false
  same_sym k j n =
      split (o.same j k) (λ e. absurd (true≢false (sym (law.same_refl k) ∙ rw (law.same-eq j k e) at n))) (λ e. e)

  pub above-differs : (k j : K) → o.below k j ≡ true → o.same j k ≡ false
  above-differs k j b = same_sym k j (below-differs k j b)

  pub below-not_back : (k j : K) → o.below k j ≡ true → o.below j k ≡ false
  below-not_back k j b =
      split (o.below j k) (λ e. absurd (true≢false (sym (law.below-trans k j k b e) ∙ law.below-not k))) (λ e. e)

pub numbers_lawful : Lawful numbers
numbers_lawful =
    record {
      same-eq = λ k j e. eqb-true k j e;
      same_refl = λ k. eq-eqb k k refl;
      below-not = λ k. le-ltb k k (omega arith);
      below-trans = λ k j l p q. let a = ltb-true k j p in let b = ltb-true j l q in lt-ltb k l (omega arith);
      below-else = λ k j e n. let a = eqb-false k j e in let b = ltb-false k j n in lt-ltb j k (omega arith);
    }

-- what a first difference says
either : {P : Type 0} (a b c : Bool) → (a || (b && c)) ≡ true → (a ≡ true → P) → (b ≡ true → c ≡ true → P) → P
either true b c e f g = f refl
either false true c e f g = g refl e
either false false c e f g = absurd (false≢true e)

neither : {P : Type 0} (a b c : Bool) → (a || (b && c)) ≡ false → (a ≡ false → b ≡ false → P) → (a ≡ false → c ≡ false → P) → P
neither true b c e f g = absurd (true≢false e)
neither false true c e f g = g refl e
neither false false c e f g = f refl refl

same_bytes-eq : (k j : List ℕ) → equal_bytes k j ≡ true → k ≡ j
unfolding equal_bytes
same_bytes-eq [] [] e = refl
same_bytes-eq [] (y ∷ ys) e = absurd (false≢true e)
same_bytes-eq (x ∷ xs) [] e = absurd (false≢true e)
same_bytes-eq (x ∷ xs) (y ∷ ys) e = and_both (eqb x y) (equal_bytes xs ys) e (λ p q. λ i. eqb-true x y p i ∷ same_bytes-eq xs ys q i)

same_bytes-refl : (k : List ℕ) → equal_bytes k k ≡ true
unfolding equal_bytes
same_bytes-refl [] = refl
same_bytes-refl (x ∷ xs) = rw (eq-eqb x x refl) (same_bytes-refl xs)

bytes_below-not : (k : List ℕ) → bytes_below k k ≡ false
unfolding bytes_below
bytes_below-not [] = refl
bytes_below-not (x ∷ xs) = rw (le-ltb x x (omega arith), eq-eqb x x refl) (bytes_below-not xs)

bytes_below-first : (x y : ℕ) (xs ys : List ℕ) → x < y → bytes_below (x ∷ xs) (y ∷ ys) ≡ true
unfolding bytes_below
bytes_below-first x y xs ys l = rw (lt-ltb x y l)

bytes_below-next : (x y : ℕ) (xs ys : List ℕ) → x ≡ y → bytes_below xs ys ≡ true → bytes_below (x ∷ xs) (y ∷ ys) ≡ true
unfolding bytes_below
bytes_below-next x y xs ys e b = rw (le-ltb x y (omega arith), eq-eqb x y e) b

bytes_below-trans : (k j l : List ℕ) → bytes_below k j ≡ true → bytes_below j l ≡ true → bytes_below k l ≡ true
unfolding bytes_below
bytes_below-trans [] [] l p q = absurd (false≢true p)
bytes_below-trans [] (y ∷ ys) [] p q = q
bytes_below-trans [] (y ∷ ys) (z ∷ zs) p q = refl
bytes_below-trans (x ∷ xs) [] l p q = absurd (false≢true p)
bytes_below-trans (x ∷ xs) (y ∷ ys) [] p q = q
bytes_below-trans (x ∷ xs) (y ∷ ys) (z ∷ zs) p q =
    either (ltb x y) (eqb x y) (bytes_below xs ys) p
    (λ a. either (ltb y z) (eqb y z) (bytes_below ys zs) q
    (λ b. bytes_below-first x z xs zs (omega (arith, ltb-true x y a, ltb-true y z b)))
    (λ b d. bytes_below-first x z xs zs (omega (arith, ltb-true x y a, eqb-true y z b))))
    (λ a c. either (ltb y z) (eqb y z) (bytes_below ys zs) q
    (λ b. bytes_below-first x z xs zs (omega (arith, eqb-true x y a, ltb-true y z b)))
    (λ b d. bytes_below-next x z xs zs (omega (arith, eqb-true x y a, eqb-true y z b)) (bytes_below-trans xs ys zs c d)))

bytes_below-else : (k j : List ℕ) → equal_bytes k j ≡ false → bytes_below k j ≡ false → bytes_below j k ≡ true
unfolding equal_bytes bytes_below
bytes_below-else [] [] e n = absurd (true≢false e)
bytes_below-else [] (y ∷ ys) e n = absurd (true≢false n)
bytes_below-else (x ∷ xs) [] e n = refl
bytes_below-else (x ∷ xs) (y ∷ ys) e n =
    split (eqb x y)
    (λ a. neither (ltb x y) (eqb x y) (bytes_below xs ys) n
    (λ b c. absurd (true≢false (sym a ∙ c)))
    (λ b c. bytes_below-next y x ys xs (sym (eqb-true x y a)) (bytes_below-else xs ys (rw a at e) c)))
    (λ a. neither (ltb x y) (eqb x y) (bytes_below xs ys) n
    (λ b c. bytes_below-first y x ys xs (let f = eqb-false x y a in let g = ltb-false x y b in omega arith))
    (λ b c. bytes_below-first y x ys xs (let f = eqb-false x y a in let g = ltb-false x y b in omega arith)))

pub bytes_lawful : Lawful bytes
bytes_lawful =
    record {
      same-eq = λ k j e. same_bytes-eq k j e;
      same_refl = λ k. same_bytes-refl k;
      below-not = λ k. bytes_below-not k;
      below-trans = λ k j l p q. bytes_below-trans k j l p q;
      below-else = λ k j e n. bytes_below-else k j e n;
    }
