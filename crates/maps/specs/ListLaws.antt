-- The laws of the functions on lists. Tests and lists are written out, and what is known of them comes last.
-- Assumes nothing.
use Rattle.std.specs.Prelude.{Bool, ◌&&◌, ◌||◌, ◌≡◌, get_or}
use Rattle.std.proofs.Math.Bool.{true, false, cond, not, and_assoc, or_assoc, and_comm}
use Rattle.std.proofs.lemmas.Bool.{false≢true}
use mathlib.Core.List.{List, [], ◌∷◌, ◌++◌, map}
use Rattle.std.specs.Prelude.{Option, None, Some}
use Rattle.std.proofs.lemmas.Option.{same_Some, none-some}
use Rattle.std.proofs.Math.Path.{refl}
use Rattle.std.proofs.Common.{sym, ap, ◌∙◌}
use Prim.Native.Nat.{ℕ, zero, suc, ◌+◌, ◌≤◌, ◌<◌}
use Rattle.std.proofs.Math.Nat.{add-zero}
use native.Mathlib.Omega.{arith}
use Rattle.std.proofs.Math.ListN.{length}
use Rattle.maps.specs.Lists.{select, front, rest, any, every, sum, first, last, find_from, map_option, or_else}
use Rattle.maps.specs.OrderLaws.{split, and_both}

-- a value is no absent one (`none-some` the other way)
pub some-none : {A : Type 0} (x : A) → Some x ≡ None → ⊥
some-none x e = none-some x (sym e)

module _ {A : Type 0} where
  -- ---- every, any

  pub every_append : (p : A → Bool) (xs ys : List A) → every p (xs ++ ys) ≡ (every p xs && every p ys)
  unfolding every
  every_append p [] ys = refl
  every_append p (x ∷ xs) ys = rw (every_append p xs ys) (sym (and_assoc (p x) (every p xs) (every p ys)))

  pub any_append : (p : A → Bool) (xs ys : List A) → any p (xs ++ ys) ≡ (any p xs || any p ys)
  unfolding any
  any_append p [] ys = refl
  any_append p (x ∷ xs) ys = rw (any_append p xs ys) (sym (or_assoc (p x) (any p xs) (any p ys)))

  pub every-head : (p : A → Bool) (x : A) (xs : List A) → every p (x ∷ xs) ≡ true → p x ≡ true
  unfolding every
  every-head p x xs h = and_both (p x) (every p xs) h (λ a b. a)

  pub every-tail : (p : A → Bool) (x : A) (xs : List A) → every p (x ∷ xs) ≡ true → every p xs ≡ true
  unfolding every
  every-tail p x xs h = and_both (p x) (every p xs) h (λ a b. b)

  pub every-cons : (p : A → Bool) (x : A) (xs : List A) → p x ≡ true → every p xs ≡ true → every p (x ∷ xs) ≡ true
  unfolding every
  every-cons p x xs e h = rw e h

  -- a test that follows from another
  pub every-from : (p q : A → Bool) (xs : List A) → ((x : A) → p x ≡ true → q x ≡ true) → every p xs ≡ true → every q xs ≡ true
  unfolding every
  every-from p q [] f h = refl
  every-from p q (x ∷ xs) f h = and_both (p x) (every p xs) h (λ a b. rw (f x a) (every-from p q xs f b))

  pub every_all : (p : A → Bool) (xs : List A) → ((x : A) → p x ≡ true) → every p xs ≡ true
  unfolding every
  every_all p [] f = refl
  every_all p (x ∷ xs) f = rw (f x) (every_all p xs f)

  pub every_and : (p q : A → Bool) (xs : List A) → every p xs ≡ true → every q xs ≡ true → every (λ x. p x && q x) xs ≡ true
  unfolding every
  every_and p q [] h k = refl
  every_and p q (x ∷ xs) h k = and_both (p x) (every p xs) h (λ a b. and_both (q x) (every q xs) k (λ c d. rw (a, c) (every_and p q xs b d)))

  -- an element at its place
  pub every-get_or : (p : A → Bool) (xs : List A) (i : ℕ) (z : A) → every p xs ≡ true → i < length xs → p (get_or xs i z) ≡ true
  every-get_or p [] i z h l = absurd (omega arith)
  every-get_or p (x ∷ xs) zero z h l = every-head p x xs h
  every-get_or p (x ∷ xs) (suc i) z h l = every-get_or p xs i z (every-tail p x xs h) (omega arith)

  pub every_intro-get_or : (p : A → Bool) (xs : List A) (z : A) → ((i : ℕ) → i < length xs → p (get_or xs i z) ≡ true) → every p xs ≡ true
  unfolding every
  every_intro-get_or p [] z f = refl
  every_intro-get_or p (x ∷ xs) z f = rw (f 0 (omega arith)) (every_intro-get_or p xs z (λ i l. f (suc i) (omega arith)))

  -- none meets it: all fail it
  pub any_none : (p : A → Bool) (xs : List A) → any p xs ≡ not (every (λ x. not (p x)) xs)
  unfolding any every
  any_none p [] = refl
  any_none p (x ∷ xs) = split (p x) (λ e. rw e) (λ e. rw e (any_none p xs))

  -- ---- select

  pub select-append : (p : A → Bool) (xs ys : List A) → select p (xs ++ ys) ≡ select p xs ++ select p ys
  unfolding select
  select-append p [] ys = refl
  select-append p (x ∷ xs) ys = split (p x) (λ e. rw e (ap (λ z. x ∷ z) (select-append p xs ys))) (λ e. rw e (select-append p xs ys))

  pub select-select : (p q : A → Bool) (xs : List A) → select p (select q xs) ≡ select (λ x. q x && p x) xs
  unfolding select
  select-select p q [] = refl
  select-select p q (x ∷ xs) =
      split (q x)
      (λ e. split (p x) (λ f. rw (e, f) (ap (λ z. x ∷ z) (select-select p q xs))) (λ f. rw (e, f) (select-select p q xs)))
      (λ e. rw e (select-select p q xs))

  -- tests that agree on the list
  pub select-ext : (p q : A → Bool) (xs : List A) → every (λ x. cond (p x) (q x) (not (q x))) xs ≡ true → select p xs ≡ select q xs
  unfolding select every
  select-ext p q [] h = refl
  select-ext p q (x ∷ xs) h =
      and_both (cond (p x) (q x) (not (q x))) (every (λ x. cond (p x) (q x) (not (q x))) xs) h
      (λ a b. split (p x)
      (λ e. let f : q x ≡ true = rw e at a in rw (e, f) (ap (λ z. x ∷ z) (select-ext p q xs b)))
      (λ e. split (q x)
      (λ f. absurd (false≢true (rw (e, f) at a)))
      (λ f. rw (e, f) (select-ext p q xs b))))

  -- tests that agree everywhere
  pub select_same : (p q : A → Bool) (xs : List A) → ((x : A) → p x ≡ q x) → select p xs ≡ select q xs
  unfolding select
  select_same p q [] f = refl
  select_same p q (x ∷ xs) f = rw (f x, select_same p q xs f)

  pub select_comm : (p q : A → Bool) (xs : List A) → select p (select q xs) ≡ select q (select p xs)
  select_comm p q xs =
      select-select p q xs ∙ select_same (λ x. q x && p x) (λ x. p x && q x) xs (λ x. and_comm (q x) (p x)) ∙ sym (select-select q p xs)

  pub select_all : (p : A → Bool) (xs : List A) → every p xs ≡ true → select p xs ≡ xs
  unfolding select
  select_all p [] h = refl
  select_all p (x ∷ xs) h = rw (every-head p x xs h) (ap (λ z. x ∷ z) (select_all p xs (every-tail p x xs h)))

  pub select-none : (p : A → Bool) (xs : List A) → every (λ x. not (p x)) xs ≡ true → select p xs ≡ []
  unfolding select every
  select-none p [] h = refl
  select-none p (x ∷ xs) h =
      and_both (not (p x)) (every (λ x. not (p x)) xs) h
      (λ a b. split (p x) (λ e. absurd (false≢true (rw e at a))) (λ e. rw e (select-none p xs b)))

  pub every-select : (p : A → Bool) (xs : List A) → every p (select p xs) ≡ true
  unfolding select every
  every-select p [] = refl
  every-select p (x ∷ xs) = split (p x) (λ e. rw (e, e) (every-select p xs)) (λ e. rw e (every-select p xs))

  -- what all meet, the selected meet
  pub every-selected : (p q : A → Bool) (xs : List A) → every p xs ≡ true → every p (select q xs) ≡ true
  unfolding select every
  every-selected p q [] h = refl
  every-selected p q (x ∷ xs) h =
      and_both (p x) (every p xs) h
      (λ a b. split (q x) (λ e. rw (e, a) (every-selected p q xs b)) (λ e. rw e (every-selected p q xs b)))

  pub length-select : (p : A → Bool) (xs : List A) → length (select p xs) ≤ length xs
  unfolding select
  length-select p [] = omega arith
  length-select p (x ∷ xs) =
      let ih = length-select p xs in
      split (p x) (λ e. rw e (omega arith)) (λ e. rw e (omega arith))

  -- what meets it, and what fails it
  pub length-select-not : (p : A → Bool) (xs : List A) → length (select p xs) + length (select (λ x. not (p x)) xs) ≡ length xs
  unfolding select
  length-select-not p [] = refl
  length-select-not p (x ∷ xs) =
      let ih = length-select-not p xs in
      split (p x) (λ e. rw e (omega arith)) (λ e. rw e (omega arith))

  -- how many are selected, as a sum
  pub length-select-sum : (p : A → Bool) (xs : List A) → length (select p xs) ≡ sum (λ x. cond (p x) 1 0) xs
  unfolding select sum
  length-select-sum p [] = refl
  length-select-sum p (x ∷ xs) =
      let ih = length-select-sum p xs in
      split (p x) (λ e. rw e (omega arith)) (λ e. rw e (omega arith))

  -- ---- sum

  pub sum-append : (f : A → ℕ) (xs ys : List A) → sum f (xs ++ ys) ≡ sum f xs + sum f ys
  unfolding sum
  sum-append f [] ys = omega arith
  sum-append f (x ∷ xs) ys = let ih = sum-append f xs ys in omega arith

  pub sum_same : (f g : A → ℕ) (xs : List A) → ((x : A) → f x ≡ g x) → sum f xs ≡ sum g xs
  unfolding sum
  sum_same f g [] e = refl
  sum_same f g (x ∷ xs) e = rw (e x, sum_same f g xs e)

  pub sum-add : (f g : A → ℕ) (xs : List A) → sum (λ x. f x + g x) xs ≡ sum f xs + sum g xs
  unfolding sum
  sum-add f g [] = refl
  sum-add f g (x ∷ xs) = let ih = sum-add f g xs in omega arith

  pub sum-le : (f g : A → ℕ) (xs : List A) → ((x : A) → f x ≤ g x) → sum f xs ≤ sum g xs
  unfolding sum
  sum-le f g [] h = omega arith
  sum-le f g (x ∷ xs) h = let ih = sum-le f g xs h in let l = h x in omega arith

  -- over what meets a test, and what fails it
  pub sum-select-not : (p : A → Bool) (f : A → ℕ) (xs : List A) → sum f (select p xs) + sum f (select (λ x. not (p x)) xs) ≡ sum f xs
  unfolding select sum
  sum-select-not p f [] = refl
  sum-select-not p f (x ∷ xs) =
      let ih = sum-select-not p f xs in
      split (p x) (λ e. rw e (omega arith)) (λ e. rw e (omega arith))

  pub sum_one : (xs : List A) → sum (λ x. 1) xs ≡ length xs
  unfolding sum
  sum_one [] = refl
  sum_one (x ∷ xs) = let ih = sum_one xs in omega arith

  -- ---- front, rest

  pub front_rest : (p : A → Bool) (xs : List A) → front p xs ++ rest p xs ≡ xs
  unfolding front rest
  front_rest p [] = refl
  front_rest p (x ∷ xs) = split (p x) (λ e. rw e (ap (λ z. x ∷ z) (front_rest p xs))) (λ e. rw e)

  pub every_front : (p : A → Bool) (xs : List A) → every p (front p xs) ≡ true
  unfolding front every
  every_front p [] = refl
  every_front p (x ∷ xs) = split (p x) (λ e. rw (e, e) (every_front p xs)) (λ e. rw e)

  pub front-append : (p : A → Bool) (xs ys : List A) → every p xs ≡ true → front p (xs ++ ys) ≡ xs ++ front p ys
  unfolding front
  front-append p [] ys h = refl
  front-append p (x ∷ xs) ys h = rw (every-head p x xs h) (ap (λ z. x ∷ z) (front-append p xs ys (every-tail p x xs h)))

  pub rest-append : (p : A → Bool) (xs ys : List A) → every p xs ≡ true → rest p (xs ++ ys) ≡ rest p ys
  unfolding rest
  rest-append p [] ys h = refl
  rest-append p (x ∷ xs) ys h = rw (every-head p x xs h) (rest-append p xs ys (every-tail p x xs h))

  pub front_stop : (p : A → Bool) (y : A) (ys : List A) → p y ≡ false → front p (y ∷ ys) ≡ []
  unfolding front
  front_stop p y ys e = rw e

  pub rest_stop : (p : A → Bool) (y : A) (ys : List A) → p y ≡ false → rest p (y ∷ ys) ≡ y ∷ ys
  unfolding rest
  rest_stop p y ys e = rw e

  -- ---- first, last

  pub first-append : (x : A) (xs ys : List A) → first ((x ∷ xs) ++ ys) ≡ Some x
  unfolding first
  first-append x xs ys = refl

  pub first-get_or : (xs : List A) (z : A) → 0 < length xs → first xs ≡ Some (get_or xs 0 z)
  unfolding first
  first-get_or [] z l = absurd (omega arith)
  first-get_or (x ∷ xs) z l = refl

  pub last-append : (xs : List A) (y : A) (ys : List A) → last (xs ++ (y ∷ ys)) ≡ last (y ∷ ys)
  unfolding last
  last-append [] y ys = refl
  last-append (x ∷ []) y ys = refl
  last-append (x ∷ (w ∷ xs)) y ys = last-append (w ∷ xs) y ys

  pub last_snoc : (xs : List A) (y : A) → last (xs ++ (y ∷ [])) ≡ Some y
  unfolding last
  last_snoc xs y = last-append xs y []

  pub last-get_or : (xs : List A) (i : ℕ) (z : A) → length xs ≡ suc i → last xs ≡ Some (get_or xs i z)
  unfolding last
  last-get_or [] i z e = absurd (omega arith)
  last-get_or (x ∷ []) zero z e = refl
  last-get_or (x ∷ []) (suc i) z e = absurd (omega arith)
  last-get_or (x ∷ (y ∷ ys)) zero z e = absurd (omega arith)
  last-get_or (x ∷ (y ∷ ys)) (suc i) z e = last-get_or (y ∷ ys) i z (omega arith)

  -- ---- find_from

  -- nothing found: no element meets it at its place
  pub find_from-none : (p : ℕ → A → Bool) (i : ℕ) (xs : List A) (j : ℕ) (z : A) → find_from p i xs ≡ None → j < length xs → p (i + j) (get_or xs j z) ≡ false
  unfolding find_from
  find_from-none p i [] j z e l = absurd (omega arith)
  find_from-none p i (x ∷ xs) zero z e l = split (p i x) (λ s. absurd (some-none _ (rw s at e))) (λ s. rw add-zero s)
  find_from-none p i (x ∷ xs) (suc j) z e l =
      let q : i + suc j ≡ suc i + j = omega arith in
      split (p i x) (λ s. absurd (some-none _ (rw s at e))) (λ s. rw q (find_from-none p (suc i) xs j z (rw s at e) (omega arith)))

  pub find_from-none_if : (p : ℕ → A → Bool) (i : ℕ) (xs : List A) (z : A) → ((j : ℕ) → j < length xs → p (i + j) (get_or xs j z) ≡ false) → find_from p i xs ≡ None
  unfolding find_from
  find_from-none_if p i [] z f = refl
  find_from-none_if p i (x ∷ xs) z f =
      let s : p i x ≡ false = rw add-zero at (f 0 (omega arith)) in
      rw s (find_from-none_if p (suc i) xs z (λ j l. let q : suc i + j ≡ i + suc j = omega arith in rw q (f (suc j) (omega arith))))

  -- j is the first place, counted from i, that meets it: the element n of the list
  pub record FirstAt (p : ℕ → A → Bool) (i : ℕ) (xs : List A) (z : A) (j : ℕ) : Type 0 where
    pub n : ℕ
    pub place : j ≡ i + n
    pub inside : n < length xs
    pub meets : p j (get_or xs n z) ≡ true
    pub earlier : (m : ℕ) → m < n → p (i + m) (get_or xs m z) ≡ false

  first_next : (p : ℕ → A → Bool) (i : ℕ) (x : A) (xs : List A) (z : A) (j : ℕ) → p i x ≡ false → FirstAt p (suc i) xs z j → FirstAt p i (x ∷ xs) z j
  first_next p i x xs z j s r =
      record {
        n = suc r.n;
        place = omega (arith, r.place);
        inside = omega (arith, r.inside);
        meets = r.meets;
        earlier = before;
      }
    where
      before : (m : ℕ) → m < suc r.n → p (i + m) (get_or (x ∷ xs) m z) ≡ false
      before zero l = rw add-zero s
      before (suc m) l = let q : i + suc m ≡ suc i + m = omega arith in rw q (r.earlier m (omega arith))

  pub find_from-some : (p : ℕ → A → Bool) (i : ℕ) (xs : List A) (z : A) (j : ℕ) → find_from p i xs ≡ Some j → FirstAt p i xs z j
  unfolding find_from
  find_from-some p i [] z j e = absurd (none-some _ e)
  find_from-some p i (x ∷ xs) z j e =
      split (p i x)
      (λ s.
      let q : i ≡ j = same_Some _ _ (rw s at e) in
      record { n = 0; place = omega arith; inside = omega arith; meets = rw (← q) s; earlier = λ m l. absurd (omega arith) })
      (λ s. first_next p i x xs z j s (find_from-some p (suc i) xs z j (rw s at e)))

  pub find_from-some_if : (p : ℕ → A → Bool) (i : ℕ) (xs : List A) (z : A) (n : ℕ) → n < length xs → p (i + n) (get_or xs n z) ≡ true → ((m : ℕ) → m < n → p (i + m) (get_or xs m z) ≡ false) → find_from p i xs ≡ Some (i + n)
  unfolding find_from
  find_from-some_if p i [] z n l t f = absurd (omega arith)
  find_from-some_if p i (x ∷ xs) z zero l t f = let s : p i x ≡ true = rw add-zero at t in rw (s, add-zero)
  find_from-some_if p i (x ∷ xs) z (suc n) l t f =
      let s : p i x ≡ false = rw add-zero at (f 0 (omega arith)) in
      let q : i + suc n ≡ suc i + n = omega arith in
      rw (s, q) (find_from-some_if p (suc i) xs z n (omega arith) (rw q at t)
      (λ m b. let r : suc i + m ≡ i + suc m = omega arith in rw r (f (suc m) (omega arith))))

  pub find_from-append : (p : ℕ → A → Bool) (i : ℕ) (xs ys : List A) → find_from p i (xs ++ ys) ≡ or_else (find_from p (i + length xs) ys) Some (find_from p i xs)
  unfolding find_from or_else
  find_from-append p i [] ys = rw add-zero
  find_from-append p i (x ∷ xs) ys =
      let q : i + suc (length xs) ≡ suc i + length xs = omega arith in
      split (p i x) (λ s. rw s) (λ s. rw (s, q) (find_from-append p (suc i) xs ys))

  pub find_from_same : (p q : ℕ → A → Bool) (i : ℕ) (xs : List A) → ((j : ℕ) (x : A) → p j x ≡ q j x) → find_from p i xs ≡ find_from q i xs
  unfolding find_from
  find_from_same p q i [] f = refl
  find_from_same p q i (x ∷ xs) f = rw (f i x, find_from_same p q (suc i) xs f)

  -- some element meets it or none does
  pub find_from_any : (p : A → Bool) (i : ℕ) (xs : List A) → any p xs ≡ or_else false (λ j. true) (find_from (λ j x. p x) i xs)
  unfolding any find_from or_else
  find_from_any p i [] = refl
  find_from_any p i (x ∷ xs) = split (p x) (λ s. rw s) (λ s. rw s (find_from_any p (suc i) xs))

module _ {A B : Type 0} where
  -- ---- of mapped lists

  pub every_map : (p : B → Bool) (f : A → B) (xs : List A) → every p (map f xs) ≡ every (λ x. p (f x)) xs
  unfolding every
  every_map p f [] = refl
  every_map p f (x ∷ xs) = rw (every_map p f xs)

  pub sum-map : (g : B → ℕ) (f : A → B) (xs : List A) → sum g (map f xs) ≡ sum (λ x. g (f x)) xs
  unfolding sum
  sum-map g f [] = refl
  sum-map g f (x ∷ xs) = rw (sum-map g f xs)

  pub select-map : (p : B → Bool) (f : A → B) (xs : List A) → select p (map f xs) ≡ map f (select (λ x. p (f x)) xs)
  unfolding select
  select-map p f [] = refl
  select-map p f (x ∷ xs) = split (p (f x)) (λ e. rw e (ap (λ z. f x ∷ z) (select-map p f xs))) (λ e. rw e (select-map p f xs))

  pub first-map : (f : A → B) (xs : List A) → first (map f xs) ≡ map_option f (first xs)
  unfolding first map_option
  first-map f [] = refl
  first-map f (x ∷ xs) = refl

  pub last-map : (f : A → B) (xs : List A) → last (map f xs) ≡ map_option f (last xs)
  unfolding last map_option
  last-map f [] = refl
  last-map f (x ∷ []) = refl
  last-map f (x ∷ (y ∷ ys)) = last-map f (y ∷ ys)

  -- ---- an option's value

  pub map_option-none : (f : A → B) (x : Option A) → map_option f x ≡ None → x ≡ None
  unfolding map_option
  map_option-none f None e = refl
  map_option-none f (Some a) e = absurd (some-none _ e)

  pub or_else_const : (d : B) (x : Option A) → or_else d (λ a. d) x ≡ d
  unfolding or_else
  or_else_const d None = refl
  or_else_const d (Some a) = refl
