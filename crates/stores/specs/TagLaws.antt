-- The laws of tagged items. Assumes nothing.
use Rattle.std.specs.Prelude.{Bool, true, false, not, ◌&&◌, ◌≡◌, refl, List, [], ◌∷◌, ◌++◌, map, ℕ, zero, suc, ◌≤◌, ◌<◌, eqb, length, get_or, set, drop}
use Rattle.std.proofs.Common.{sym, ap, ◌∙◌, append-nil, arith, eq-eqb, ne_eqb, eqb-true, length-set, drop_of_length-le, get_or-set_same, drop-cons}
use Rattle.std.proofs.lemmas.List.{map-append}
use Rattle.maps.specs.Lists.{select}
use Rattle.maps.specs.ListLaws.{select-append, select-select, select_same, select-none, every_all}
use Rattle.maps.specs.BoolLaws.{and-false}
use Rattle.maps.specs.OrderLaws.{split}
use Rattle.rules.specs.Items as rules
use Rattle.stores.specs.Tags.{Tagged, tagged, has_tag, has_other, items_with}

pub length-tagged : (ts : List ℕ) (xs : List rules.LogItem) → length xs ≤ length ts → length (tagged ts xs) ≡ length xs
unfolding tagged
length-tagged ts [] h = refl
length-tagged [] (x ∷ xs) h = absurd (omega arith)
length-tagged (t ∷ ts) (x ∷ xs) h = ap suc (length-tagged ts xs (omega arith))

-- the items themselves
pub items-tagged : (ts : List ℕ) (xs : List rules.LogItem) → length xs ≤ length ts → map (λ (x : Tagged). x.item) (tagged ts xs) ≡ xs
unfolding tagged
items-tagged ts [] h = refl
items-tagged [] (x ∷ xs) h = absurd (omega arith)
items-tagged (t ∷ ts) (x ∷ xs) h = ap (λ l. x ∷ l) (items-tagged ts xs (omega arith))

-- item j with its tag
pub tagged_at : (ts : List ℕ) (xs : List rules.LogItem) (j : ℕ) (z : Tagged) (y : rules.LogItem) → j < length xs → length xs ≤ length ts → get_or (tagged ts xs) j z ≡ record { tag = get_or ts j 0; item = get_or xs j y }
unfolding tagged
tagged_at ts [] j z y h l = absurd (omega arith)
tagged_at [] (x ∷ xs) j z y h l = absurd (omega arith)
tagged_at (t ∷ ts) (x ∷ xs) zero z y h l = refl
tagged_at (t ∷ ts) (x ∷ xs) (suc j) z y h l = tagged_at ts xs j z y (omega arith) (omega arith)

-- one item more
pub tagged-snoc : (ts : List ℕ) (xs : List rules.LogItem) (x : rules.LogItem) → length xs < length ts → tagged ts (xs ++ (x ∷ [])) ≡ tagged ts xs ++ (record { tag = get_or ts (length xs) 0; item = x } ∷ [])
unfolding tagged
tagged-snoc [] [] x h = absurd (omega arith)
tagged-snoc (t ∷ ts) [] x h = refl
tagged-snoc [] (y ∷ xs) x h = absurd (omega arith)
tagged-snoc (t ∷ ts) (y ∷ xs) x h = ap (λ l. record { tag = t; item = y } ∷ l) (tagged-snoc ts xs x (omega arith))

-- a tag behind the items
pub tagged-set : (ts : List ℕ) (xs : List rules.LogItem) (k t : ℕ) → length xs ≤ k → tagged (set ts k t) xs ≡ tagged ts xs
unfolding tagged
tagged-set ts [] k t h = refl
tagged-set [] (x ∷ xs) k t h = refl
tagged-set (u ∷ ts) (x ∷ xs) zero t h = absurd (omega arith)
tagged-set (u ∷ ts) (x ∷ xs) (suc k) t h = ap (λ l. record { tag = u; item = x } ∷ l) (tagged-set ts xs k t (omega arith))

-- a pushed item with its tag
pub tagged-push : (ts : List ℕ) (xs : List rules.LogItem) (n : ℕ) (x : rules.LogItem) (t : ℕ) → length xs ≡ n → n < length ts → tagged (set ts n t) (xs ++ (x ∷ [])) ≡ tagged ts xs ++ (record { tag = t; item = x } ∷ [])
tagged-push ts xs n x t e h =
    let k = length-set ts n t in
    rw (tagged-snoc (set ts n t) xs x (omega arith), tagged-set ts xs n t (omega arith), e, get_or-set_same ts n t 0 h)

-- one element more, selected or not
module _ {A : Type 0} (p : A → Bool) (xs : List A) (x : A) where
  pub select_in : p x ≡ true → select p (xs ++ (x ∷ [])) ≡ select p xs ++ (x ∷ [])
  unfolding select
  select_in e = select-append p xs (x ∷ []) ∙ rw e

  pub select-out : p x ≡ false → select p (xs ++ (x ∷ [])) ≡ select p xs
  unfolding select
  select-out e = select-append p xs (x ∷ []) ∙ rw (e, append-nil)

-- ---- the items of one tag

tag_in : (t : ℕ) (x : Tagged) → x.tag ≡ t → has_tag t x ≡ true
unfolding has_tag
tag_in t x e = eq-eqb x.tag t e

tag-out : (t : ℕ) (x : Tagged) → (x.tag ≡ t → ⊥) → has_tag t x ≡ false
unfolding has_tag
tag-out t x e = ne_eqb x.tag t e

-- with one more item of the tag, and of another
pub with_same : (t : ℕ) (xs : List Tagged) (x : rules.LogItem) → items_with t (xs ++ (record { tag = t; item = x } ∷ [])) ≡ items_with t xs ++ (x ∷ [])
unfolding items_with
with_same t xs x = rw (select_in (has_tag t) xs (record { tag = t; item = x }) (tag_in t (record { tag = t; item = x }) refl)) (map-append (λ (y : Tagged). y.item) (select (has_tag t) xs) (record { tag = t; item = x } ∷ []))

pub with-other : (t u : ℕ) (xs : List Tagged) (x : rules.LogItem) → (u ≡ t → ⊥) → items_with t (xs ++ (record { tag = u; item = x } ∷ [])) ≡ items_with t xs
unfolding items_with
with-other t u xs x h = rw (select-out (has_tag t) xs (record { tag = u; item = x }) (tag-out t (record { tag = u; item = x }) h))

-- with the items of a tag taken out: none of that tag, and of another all
pub with-taken : (t : ℕ) (xs : List Tagged) → items_with t (select (has_other t) xs) ≡ []
unfolding items_with has_other
with-taken t xs =
    rw (select-select (has_tag t) (has_other t) xs)
    (ap (map (λ (y : Tagged). y.item)) (select-none (λ y. not (has_tag t y) && has_tag t y) xs (every_all _ xs (λ y. split (has_tag t y) (λ e. rw e) (λ e. rw e)))))

pub with-left : (t u : ℕ) (xs : List Tagged) → (u ≡ t → ⊥) → items_with u (select (has_other t) xs) ≡ items_with u xs
unfolding items_with has_other has_tag
with-left t u xs h =
    rw (select-select (has_tag u) (has_other t) xs)
    (ap (map (λ (y : Tagged). y.item))
    (select_same (λ y. not (eqb y.tag t) && eqb y.tag u) (λ y. eqb y.tag u) xs (λ y. split (eqb y.tag u)
    (λ e. let q = eqb-true y.tag u e in rw (e, ne_eqb y.tag t (λ z. h (sym q ∙ z))))
    (λ e. rw (e, and-false)))))

-- those from item j on: here is one, here is none, here is the end
module _ (t : ℕ) (xs : List Tagged) (j : ℕ) (z : Tagged) where
  pub with_here : j < length xs → (get_or xs j z).tag ≡ t → items_with t (drop j xs) ≡ (get_or xs j z).item ∷ items_with t (drop (suc j) xs)
  unfolding items_with select
  with_here h e = rw (drop-cons xs j z h, tag_in t (get_or xs j z) e)

  pub with-past : j < length xs → ((get_or xs j z).tag ≡ t → ⊥) → items_with t (drop j xs) ≡ items_with t (drop (suc j) xs)
  unfolding items_with select
  with-past h e = rw (drop-cons xs j z h, tag-out t (get_or xs j z) e)

  pub with-end : length xs ≤ j → items_with t (drop j xs) ≡ []
  unfolding items_with select
  with-end h = rw (drop_of_length-le xs h)
