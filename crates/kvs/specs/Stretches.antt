-- The keys within bounds are the stretch between the places of the bounds. Assumes nothing.
use Rattle.std.specs.Prelude.{Bool, false, ◌&&◌, ◌≡◌, ℕ, zero, suc, ◌+◌, ◌-◌, ◌≤◌, length, drop}
use Rattle.std.proofs.Math.Bool.{true, not}
use Rattle.std.proofs.Common.{true≢false, ◌∙◌, length-append, take-append-drop, take_all}
use Rattle.std.proofs.Math.Path.{refl, sym, ap}
use mathlib.Core.List.{List, [], ◌∷◌}
use Rattle.std.specs.Prelude.{Option, None, Some}
use Rattle.std.proofs.Math.Nat.{sub-zero}
use native.Mathlib.Omega.{arith}
use Rattle.std.proofs.Math.ListN.{take, length-drop}
use Rattle.cells.specs.Part.{part}
use Rattle.maps.specs.Lists.{select, or_else}
use Rattle.maps.specs.ListLaws.{select-append, select-select, select_same, length-select}
use Rattle.maps.specs.Maps.{Pair, Map, bytes, bytes_below}
use Rattle.maps.specs.OrderLaws.{split, three, bytes_lawful, below-not_back}
use Rattle.maps.specs.MapLaws.{AllBelow, Ascending, below_all, ascending-head, ascending-tail}
use Rattle.rules.specs.Table.{Held}
use Rattle.rules.specs.TableQueries.{in_bounds, start_above_end}
use Rattle.kvs.specs.Places.{place_of, below_at, below_bound}
use Rattle.kvs.specs.PlaceLaws.{none_below, place-counts}

-- ---- stretches of ascending keys ascend

below-take : (j : List ℕ) (n : ℕ) (m : Map (List ℕ) Held) → AllBelow bytes j m → AllBelow bytes j (take n m)
unfolding AllBelow
below-take j zero m h = tt
below-take j (suc n) [] h = tt
below-take j (suc n) (x ∷ m) h = (h.0, below-take j n m h.1)

ascending-take : (n : ℕ) (m : Map (List ℕ) Held) → Ascending bytes m → Ascending bytes (take n m)
unfolding Ascending
ascending-take zero m h = tt
ascending-take (suc n) [] h = tt
ascending-take (suc n) (x ∷ m) h = (below-take x.key n m h.0, ascending-take n m h.1)

ascending-drop : (n : ℕ) (m : Map (List ℕ) Held) → Ascending bytes m → Ascending bytes (drop n m)
unfolding Ascending
ascending-drop zero m h = h
ascending-drop (suc n) [] h = tt
ascending-drop (suc n) (x ∷ m) h = ascending-drop n m h.1

pub ascending-part : (a n : ℕ) (m : Map (List ℕ) Held) → Ascending bytes m → Ascending bytes (part a n m)
unfolding part
ascending-part a n m h = ascending-take n (drop a m) (ascending-drop a m h)

-- ---- the keys below k stand in front

-- what is below x is below k, if k is not
pub below_through : (k x j : List ℕ) → bytes_below j x ≡ true → bytes_below k x ≡ false → bytes_below j k ≡ true
below_through k x j p q =
    three bytes bytes_lawful k x
    (λ e f. rw f p)
    (λ e b. absurd (true≢false (sym b ∙ q)))
    (λ e b f. bytes_lawful.below-trans j x k p f)

module _ (k : List ℕ) where
  none-else : (m : Map (List ℕ) Held) → AllBelow bytes k m → select (λ x. not (bytes_below x.key k)) m ≡ m
  unfolding AllBelow select
  none-else [] h = refl
  none-else (x ∷ xs) h = rw (below-not_back bytes bytes_lawful k x.key h.0) (ap (λ l. x ∷ l) (none-else xs h.1))

  -- by whether the first key is below k
  by_first : {P : Type 0} (x : Pair (List ℕ) Held) (xs : Map (List ℕ) Held) → Ascending bytes (x ∷ xs)
      → (bytes_below x.key k ≡ true → P) → (bytes_below x.key k ≡ false → AllBelow bytes k xs → P) → P
  by_first x xs a f g =
      three bytes bytes_lawful k x.key
      (λ e p. g (rw p (bytes_lawful.below-not x.key)) (rw p (ascending-head bytes x xs a)))
      (λ e b. g (below-not_back bytes bytes_lawful k x.key b) (below_all bytes bytes_lawful k x.key xs b (ascending-head bytes x xs a)))
      (λ e b h. f h)

  take_count : (m : Map (List ℕ) Held) → Ascending bytes m → take (length (select (λ x. bytes_below x.key k) m)) m ≡ select (λ x. bytes_below x.key k) m
  unfolding select
  take_count [] a = refl
  take_count (x ∷ xs) a =
      by_first x xs a
      (λ f. rw f (ap (λ l. x ∷ l) (take_count xs (ascending-tail bytes x xs a))))
      (λ f h. rw (f, none_below k xs h))

  drop-count : (m : Map (List ℕ) Held) → Ascending bytes m → drop (length (select (λ x. bytes_below x.key k) m)) m ≡ select (λ x. not (bytes_below x.key k)) m
  unfolding select
  drop-count [] a = refl
  drop-count (x ∷ xs) a =
      by_first x xs a
      (λ f. rw f (drop-count xs (ascending-tail bytes x xs a)))
      (λ f h. rw (f, none_below k xs h) (ap (λ l. x ∷ l) (sym (none-else xs h))))

-- ---- two bounds of which the first is not above the second

module _ (s e : List ℕ) (h : bytes_below e s ≡ false) (m : Map (List ℕ) Held) (a : Ascending bytes m) where
  -- of the keys below s, all are below e
  below_both : select (λ x. bytes_below x.key e) (select (λ x. bytes_below x.key s) m) ≡ select (λ x. bytes_below x.key s) m
  below_both =
      select-select (λ x. bytes_below x.key e) (λ x. bytes_below x.key s) m
      ∙ select_same (λ x. bytes_below x.key s && bytes_below x.key e) (λ x. bytes_below x.key s) m
      (λ x. split (bytes_below x.key s) (λ p. rw (p, below_through e s x.key p h)) (λ p. rw p))

  -- those below e are those below s and those of the others that are below e
  count-both : length (select (λ x. bytes_below x.key e) m)
      ≡ length (select (λ x. bytes_below x.key s) m) + length (select (λ x. bytes_below x.key e) (select (λ x. not (bytes_below x.key s)) m))
  count-both =
      let n = length (select (λ x. bytes_below x.key s) m) in
      let below : Pair (List ℕ) Held → Bool = λ x. bytes_below x.key e in
      ap (λ l. length (select below l)) (sym (take-append-drop n m))
      ∙ ap length (select-append below (take n m) (drop n m))
      ∙ length-append (select below (take n m)) (select below (drop n m))
      ∙ rw (take_count s m a, drop-count s m a, below_both)

-- ---- the bounds of a scan, each of which may be absent

keeps_all : (m : Map (List ℕ) Held) → select (λ x. true) m ≡ m
unfolding select
keeps_all [] = refl
keeps_all (x ∷ xs) = ap (λ l. x ∷ l) (keeps_all xs)

from_start : (start : Option (List ℕ)) (m : Map (List ℕ) Held) → Ascending bytes m
    → select (λ x. or_else true (λ s. not (bytes_below x.key s)) start) m ≡ drop (below_bound 0 start m) m
unfolding or_else below_bound
from_start None m a = keeps_all m
from_start (Some s) m a = sym (rw (place-counts s m a) (drop-count s m a))

to_end : (end : Option (List ℕ)) (m : Map (List ℕ) Held) → Ascending bytes m
    → select (λ x. or_else true (bytes_below x.key) end) m ≡ take (below_bound (length m) end m) m
unfolding or_else below_bound
to_end None m a = keeps_all m ∙ sym (take_all (length m) m (omega arith))
to_end (Some e) m a = sym (rw (place-counts e m a) (take_count e m a))

module _ (m : Map (List ℕ) Held) (a : Ascending bytes m) where
  -- the bound e from the place of s on
  high-from : (s e : List ℕ) → bytes_below e s ≡ false → below_at (place_of s m) + below_at (place_of e (drop (below_at (place_of s m)) m)) ≡ below_at (place_of e m)
  high-from s e h =
      rw (place-counts e (drop (below_at (place_of s m)) m) (ascending-drop (below_at (place_of s m)) m a), place-counts s m a, drop-count s m a, place-counts e m a)
      (sym (count-both s e h m a))

  low-within : (start : Option (List ℕ)) → below_bound 0 start m ≤ length m
  unfolding below_bound or_else
  low-within None = omega arith
  low-within (Some s) = rw (place-counts s m a) (length-select (λ x. bytes_below x.key s) m)

  high-drop : (start end : Option (List ℕ)) → start_above_end start end ≡ false
      → below_bound (length (drop (below_bound 0 start m) m)) end (drop (below_bound 0 start m) m) ≡ below_bound (length m) end m - below_bound 0 start m
  unfolding below_bound or_else start_above_end
  high-drop start None h = length-drop (below_bound 0 start m) m
  high-drop None (Some e) h = sym (sub-zero (below_at (place_of e m)))
  high-drop (Some s) (Some e) h = omega (arith, high-from s e h)

  pub low-high : (start end : Option (List ℕ)) → start_above_end start end ≡ false → below_bound 0 start m ≤ below_bound (length m) end m
  unfolding below_bound or_else start_above_end
  low-high start None h = low-within start
  low-high None (Some e) h = omega arith
  low-high (Some s) (Some e) h = omega (arith, high-from s e h)

  -- the keys in bounds are the stretch between the places of the bounds
  pub in-stretch : (start end : Option (List ℕ)) → start_above_end start end ≡ false → select (λ x. in_bounds start end x.key) m ≡ part (below_bound 0 start m) (below_bound (length m) end m - below_bound 0 start m) m
  unfolding in_bounds part
  in-stretch start end h =
      let low = below_bound 0 start m in
      sym (select-select (λ x. or_else true (bytes_below x.key) end) (λ x. or_else true (λ s. not (bytes_below x.key s)) start) m)
      ∙ ap (select (λ x. or_else true (bytes_below x.key) end)) (from_start start m a)
      ∙ to_end end (drop low m) (ascending-drop low m a)
      ∙ ap (λ n. take n (drop low m)) (high-drop start end h)
