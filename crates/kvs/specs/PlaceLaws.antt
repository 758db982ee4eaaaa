-- Lookup, insert and remove by the place of the key. Assumes nothing.
use Rattle.kvs.specs.Places.{Sought}
use Rattle.rules.specs.Causes.{Ok, Err}
use Rattle.std.specs.Prelude.{true, ◌≡◌, ℕ, suc, ◌<◌, length, drop}
use Rattle.std.proofs.Math.Seq.{drop-cons}
use Rattle.std.proofs.Math.Path.{refl}
use Rattle.std.proofs.Common.{sym, ap, suc-le-suc, zero-le}
use mathlib.Core.List.{List, [], ◌∷◌}
use Rattle.std.specs.Prelude.{None, Some}
use Rattle.maps.specs.Lists.{first, map_option, select}
use Rattle.maps.specs.Maps.{Pair, Map, lookup, insert, remove, bytes, equal_bytes, bytes_below}
use Rattle.maps.specs.OrderLaws.{split, three, bytes_lawful, below-differs, below-not_back}
use Rattle.maps.specs.MapLaws.{pair, Ascending, AllBelow, below_all, lookup_below, remove_absent, ascending-head, ascending-tail}
use Rattle.rules.specs.Table.{Held}
use Rattle.kvs.specs.Places.{place_from, place_of, found_at, laid_at, taken_at, no_pair, pair_at, Within, below_at}

-- the pairs from place i on
pub pairs_from : (i : ℕ) (m : Map (List ℕ) Held) → i < length m → drop i m ≡ pair_at i m ∷ drop (suc i) m
unfolding pair_at
pairs_from i m h = drop-cons m i no_pair h

-- the same place one further on
abbrev up : Sought → Sought
up (Ok i) = Ok (suc i)
up (Err i) = Err (suc i)

place_up : (i : ℕ) (k : List ℕ) (m : Map (List ℕ) Held) → place_from (suc i) k m ≡ up (place_from i k m)
unfolding place_from
place_up i k [] = refl
place_up i k (x ∷ xs) =
    split (equal_bytes k x.key)
    (λ e. rw e)
    (λ e. split (bytes_below k x.key) (λ b. rw (e, b)) (λ b. rw (e, b) (place_up (suc i) k xs)))

laid-up : (p : Sought) (y x : Pair (List ℕ) Held) (xs : Map (List ℕ) Held) → laid_at (up p) y (x ∷ xs) ≡ x ∷ laid_at p y xs
unfolding laid_at
laid-up (Ok i) y x xs = refl
laid-up (Err i) y x xs = refl

taken-up : (p : Sought) (x : Pair (List ℕ) Held) (xs : Map (List ℕ) Held) → taken_at (up p) (x ∷ xs) ≡ x ∷ taken_at p xs
unfolding taken_at
taken-up (Ok i) x xs = refl
taken-up (Err i) x xs = refl

found_up : (p : Sought) (x : Pair (List ℕ) Held) (xs : Map (List ℕ) Held) → found_at (up p) (x ∷ xs) ≡ found_at p xs
unfolding found_at
found_up (Ok i) x xs = refl
found_up (Err i) x xs = refl

within-up : (n : ℕ) (p : Sought) → Within n p → Within (suc n) (up p)
unfolding Within
within-up n (Ok i) h = suc-le-suc h
within-up n (Err i) h = suc-le-suc h

pub place-within : (k : List ℕ) (m : Map (List ℕ) Held) → Within (length m) (place_of k m)
unfolding place_of place_from Within
place-within k [] = zero-le
place-within k (x ∷ xs) =
    split (equal_bytes k x.key)
    (λ e. rw e (suc-le-suc zero-le))
    (λ e. split (bytes_below k x.key)
    (λ b. rw (e, b) zero-le)
    (λ b. rw (e, b, place_up 0 k xs) (within-up (length xs) (place_from 0 k xs) (place-within k xs))))

pub insert-place : (k : List ℕ) (h : Held) (m : Map (List ℕ) Held) → insert bytes k h m ≡ laid_at (place_of k m) (pair k h) m
unfolding insert place_of place_from laid_at
insert-place k h [] = refl
insert-place k h (x ∷ xs) =
    split (equal_bytes k x.key)
    (λ e. rw e)
    (λ e. split (bytes_below k x.key)
    (λ b. rw (e, b))
    (λ b. rw (e, b, place_up 0 k xs, laid-up (place_from 0 k xs) (pair k h) x xs) (ap (λ l. x ∷ l) (insert-place k h xs))))

module _ (k : List ℕ) where
  -- a key below the first of ascending keys is absent
  absent_below : (x : Pair (List ℕ) Held) (xs : Map (List ℕ) Held) → Ascending bytes (x ∷ xs) → bytes_below k x.key ≡ true → lookup bytes k (x ∷ xs) ≡ None
  unfolding lookup
  absent_below x xs a b =
      rw (below-differs bytes bytes_lawful k x.key b)
      (lookup_below bytes bytes_lawful k xs (below_all bytes bytes_lawful k x.key xs b (ascending-head bytes x xs a)))

  pub lookup-place : (m : Map (List ℕ) Held) → Ascending bytes m → lookup bytes k m ≡ found_at (place_of k m) m
  unfolding lookup place_of place_from found_at first map_option
  lookup-place [] a = refl
  lookup-place (x ∷ xs) a =
      split (equal_bytes k x.key)
      (λ e. rw e)
      (λ e. split (bytes_below k x.key)
      (λ b. rw (e, b) (rw e at (absent_below x xs a b)))
      (λ b. rw (e, b, place_up 0 k xs, found_up (place_from 0 k xs) x xs) (lookup-place xs (ascending-tail bytes x xs a))))

  pub remove-place : (m : Map (List ℕ) Held) → Ascending bytes m → remove bytes k m ≡ taken_at (place_of k m) m
  unfolding remove place_of place_from taken_at
  remove-place [] a = refl
  remove-place (x ∷ xs) a =
      split (equal_bytes k x.key)
      (λ e. rw e)
      (λ e. split (bytes_below k x.key)
      (λ b. rw (e, b) (rw e at (remove_absent bytes bytes_lawful k (x ∷ xs) (absent_below x xs a b))))
      (λ b. rw (e, b, place_up 0 k xs, taken-up (place_from 0 k xs) x xs) (ap (λ l. x ∷ l) (remove-place xs (ascending-tail bytes x xs a)))))

-- the key that stands at the place of k is k
KeyIs : List ℕ → Sought → Map (List ℕ) Held → Type 0
KeyIs k (Ok i) m = map_option (λ (x : Pair (List ℕ) Held). x.key) (first (drop i m)) ≡ Some k
KeyIs k (Err i) m = Unit {0}

key-up : (k : List ℕ) (p : Sought) (x : Pair (List ℕ) Held) (xs : Map (List ℕ) Held) → KeyIs k p xs → KeyIs k (up p) (x ∷ xs)
unfolding KeyIs
key-up k (Ok i) x xs e = e
key-up k (Err i) x xs e = tt

key-is : (k : List ℕ) (m : Map (List ℕ) Held) → KeyIs k (place_of k m) m
unfolding KeyIs place_of place_from first map_option
key-is k [] = tt
key-is k (x ∷ xs) =
    split (equal_bytes k x.key)
    (λ e. rw e (ap Some (sym (bytes_lawful.same-eq k x.key e))))
    (λ e. split (bytes_below k x.key)
    (λ b. rw (e, b) tt)
    (λ b. rw (e, b, place_up 0 k xs) (key-up k (place_from 0 k xs) x xs (key-is k xs))))

pub place_key : (k : List ℕ) (m : Map (List ℕ) Held) (i : ℕ) → place_of k m ≡ Ok i → map_option (λ (x : Pair (List ℕ) Held). x.key) (first (drop i m)) ≡ Some k
unfolding KeyIs
place_key k m i e = rw e at (key-is k m)

-- either way, so many keys are below k
pub none_below : (k : List ℕ) (m : Map (List ℕ) Held) → AllBelow bytes k m → select (λ x. bytes_below x.key k) m ≡ []
unfolding AllBelow select
none_below k [] h = refl
none_below k (x ∷ xs) h = rw (below-not_back bytes bytes_lawful k x.key h.0) (none_below k xs h.1)

below_up : (p : Sought) → below_at (up p) ≡ suc (below_at p)
unfolding below_at
below_up (Ok i) = refl
below_up (Err i) = refl

pub place-counts : (k : List ℕ) (m : Map (List ℕ) Held) → Ascending bytes m → below_at (place_of k m) ≡ length (select (λ x. bytes_below x.key k) m)
unfolding place_of place_from below_at select
place-counts k [] a = refl
place-counts k (x ∷ xs) a =
    three bytes bytes_lawful k x.key
    (λ e p. rw (e, ← p, bytes_lawful.below-not k, none_below k xs (rw p (ascending-head bytes x xs a))))
    (λ e b. rw (e, b, below-not_back bytes bytes_lawful k x.key b, none_below k xs (below_all bytes bytes_lawful k x.key xs b (ascending-head bytes x xs a))))
    (λ e b f. rw (e, b, f, place_up 0 k xs, below_up (place_from 0 k xs)) (ap suc (place-counts k xs (ascending-tail bytes x xs a))))
