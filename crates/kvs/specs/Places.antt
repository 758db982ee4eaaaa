-- The place of a key in a map, and what the map's functions do there. Assumes nothing.
use Rattle.std.specs.Prelude.{Result, Ok, Err}
use Rattle.std.specs.Prelude.{cond, List, [], ◌∷◌, ◌++◌, ℕ, suc, ◌≤◌, ◌<◌, take, drop, get_or}
use Rattle.std.specs.Prelude.{Option, None}
use Rattle.maps.specs.Lists.{first, map_option, or_else}
use Rattle.maps.specs.Maps.{Pair, Map, equal_bytes, bytes_below}
use Rattle.rules.specs.Items.{Append}
use Rattle.rules.specs.Table.{Held}

-- where a key stands: at a row, or absent and before one
abbrev pub Sought : Type 0
Sought = Result ℕ ℕ

-- the place of k, counted from i: at the key itself, or before the first key above it
unfoldable pub place_from : ℕ → List ℕ → Map (List ℕ) Held → Sought
place_from i k [] = Err i
place_from i k (x ∷ xs) = cond (equal_bytes k x.key) (Ok i) (cond (bytes_below k x.key) (Err i) (place_from (suc i) k xs))

unfoldable pub place_of : List ℕ → Map (List ℕ) Held → Sought
place_of k m = place_from 0 k m

-- what stands at a place, and the map with a pair laid in or taken out there
unfoldable pub found_at : Sought → Map (List ℕ) Held → Option Held
found_at (Ok i) m = map_option (λ (x : Pair (List ℕ) Held). x.val) (first (drop i m))
found_at (Err i) m = None

unfoldable pub laid_at : Sought → Pair (List ℕ) Held → Map (List ℕ) Held → Map (List ℕ) Held
laid_at (Ok i) x m = take i m ++ (x ∷ drop (suc i) m)
laid_at (Err i) x m = take i m ++ (x ∷ drop i m)

unfoldable pub taken_at : Sought → Map (List ℕ) Held → Map (List ℕ) Held
taken_at (Ok i) m = take i m ++ drop (suc i) m
taken_at (Err i) m = m

-- the pair at place i; an empty key and an empty value where there is none
abbrev pub no_pair : Pair (List ℕ) Held
no_pair = record { key = []; val = record { value = []; file = record { queue = Append; seq = 0 } } }

unfoldable pub pair_at : ℕ → Map (List ℕ) Held → Pair (List ℕ) Held
pair_at i m = get_or m i no_pair

-- a place of a map of n keys
unfoldable pub Within : ℕ → Sought → Type 0
Within n (Ok i) = i < n
Within n (Err i) = i ≤ n

-- how many keys are below
unfoldable pub below_at : Sought → ℕ
below_at (Ok i) = i
below_at (Err i) = i

-- how many keys are below a bound; d where the bound is absent
unfoldable pub below_bound : ℕ → Option (List ℕ) → Map (List ℕ) Held → ℕ
below_bound d k m = or_else d (λ (b : List ℕ). below_at (place_of b m)) k
