-- What stands at a key's place, and the answers of `get`. Assumes nothing.
use Rattle.rules.specs.Causes.{Ok, Err}
use Prim.Native.Nat.{ℕ}
use mathlib.Core.Path.{◌≡◌, ◌∙◌}
use mathlib.Core.List.{List}
use Rattle.std.specs.Prelude.{None, Some}
use Rattle.maps.specs.Lists.{first, map_option}
use Rattle.maps.specs.Maps.{Map, lookup, bytes}
use Rattle.maps.specs.MapLaws.{Ascending}
use Rattle.rules.specs.Table.{Held}
use Rattle.kvs.specs.Rows.{row_at, key_of, held_of, pair_of, keys_in, Wf}
use Rattle.kvs.specs.RowLaws.{keys_from}
use Rattle.kvs.specs.Places.{place_of, found_at, pair_at}
use Rattle.kvs.specs.PlaceLaws.{pairs_from, lookup-place, place_key}
use Rattle.kvs.specs.Calls.{GetKey}
use Rattle.kvs.proofs.Search.{at_within, at_below}

module _ (m : Map (List ℕ) Held) (k : List ℕ) (a : Ascending bytes m) (i : ℕ) where
  pub found_in : place_of k m ≡ Ok i → lookup bytes k m ≡ Some (pair_at i m).val
  unfolding found_at first map_option
  found_in e = lookup-place k m a ∙ rw (e, pairs_from i m (at_within m k i e))

  pub absent_in : place_of k m ≡ Err i → lookup bytes k m ≡ None
  unfolding found_at
  absent_in e = lookup-place k m a ∙ rw e

  -- `get`

  pub get_at : place_of k m ≡ Ok i → (v : List ℕ) → v ≡ (pair_at i m).val.value → GetKey m k (Some v)
  unfolding map_option
  get_at e v f = rw (found_in e, f)

  pub get_none : place_of k m ≡ Err i → GetKey m k None
  unfolding map_option
  get_none e = rw (absent_in e)

-- the row there
module _ (n : ℕ) (rows bs k : List ℕ) (i : ℕ) (e : place_of k (keys_in n rows bs) ≡ Ok i) where
  pub found_at_lem : Wf n rows bs → lookup bytes k (keys_in n rows bs) ≡ Some (held_of (row_at i rows bs))
  unfolding found_at first map_option pair_of
  found_at_lem w = lookup-place k (keys_in n rows bs) w.ascending ∙ rw (e, keys_from n i rows bs (at_below n rows bs k i e))

  pub found_key : key_of (row_at i rows bs) ≡ k
  unfolding first map_option pair_of
  found_key =
      let f : Some (key_of (row_at i rows bs)) ≡ Some k = rw (keys_from n i rows bs (at_below n rows bs k i e)) at (place_key k (keys_in n rows bs) i e) in
      cc
