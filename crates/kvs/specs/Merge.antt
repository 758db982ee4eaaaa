-- A newer table's keys laid over a group's own: what the parts are and stand for at exit.
use Rattle.rules.specs.Causes.{ByCause, Ok, Err}
use Rattle.std.specs.Prelude.{Bool, true, false, List, [], ◌∷◌, ◌≡◌, ℕ, length}
use Rattle.maps.specs.Lists.{select, or_else}
use Rattle.maps.specs.Maps.{Pair, Map, lookup, insert, bytes}
use Rattle.rules.specs.Table.{Held, over_keys}
use Rattle.kvs.specs.Rows.{keys_in}
use Rattle.kvs.specs.Places.{place_of}
use Rattle.kvs.specs.Calls.{Holds, room_for, Stands, put_rows, put_bytes}

-- the number of keys and the two parts
pub record Parts : Type 0 where
  pub count : ℕ
  pub rows : List ℕ
  pub bytes : List ℕ

-- the parts after `put` of a pair for which there is room
unfoldable pub put_pair : Pair (List ℕ) Held → Parts → Parts
put_pair x p =
    record {
      count = length (insert bytes x.key x.val (keys_in p.count p.rows p.bytes));
      rows = put_rows (Ok 0) (place_of x.key (keys_in p.count p.rows p.bytes)) p.count x.key x.val p.rows;
      bytes = put_bytes (Ok 0) (place_of x.key (keys_in p.count p.rows p.bytes)) p.count x.key x.val p.bytes;
    }

-- after each pair in order
unfoldable pub put_all : List (Pair (List ℕ) Held) → Parts → Parts
put_all [] p = p
put_all (x ∷ xs) p = put_all xs (put_pair x p)

abbrev pub parts : ℕ → List ℕ → List ℕ → Parts
parts n rows bs = record { count = n; rows = rows; bytes = bs }

-- whether a map lacks a key, and how many of the newer keys it lacks
unfoldable pub is_absent : List ℕ → Map (List ℕ) Held → Bool
is_absent k m = or_else true (λ (h : Held). false) (lookup bytes k m)

unfoldable pub missing : Map (List ℕ) Held → Map (List ℕ) Held → ℕ
missing older newer = length (select (λ x. is_absent x.key older) newer)

pub record LaidOver (n : ℕ) (rows bs : List ℕ) (newer : Map (List ℕ) Held) (r : ℕ) (rows' bs' : List ℕ) : Type 0 where
  pub parts_are : parts r rows' bs' ≡ put_all newer (parts n rows bs)
  pub holds : Holds r rows' bs' (over_keys (keys_in n rows bs) newer)

-- ---- `merge_keys`

unfoldable pub merged_parts : ByCause ℕ → Map (List ℕ) Held → Parts → Parts
merged_parts (Ok m) newer p = put_all newer p
merged_parts (Err e) newer p = p

pub record MergeKeys (n : ℕ) (rows bs : List ℕ) (newer : Map (List ℕ) Held) (r : ByCause ℕ) (rows' bs' : List ℕ) : Type 0 where
  pub answer : r ≡ room_for (length (over_keys (keys_in n rows bs) newer)) rows bs
  pub rows_are : rows' ≡ (merged_parts r newer (parts n rows bs)).rows
  pub bytes-are : bs' ≡ (merged_parts r newer (parts n rows bs)).bytes
  pub stands : Stands r rows' bs' (over_keys (keys_in n rows bs) newer)
