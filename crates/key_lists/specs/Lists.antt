-- Queries of a group's keys into a lent list: which keys, how the list is written, and what is answered.
use Rattle.std.specs.Prelude.{Bool, cond, ◌&&◌, List, [], ◌∷◌, map, ◌≡◌, ℕ, zero, suc, ◌+◌, ◌-◌, ◌*◌, ◌/◌, min, leb, ltb, length, get_or, take, Option}
use Rattle.cells.specs.Part.{part, put}
use Rattle.maps.specs.Lists.{select}
use Rattle.maps.specs.Maps.{Pair, Map}
use Rattle.rules.specs.Causes.{by_cause, ByCause, Result, Ok, Err, and_then}
use Rattle.rules.specs.Items.{Append, Rewrite, same_queue}
use Rattle.rules.specs.Table.{Held, Table}
use Rattle.rules.specs.TableQueries.{KeyValue, row_of, in_direction, scan, fetch_kvs_before, fetch_rewritten_kvs}
use Rattle.rules.specs.Queries.{answered}
use Rattle.key_lists.specs.declared.Which.{Which}
use Rattle.key_lists.specs.declared.Which.TheVariants.{UpTo, OfRewrite}

-- ---- which keys

-- whether a query asks for a pair
unfoldable pub meets : Which → Pair (List ℕ) Held → Bool
meets (UpTo gate) p = same_queue p.val.file.queue Append && leb p.val.file.seq gate
meets OfRewrite p = same_queue p.val.file.queue Rewrite

-- all rows that it asks for, in a direction
unfoldable pub in_list : Which → Bool → Map (List ℕ) Held → List KeyValue
in_list which backwards m = in_direction backwards (map row_of (select (meets which) m))

-- the rows from row low up to row high, in a direction
unfoldable pub stretch : ℕ → ℕ → Bool → Map (List ℕ) Held → List KeyValue
stretch low high backwards m = in_direction backwards (map row_of (part low (high - low) m))

-- ---- the lent list

-- row j of the list holds the key and the value: their lengths, and as many of its bytes as they have
unfoldable pub row_lens : ℕ → KeyValue → List ℕ → List ℕ
row_lens j x lens = put lens (j * 2) (length x.key ∷ length x.value ∷ [])

unfoldable pub row_bytes : ℕ → KeyValue → List ℕ → List ℕ
row_bytes j x out = put (put out (j * 64) x.key) (j * 64 + 32) x.value

-- rows laid in from row j on, each by f; everything else stays as it was
unfoldable pub laid_by : (ℕ → KeyValue → List ℕ → List ℕ) → ℕ → List KeyValue → List ℕ → List ℕ
laid_by f j [] l = l
laid_by f j (x ∷ xs) l = laid_by f (suc j) xs (f j x l)

abbrev pub lent_lens : ℕ → List KeyValue → List ℕ → List ℕ
lent_lens = laid_by row_lens

abbrev pub lent_bytes : ℕ → List KeyValue → List ℕ → List ℕ
lent_bytes = laid_by row_bytes

-- the rows that the list has: as many as both slices have whole
unfoldable pub list_from : ℕ → ℕ → List ℕ → List ℕ → List KeyValue
list_from j zero lens out = []
list_from j (suc n) lens out =
    record { key = take (get_or lens (j * 2) 0) (part (j * 64) 32 out); value = take (get_or lens (j * 2 + 1) 0) (part (j * 64 + 32) 32 out) }
    ∷ list_from (suc j) n lens out

unfoldable pub lent_list : List ℕ → List ℕ → List KeyValue
lent_list lens out = list_from 0 (min (length lens / 2) (length out / 64)) lens out

-- ---- what is answered

unfoldable pub lens_after : Result (List KeyValue) → List ℕ → List ℕ
lens_after (Ok rows) lens = lent_lens 0 rows lens
lens_after (Err r) lens = lens

unfoldable pub bytes_after : Result (List KeyValue) → List ℕ → List ℕ
bytes_after (Ok rows) out = lent_bytes 0 rows out
bytes_after (Err r) out = out

-- a query's answer in the list; a refused one leaves the list as it was
pub record Fetches (query : Result (List KeyValue)) (lens out : List ℕ) (r : ByCause ℕ) (lens' out' : List ℕ) : Type 0 where
  pub answer : by_cause r ≡ and_then (answered (lent_list lens out) query) (λ rows. Ok (length rows))
  pub lens-are : lens' ≡ lens_after (answered (lent_list lens out) query) lens
  pub bytes-are : out' ≡ bytes_after (answered (lent_list lens out) query) out

abbrev pub ScanKeys : Map (List ℕ) Held → Option (List ℕ) → Option (List ℕ) → Bool → ℕ → List ℕ → List ℕ → ByCause ℕ → List ℕ → List ℕ → Type 0
ScanKeys keys start end backwards count lens out r lens' out' =
    (t : Table) → t.keys ≡ keys → Fetches (scan start end backwards count t) lens out r lens' out'

abbrev pub FetchBefore : Map (List ℕ) Held → ℕ → List ℕ → List ℕ → ByCause ℕ → List ℕ → List ℕ → Type 0
FetchBefore keys gate lens out r lens' out' = (t : Table) → t.keys ≡ keys → Fetches (Ok (fetch_kvs_before gate t)) lens out r lens' out'

abbrev pub FetchRewritten : Map (List ℕ) Held → List ℕ → List ℕ → ByCause ℕ → List ℕ → List ℕ → Type 0
FetchRewritten keys lens out r lens' out' = (t : Table) → t.keys ≡ keys → Fetches (Ok (fetch_rewritten_kvs t)) lens out r lens' out'

-- one turn of the copying: the row is written if it is asked for and the list is to have more than j rows
unfoldable pub taken : Bool → KeyValue → ℕ → ℕ → List KeyValue
taken asked x limit j = cond (asked && ltb j limit) (x ∷ []) []

pub record CopyIf (asked : Bool) (x : KeyValue) (limit j : ℕ) (lens out : List ℕ) (r : ℕ) (lens' out' : List ℕ) : Type 0 where
  pub next : r ≡ j + length (taken asked x limit j)
  pub lens-are : lens' ≡ lent_lens j (taken asked x limit j) lens
  pub bytes-are : out' ≡ lent_bytes j (taken asked x limit j) out
