-- Queries of contexts and the index, their answers in lent lists, and the cleaned numbers.
use Rattle.std.specs.Prelude.{Bool, cond, List, [], ◌++◌, map, ℕ, leb, eqb, length, drop}
use Rattle.rules.specs.Causes.{Result, Ok, Err, refuse, WrongKind, GroupAbsent, ListTooShort, and_then}
use Rattle.maps.specs.Lists.{or_else, sum}
use Rattle.maps.specs.Maps.{Pair, lookup, numbers}
use Rattle.rules.specs.Items.{LogQueue}
use Rattle.rules.specs.Table.{Table}
use Rattle.rules.specs.TableQueries.{live_of}
use Rattle.rules.specs.Context.{is_index, Context, with_cleaned}

-- ---- lent lists

module _ {A : Type 0} where
  -- an answer longer than the lent list is refused
  unfoldable pub answered : List A → Result (List A) → Result (List A)
  answered lent r = and_then r (λ rows. cond (leb (length rows) (length lent)) (Ok rows) (refuse ListTooShort))

  -- what stands in the lent list at exit: the rows from its first place, everything else as it was
  unfoldable pub lent_after : List A → Result (List A) → List A
  lent_after lent (Ok rows) = rows ++ drop (length rows) lent
  lent_after lent (Err r) = lent

-- ---- queries of one group

-- a table's query asked of group g; of an absent group it is refused. With a lent list: `answered lent (in_group g query c)`.
unfoldable pub in_group : {A : Type 0} → ℕ → (Table → Result A) → Context → Result A
in_group g query c = or_else (refuse GroupAbsent) query (lookup numbers g c.groups)

-- ---- queries of all groups

unfoldable pub group_numbers : Context → List ℕ
group_numbers c = map (λ (p : Pair ℕ Table). p.key) c.groups

unfoldable pub is_empty : Context → Bool
is_empty c = eqb (length c.groups) 0

-- the live count of a queue: entries and keys of the groups that count
unfoldable pub live_entries : LogQueue → Context → ℕ
live_entries q c = sum (λ (p : Pair ℕ Table). cond p.val.counted (live_of q p.val) 0) c.groups

-- ---- cleaned numbers

-- `take_cleaned_region_logs`, an index call: the cleaned numbers in order
unfoldable pub take_cleaned : List ℕ → Context → Result (List ℕ)
take_cleaned lent c = cond (is_index c.kind) (answered lent (Ok c.cleaned)) (refuse WrongKind)

-- the list is emptied by an accepted call
unfoldable pub after_taking : Result (List ℕ) → Context → Context
after_taking (Ok rows) c = with_cleaned [] c
after_taking (Err r) c = c
