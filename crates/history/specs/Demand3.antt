-- Demand 3, clause by clause.
use Rattle.std.specs.Prelude.{◌≡◌, false, List, ◌∷◌, ◌++◌, ℕ, ◌+◌, length}
use Rattle.std.specs.Prelude.{Option}
use Rattle.maps.specs.Lists.{sum}
use Rattle.maps.specs.Maps.{Pair, lookup, numbers, bytes, equal_bytes}
use Rattle.rules.specs.Limits.{reserved_key}
use Rattle.rules.specs.Causes.{Ok}
use Rattle.rules.specs.Items.{Append, Rewrite, EntryIndex, Batch}
use Rattle.rules.specs.Table.{Held, Table, made}
use Rattle.rules.specs.Context.{Context, fresh}
use Rattle.rules.specs.Calls.{replay, merge}
use Rattle.rules.specs.Queries.{live_entries}
use Rattle.history.specs.Held.{entries_held, key_held, Premise}
use Rattle.history.specs.Recovery.{one_pass, history, items_of, Runs, run, merged, batches_of, Made}

-- what a context holds of group g
unfoldable pub entries_in : ℕ → Context → List EntryIndex
entries_in g c = (made (lookup numbers g c.groups)).entries

unfoldable pub key_in : ℕ → List ℕ → Context → Option Held
key_in g k c = lookup bytes k (made (lookup numbers g c.groups)).keys

-- the number of entries and keys held
unfoldable pub number_held : Context → ℕ
number_held c = sum (λ (p : Pair ℕ Table). length p.val.entries + length p.val.keys) c.groups

-- what demand 3 says of the last context, c, of a list of batches
pub record Last (batches : List Batch) (c : Context) : Type 1 where
  -- 'holds an entry exactly if it was appended after its group's last clean, no later append to the group starts at or below it,
  -- and no later compaction of the group goes above it'; the entries are the records lent
  pub entries-held : (g : ℕ) → entries_in g c ≡ entries_held g (items_of (history batches (fresh Append)))
  -- 'a key that 01 doesn't reserve exactly if it was put after that clean and its last delete, with the last such put's value and file'
  pub keys-held : (g : ℕ) (k : List ℕ) → equal_bytes k reserved_key ≡ false → key_in g k c ≡ key_held g k (items_of (history batches (fresh Append)))
  -- 'the Append live count is the number of entries and keys held, the Rewrite one 0'
  pub live-append : live_entries Append c ≡ number_held c
  pub live-rewrite : live_entries Rewrite c ≡ 0
  -- 'In groups, tombstones and cleaned numbers the last context equals the one that took the whole list'
  pub same-groups : c.groups ≡ (one_pass batches (fresh Append)).groups
  pub same-tombstones : c.tombstones ≡ (one_pass batches (fresh Append)).tombstones
  pub same-cleaned : c.cleaned ≡ (one_pass batches (fresh Append)).cleaned
  -- 'and it answers every query alike'
  pub alike : {A : Type 0} (query : Context → A) → query c ≡ query (one_pass batches (fresh Append))

-- demand 3 of a list of batches, any at all, which one fresh Append context took in order; its history is the accepted ones
pub record Demand3 (batches : List Batch) : Type 1 where
  -- 'every replay .. is accepted': of the next batch of a run that is part of the history
  pub replay-accepted :
      (before so_far after : List Batch) (b : Batch) (c : Context)
      → history batches (fresh Append) ≡ before ++ (so_far ++ (b ∷ after))
      → Made (run so_far) c
      → (d : Context) × (replay b c ≡ Ok d)
  -- 'and merge': of neighbouring stretches of the history, each made by runs and merges of its own
  pub merge-accepted :
      (before after : List Batch) (older newer : Runs) (c d : Context)
      → history batches (fresh Append) ≡ before ++ (batches_of (merged older newer) ++ after)
      → Made older c
      → Made newer d
      → (e : Context) × (merge d c ≡ Ok e)
  -- 'The last context': of runs that the whole history was cut into
  pub last : (runs : Runs) (c : Context) → batches_of runs ≡ history batches (fresh Append) → Made runs c → Last batches c

-- demand 3 as one claim: of every list of batches in whose history each compaction leaves its group an entry or finds none
abbrev pub Claim : Type 1
Claim = (batches : List Batch) → Premise (items_of (history batches (fresh Append))) → Demand3 batches

-- and it is never empty: every cutting of the history, merged in any order, has a last context, of which all this holds
abbrev pub Reached : Type 1
Reached =
    (batches : List Batch) → Premise (items_of (history batches (fresh Append)))
    → (runs : Runs) → batches_of runs ≡ history batches (fresh Append)
    → (c : Context) × Made runs c × Last batches c
