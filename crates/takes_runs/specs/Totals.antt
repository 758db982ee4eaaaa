-- The lines that are printed at the end.
use Rattle.std.specs.Prelude.{List, ℕ, length, Option}
use Rattle.maps.specs.Lists.{or_else}
use Rattle.rules.specs.Table.{Table, first_index_of}
use Rattle.takes_rules.specs.Output.{group_line}

-- a group's first index, or 0 if it has no entries
unfoldable pub first_of : Table → ℕ
first_of t = or_else 0 (λ (i : ℕ). i) (first_index_of t.entries)

-- the line of group g with the given table
unfoldable pub group_text : ℕ → Option Table → List ℕ
group_text g o =
    group_line g (or_else 0 first_of o) (or_else 0 (λ (t : Table). length t.entries) o) (or_else 0 (λ (t : Table). length t.keys) o)
