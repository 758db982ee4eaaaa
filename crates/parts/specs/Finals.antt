-- The tombstones among the items that finish.
use Rattle.std.specs.Prelude.{List, ◌++◌, ◌≡◌, ℕ, Option}
use Rattle.maps.specs.Lists.{select}
use Rattle.maps.specs.Maps.{lookup, numbers}
use Rattle.rules.specs.Items.{LogItem, is_tombstone}
use Rattle.rules_by_group.specs.Group.{Finished, finished_of}
use Rattle.lists.specs.Calls.{TombstonesAdded}
use Rattle.room.specs.Layout.{waiting_of}

unfoldable pub tombs_of : List LogItem → List LogItem
tombs_of xs = select (λ it. is_tombstone it.content) xs

-- what the newer room us, ds finishes of group g in the older room ws, vs
abbrev pub finished_in : ℕ → List ℕ → List ℕ → List ℕ → List ℕ → Option Finished
finished_in g ws vs us ds = finished_of (lookup numbers g (waiting_of us ds)) (lookup numbers g (waiting_of ws vs))

-- ---- kept behind other tombstones

-- of the items xs those of `rest` are left; the tombstones among the others are kept
pub record Keeping (xs rest : List LogItem) (ys cs ys' cs' : List ℕ) : Type 0 where
  pub front : List LogItem
  pub splits : tombs_of xs ≡ front ++ tombs_of rest
  pub added : TombstonesAdded front ys cs ys' cs'
