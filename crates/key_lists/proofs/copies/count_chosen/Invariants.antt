-- `key_lists::copies::count_chosen` meets its contract: the count is that of the keys passed. Assumes nothing.
use mathlib.Core.Path.{◌≡◌}
use Prim.Native.Nat.{◌+◌, ◌≤◌}
use lib.ListN.{length}
use Rattle.key_lists.specs.Lists.{meets}
use Rattle.kvs.proofs.Selected.{selected}
use Rattle.key_lists.proofs.copies.count_chosen.Given as goal

abbrev pub invariant-loop-i : goal.invariant-loop-i
invariant-loop-i l = (l.count ≤ l.i) × (l.count + length (selected (meets l.which) l.keys l.i) ≡ length (selected (meets l.which) l.keys 0))
