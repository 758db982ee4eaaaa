-- `parts::finals::count_tag` meets its contract. Assumes nothing.
use mathlib.Core.Path.{◌≡◌}
use Prim.Native.Nat.{◌+◌, ◌≤◌}
use lib.ListN.{length, drop}
use Rattle.stores.specs.Tags.{tagged_in, items_with}
use Rattle.parts.specs.Finals.{tombs_of}
use Rattle.parts.proofs.finals.count_tag.Given as goal

abbrev pub invariant-loop-j : goal.invariant-loop-j
invariant-loop-j l = (l.count ≤ l.j) × (l.count + length (tombs_of (items_with l.tag (drop l.j (tagged_in l.items)))) ≡ length (tombs_of (items_with l.tag (tagged_in l.items))))
