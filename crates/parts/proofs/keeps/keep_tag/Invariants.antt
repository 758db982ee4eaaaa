-- `parts::keeps::keep_tag` meets its contract. Assumes nothing.
use Prim.Native.Nat.{◌+◌, ◌≤◌}
use lib.ListN.{length, get_or, drop}
use Rattle.stores.specs.Tags.{tagged_in, items_with}
use Rattle.parts.specs.Finals.{tombs_of, Keeping}
use Rattle.parts.proofs.keeps.keep_tag.Given as goal

abbrev pub invariant-loop-j : goal.invariant-loop-j
invariant-loop-j l = Keeping (items_with l.tag (tagged_in l.items)) (items_with l.tag (drop l.j (tagged_in l.items))) l.initial.ys l.initial.cs l.ys l.cs × (get_or l.ys 1 0 + length (tombs_of (items_with l.tag (drop l.j (tagged_in l.items)))) ≤ 64)
