-- `key_lists::copies::copy_stretch` meets its contract: after each turn the first j rows of the stretch are laid in. Assumes nothing.
use mathlib.Core.Path.{◌≡◌}
use Prim.Native.Nat.{◌-◌}
use lib.ListN.{length, take}
use Rattle.key_lists.specs.Lists.{lent_lens, lent_bytes, stretch}
use Rattle.key_lists.proofs.copies.copy_stretch.Given as goal

abbrev pub invariant-loop-j : goal.invariant-loop-j
invariant-loop-j l = (l.count ≡ l.high - l.low) × (length l.lens ≡ length l.initial.lens) × (length l.out ≡ length l.initial.out) × (l.lens ≡ lent_lens 0 (take l.j (stretch l.low l.high l.backwards l.keys)) l.initial.lens) × (l.out ≡ lent_bytes 0 (take l.j (stretch l.low l.high l.backwards l.keys)) l.initial.out)
