-- `cells::order::compare_u8` meets its contract: what is left after the words that are the same is ordered as the whole. Assumes nothing.
use mathlib.Core.Path.{◌≡◌}
use Prim.Native.Nat.{◌+◌, ◌*◌}
use lib.ListN.{drop, length}
use Rattle.std.specs.Ordering.{nat_cmp}
use Rattle.std.specs.Cmp.Lexicographic.{slice_cmp}
use Rattle.cells.specs.Bytes.{byte_order}
use Rattle.cells.proofs.order.compare_u8.Given as goal

abbrev pub invariant-loop-x : goal.invariant-loop-x
invariant-loop-x l = byte_order l.a l.b ≡ slice_cmp nat_cmp (drop (length l.yielded * 8) l.a) (drop (length l.yielded * 8) l.b)

abbrev pub invariant-loop-v : goal.invariant-loop-v
invariant-loop-v l = byte_order l.a l.b ≡ slice_cmp nat_cmp (drop (l.compared + length l.yielded) l.a) (drop (l.compared + length l.yielded) l.b)
