-- `kvs::Keys::find` meets its contract: the stretch of keys that is left has the place of the whole. Assumes nothing.
use mathlib.Core.Path.{◌≡◌}
use Prim.Native.Nat.{◌-◌, ◌≤◌}
use lib.ListN.{length}
use Rattle.cells.specs.Part.{part}
use Rattle.kvs.specs.Places.{place_of, place_from}
use Rattle.kvs.proofs.keys.Keys.find.Given as goal

abbrev pub invariant-loop-low : goal.invariant-loop-low
invariant-loop-low l = (l.low ≤ l.high) × (l.high ≤ length l.self) × (place_of l.key l.self ≡ place_from l.low l.key (part l.low (l.high - l.low) l.self))

abbrev pub decreases-loop-low : goal.decreases-loop-low
decreases-loop-low l = l.high - l.low
