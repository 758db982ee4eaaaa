-- `cells::fill` meets its contract: after i turns i places are written. Assumes nothing.
use Prim.Native.Nat.{ℕ, ◌+◌, ◌-◌, ◌<◌}
use native.Mathlib.Nat.{add-zero}
use native.Mathlib.Omega.{arith}
use mathlib.Core.Path.{◌≡◌, sym}
use mathlib.Core.List.{List}
use lib.ListN.{length, replicate, set, drop, length-replicate, length-take, length-drop, replicate-append-replicate}
use Rattle.cells.specs.Part.{put}
use Rattle.cells.specs.PartLaws.{put-nil, put-snoc, loan-put-in}
use Rattle.cells.proofs.fill.Goals as goal

one_more : {A : Type 0} (d : List A) (i : ℕ) (v : A) → i < length d → set (put d 0 (replicate i v)) i v ≡ put d 0 (replicate (i + 1) v)
one_more d i v h =
    let e : 0 + length (replicate i v) ≡ i = omega (arith, length-replicate i v) in
    rw (← replicate-append-replicate i 1 v) (rw e at (put-snoc d 0 (replicate i v) v (rw e h)))

pub loop-place-init : goal.loop-place-init
loop-place-init g c = sym (put-nil _ 0)

pub loop-place-preserved : goal.loop-place-preserved
loop-place-preserved g c = rw c.loop-place.invariant (one_more _ _ _ c.loop-place-test.true)

pub returns : goal.returns
returns g c =
    let n = length-replicate c.args.count c.args.value in
    let k = length-take (c.args.at + c.args.count - c.args.at) (drop c.args.at c.args.s.now) in
    let e : c.loop-place.place-index ≡ c.args.count = omega (arith, length-drop c.args.at c.args.s.now) in
    loan-put-in _ _ _ _ 0 _ _ (rw e at c.loop-place.invariant) (add-zero _) (omega arith) (omega arith)
