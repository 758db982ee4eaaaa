-- `stores::count::count_tag` meets its contract: what is counted of the first j rows. Assumes nothing.
use Rattle.stores.specs.CountLaws.{count_below}
use Rattle.stores.specs.StoreLaws.{before_more, before_below}
use Rattle.stores.specs.Stores.{entries_before}
use Prim.Native.Nat.{suc, ◌≤◌}
use native.Mathlib.Omega.{arith}
use Rattle.stores.proofs.count.count_tag.Goals as goal

pub count_row-count-requires-clause-count_le_j : goal.count_row-count-requires-clause-count_le_j
count_row-count-requires-clause-count_le_j c =
    let xs = c.args.items.now in
    let j = c.loop-j.j in
    let test = c.loop-j-test.true in
    let b = count_below c.args.tag j xs c.args.tags.now in
    let p : c.loop-j.count.items ≤ j = rw c.loop-j.invariant b.0 in
    let q : c.loop-j.count.entries ≤ entries_before j xs = rw c.loop-j.invariant b.1 in
    let m = before_more j xs in
    let l = before_below (suc j) c.args.store.items xs test in (p, omega arith)
