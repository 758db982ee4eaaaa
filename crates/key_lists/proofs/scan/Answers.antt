-- `key_lists::scan` meets its contract. Assumes nothing.
use mathlib.Core.Path.{sym, ◌∙◌}
use Prim.Native.Nat.{◌≤◌}
use native.Mathlib.Omega.{arith}
use Rattle.std.specs.Prelude.{option_copied}
use Rattle.kvs.specs.Places.{below_bound}
use Rattle.kvs.specs.Stretches.{low-high}
use Rattle.key_lists.proofs.Answers.{scan-bounds, scan-none, scan-stretch}
use Rattle.key_lists.proofs.scan.Goals as goal
use Rattle.key_lists.proofs.scan.Goals.{then-start_above_end-via-then-start_above_end, then-start_above_end-via-else-start_above_end+then-count-eq0}

pub returns-then-start_above_end : goal.returns-then-start_above_end
returns-then-start_above_end c = λ t k.
    elim c.then-start_above_end.branch [
      | then-start_above_end-via-then-start_above_end w ↦ scan-bounds _ t k _ _ _ _ _ _ (sym c.start_above_end.ensures ∙ w.if-start_above_end.true)
      | then-start_above_end-via-else-start_above_end+then-count-eq0 w ↦ scan-none _ t k _ _ _ _ _ _ (sym c.start_above_end.ensures ∙ w.if-start_above_end.false) w.if-count-eq0.true
    ]

pub fill_stretch-requires : goal.fill_stretch-requires
fill_stretch-requires c =
    let m = c.args.keys.now in
    let start = option_copied c.args.start in
    let end = option_copied c.args.end in
    let l : below_bound 0 start m ≤ below_bound c.len.result end m =
    rw c.len.ensures.value (low-high m c.len.ensures.ascending start end (sym c.start_above_end.ensures ∙ c.if-start_above_end.false)) in
    (omega (arith, c.below_bound-low.ensures.value, c.below_bound-high.ensures.value), c.below_bound-high.ensures.upper_bound)

pub returns : goal.returns
returns c =
    λ t k. scan-stretch c.args.keys.now t k (option_copied c.args.start) (option_copied c.args.end) c.args.backwards c.args.count _ _ _ _ _ c.len.result _ _ c.len.ensures.ascending (sym c.start_above_end.ensures ∙ c.if-start_above_end.false) c.if-count-eq0.false (sym c.len.ensures.value) c.below_bound-low.ensures.value c.below_bound-high.ensures.value c.fill_stretch.ensures
