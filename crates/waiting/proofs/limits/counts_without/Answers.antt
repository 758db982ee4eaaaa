-- `waiting::limits::counts_without` meets its contract. Assumes nothing.
use Rattle.waiting.proofs.Limiting.{counted_below, counted-left}
use Rattle.waiting.proofs.Forming.{tag-there}
use native.Mathlib.Omega.{arith}
use mathlib.Core.Path.{sym}
use Rattle.waiting.proofs.limits.counts_without.Goals as goal

pub overflow_sub-result : goal.overflow_sub-result
overflow_sub-result c =
    let b = (counted_below _ _ _ _ _ c.count_in-freed.ensures c.requires.ws_value).0 in
    omega arith

pub overflow_sub-result-2 : goal.overflow_sub-result-2
overflow_sub-result-2 c =
    let b = (counted_below _ _ _ _ _ c.count_in-freed.ensures c.requires.ws_value).1 in
    omega arith

pub returns : goal.returns
returns c = counted-left _ _ _ _ _ c.count_in-freed.ensures c.requires.ws_value _ (sym (tag-there c.args.cells c.args.ws.now c.args.k c.requires.ws_len.1))
