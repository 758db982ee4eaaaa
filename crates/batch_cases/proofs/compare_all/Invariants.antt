-- Each case moves on, so there are no more cases than bytes.
use Rattle.std.proofs.Common.{◌+◌, ◌≤◌, length}
use Rattle.batch_cases.proofs.compare_all.Given as goal

abbrev pub invariant-loop-text : goal.invariant-loop-text
invariant-loop-text g l = (l.cases + length l.text ≤ length l.initial.text) × (l.differ ≤ l.cases)

abbrev pub decreases-loop-text : goal.decreases-loop-text
decreases-loop-text g l = length l.text
