-- Each number moves on.
use Rattle.std.proofs.Common.{◌≤◌, length}
use Rattle.batch_cases.proofs.case.next_rows.Given as goal

abbrev pub invariant-loop-i : goal.invariant-loop-i
invariant-loop-i l = length l.text.now ≤ length l.initial.text.now
