-- `records::fill::fill_records` meets its contract. Assumes nothing.
use mathlib.Core.Path.{◌≡◌}
use Rattle.std.specs.Prelude.{drop}
use Rattle.cells.specs.Part.{put}
use Rattle.pipe_log.specs.Rows.{window}
use Rattle.records.proofs.fill.fill_records.Given as goal

abbrev pub invariant-loop-i : goal.invariant-loop-i
invariant-loop-i l = l.out ≡ put l.initial.out 0 (window l.plan.first l.i (drop l.plan.at l.xs))
