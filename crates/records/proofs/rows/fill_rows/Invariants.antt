-- `records::rows::fill_rows` meets its contract: the rows passed are laid in. Assumes nothing.
use mathlib.Core.Path.{◌≡◌}
use lib.ListN.{drop}
use Rattle.cells.specs.Part.{put}
use Rattle.pipe_log.specs.Rows.{window}
use Rattle.records.specs.Rows.{rows_of}
use Rattle.records.proofs.rows.fill_rows.Given as goal

abbrev pub invariant-loop-i : goal.invariant-loop-i
invariant-loop-i l = l.out ≡ put l.initial.out 0 (rows_of (window l.plan.first l.i (drop l.plan.at l.xs)))
