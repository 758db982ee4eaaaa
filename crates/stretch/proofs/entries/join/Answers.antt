-- `stretch::entries::join` meets its contract. Assumes nothing.
use Rattle.cells.specs.Part.{part}
use Rattle.stretch.specs.Stretch.{entry_rows_at}
use Rattle.stretch.proofs.EntryWays.{laying}
use Rattle.stretch.proofs.entries.join.Goals as goal

pub returns : goal.returns
unfolding entry_rows_at part
returns c =
    λ b w. laying _ _ c.args.p.now c.merge_append_table-answer.new.part c.args.rows.now c.merge_append_table-answer.auto.part _ _ b w _ (rw c.head_in-head.ensures at c.merge_append_table-answer.ensures) c.settle.ensures.0 c.settle.ensures.1
