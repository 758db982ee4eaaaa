-- `stretch::entries::rewrite` meets its contract. Assumes nothing.
use Rattle.cells.specs.Part.{part}
use Rattle.stretch.specs.Stretch.{entry_rows_at}
use Rattle.stretch.proofs.EntryWays.{moving}
use Rattle.stretch.proofs.Reaches.{moving-leaves}
use Rattle.stretch.proofs.entries.rewrite.Goals as goal

pub returns : goal.returns
unfolding entry_rows_at part
returns c =
    record { by_index = λ b w. moving _ _ _ c.args.p.now c.rewrite-answer.new.part c.args.rows.now c.rewrite-answer.auto.part _ _ b w _ (rw c.head_in-head.ensures at c.rewrite-answer.ensures) c.settle.ensures.0 c.settle.ensures.1; leaves_rows = moving-leaves c.args.keys_at c.args.p.now c.rewrite-answer.new.part c.requires.numbers_at c.rewrite-answer.auto.part _ _ c.args.first c.args.rows.now _ (rw c.head_in-head.ensures at c.rewrite-answer.ensures) c.settle.ensures.1 }
