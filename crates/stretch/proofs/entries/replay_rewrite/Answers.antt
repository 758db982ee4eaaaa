-- `stretch::entries::replay_rewrite` meets its contract. Assumes nothing.
use Rattle.cells.specs.Part.{part}
use Rattle.stretch.specs.Stretch.{head_part, entry_rows_at}
use Rattle.stretch.proofs.EntryWays.{laying}
use Rattle.stretch.proofs.Reaches.{replay-keeps, laying-leaves}
use Rattle.stretch.proofs.entries.replay_rewrite.Goals as goal

pub returns : goal.returns
unfolding entry_rows_at part
returns c =
    record { by_index = λ b w. laying _ _ c.args.p.now c.replay_rewrite-answer.new.part c.args.rows.now c.replay_rewrite-answer.auto.part _ _ b w _ (rw c.head_in-head.ensures at c.replay_rewrite-answer.ensures) c.settle.ensures.0 c.settle.ensures.1; leaves_rows = laying-leaves c.args.keys_at c.args.p.now c.replay_rewrite-answer.new.part c.requires.numbers_at c.replay_rewrite-answer.auto.part _ _ 1 c.args.first c.args.rows.now c.requires.lent (replay-keeps (head_part c.args.p.now) (entry_rows_at c.args.keys_at c.args.p.now) c.args.first c.args.rows.now) _ (rw c.head_in-head.ensures at c.replay_rewrite-answer.ensures) c.settle.ensures.1 }
