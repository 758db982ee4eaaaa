-- `stretch::entries::append` meets its contract. Assumes nothing.
use Prim.Native.Nat.{◌/◌}
use lib.ListN.{length}
use Rattle.cells.specs.Part.{part}
use Rattle.pipe_log.specs.Rows.{window}
use Rattle.rules.specs.Table.{appended}
use Rattle.stretch.specs.Stretch.{head_part, entry_rows_at}
use Rattle.stretch.proofs.EntryWays.{laying}
use Rattle.stretch.proofs.Reaches.{append-keeps, laying-leaves}
use Rattle.stretch.proofs.entries.append.Goals as goal

pub returns : goal.returns
unfolding entry_rows_at part
returns c =
    record { by_index = λ b w. laying _ _ c.args.p.now c.append-answer.new.part c.args.rows.now c.append-answer.auto.part _ _ b w _ (rw c.head_in-head.ensures at c.append-answer.ensures) c.settle.ensures.0 c.settle.ensures.1; leaves_rows = laying-leaves c.args.keys_at c.args.p.now c.append-answer.new.part c.requires.numbers_at c.append-answer.auto.part _ (appended c.args.live (window c.args.first (length c.args.rows.now / 8) c.args.rows.now)) 0 c.args.first c.args.rows.now c.requires.lent (append-keeps c.args.live (head_part c.args.p.now) (entry_rows_at c.args.keys_at c.args.p.now) c.args.first c.args.rows.now) _ (rw c.head_in-head.ensures at c.append-answer.ensures) c.settle.ensures.1 }
