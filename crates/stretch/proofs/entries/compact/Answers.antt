-- `stretch::entries::compact` meets its contract. Assumes nothing.
use Rattle.cells.specs.Part.{part}
use Rattle.stretch.specs.Stretch.{entry_rows_at}
use Rattle.stretch.proofs.EntryWays.{compacting}
use Rattle.stretch.proofs.Reaches.{compacting-leaves}
use Rattle.stretch.proofs.entries.compact.Goals as goal

pub returns : goal.returns
unfolding entry_rows_at part
returns c =
    record { by_index = λ b w. compacting _ _ c.args.p.now c.compact_to-answer.new.part c.compact_to-answer.auto.part _ _ b w (rw c.head_in-head.ensures at c.compact_to-answer.ensures) c.write_head.ensures; leaves_rows = compacting-leaves c.args.keys_at c.args.p.now c.compact_to-answer.new.part c.requires c.compact_to-answer.auto.part _ _ c.write_head.ensures }
