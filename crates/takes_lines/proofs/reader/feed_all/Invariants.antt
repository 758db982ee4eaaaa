-- `takes_lines::reader::feed_all` meets its contract. The loop's invariant: the bytes passed are read. Assumes nothing.
use lib.ListN.{take}
use Rattle.takes_lines.specs.Views.{Feeds}
use Rattle.takes_lines.proofs.reader.feed_all.Given as goal

abbrev pub invariant-loop-b : goal.invariant-loop-b
invariant-loop-b l = Feeds l.initial.reader l.initial.rows l.initial.bytes l.reader l.rows l.bytes (take l.b-index l.text)
