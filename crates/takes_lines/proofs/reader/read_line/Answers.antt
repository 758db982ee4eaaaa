-- `takes_lines::reader::read_line` meets its contract. Assumes nothing.
use Rattle.std.proofs.Common.{arith}
use Rattle.takes_lines.specs.Answers.{line-says}
use Rattle.takes_lines.proofs.reader.read_line.Goals as goal

pub returns : goal.returns
returns c =
    line-says c.start.result c.feed_all-reader.result c.args.text.now c.args.rows.now c.args.bytes.now _ _ _ _ _ c.start.ensures c.feed_all-reader.ensures (omega arith) c.finish.ensures
