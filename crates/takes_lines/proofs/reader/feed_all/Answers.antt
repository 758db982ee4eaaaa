-- `takes_lines::reader::feed_all` meets its contract. Assumes nothing.
use Rattle.takes_lines.proofs.ReadWays.{feed_none, feed_more}
use Rattle.takes_lines.proofs.reader.feed_all.Goals as goal

pub loop-b-init : goal.loop-b-init
loop-b-init c = feed_none c.args.reader c.args.rows.now c.args.bytes.now c.args.text.now

pub loop-b-preserved : goal.loop-b-preserved
loop-b-preserved c =
    feed_more c.args.reader c.args.rows.now c.args.bytes.now c.args.text.now c.loop-b.b-index c.loop-b.reader c.loop-b.rows c.loop-b.bytes _ _ _ c.loop-b-test.true c.loop-b.invariant c.feed-reader.ensures
