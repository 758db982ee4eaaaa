-- `stretch::spans::write_span` meets its contract. Assumes nothing.
use Rattle.stretch.proofs.SpanWays.{span-written}
use Rattle.stretch.proofs.spans.write_span.Goals as goal

pub returns : goal.returns
returns c = λ w b o. rw (c.write_head.ensures, c.head_in-head.ensures) (span-written w c.args.p.now b o _)
