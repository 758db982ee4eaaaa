-- `writes::spans::span_at` meets its contract. Assumes nothing.
use Rattle.writes.proofs.SpanWays.{spanned_at}
use Rattle.writes.proofs.spans.span_at.Goals as goal

pub returns : goal.returns
returns c = λ g bs w a. spanned_at c.args.k _ c.args.xs.now _ _ c.requires.k_bound c.requires.in_bounds c.set_span.auto.p c.set_span.ensures g bs w a
