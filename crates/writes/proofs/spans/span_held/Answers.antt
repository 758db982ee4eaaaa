-- `writes::spans::span_held` meets its contract. Assumes nothing.
use Rattle.groups.specs.Laws.{found_at_lem}
use Rattle.writes.proofs.SpanWays.{not_free, not_full}
use Rattle.writes.proofs.spans.span_held.Goals as goal

pub span_at-requires : goal.span_at-requires
span_at-requires c = record { in_bounds = c.requires; k_bound = (found_at_lem _ _ _ _ c.find-slot.ensures c.in-At.is).inside }

pub returns-in-At : goal.returns-in-At
returns-in-At c = λ bs t w h. c.span_at.ensures _ bs w (found_at_lem _ _ _ _ c.find-slot.ensures c.in-At.is)

pub returns-in-Free : goal.returns-in-Free
returns-in-Free c = λ bs t w h. not_free _ _ c.args.xs.now bs _ t c.find-slot.ensures c.in-Free.is h

pub returns-in-Full : goal.returns-in-Full
returns-in-Full c = λ bs t w h. not_full _ c.args.xs.now bs _ t c.find-slot.ensures c.in-Full.is h
