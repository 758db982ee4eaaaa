-- `writes::spans::set_span` meets its contract. Assumes nothing.
use Rattle.std.proofs.lemmas.Result.{err_from_is_err_and}
use Rattle.writes.specs.SpanLaws.{held_now, ended-full, ended_back, ended-done}
use Rattle.writes.proofs.spans.set_span.Goals as goal

pub returns-in-Err : goal.returns-in-Err
returns-in-Err c = ended-full c.args.group c.args.at _ c.args.xs.now c.args.bs.now c.requires.formed _ _ _ (rw c.in-Err.is at c.make_group-made.ensures)

pub span_held-requires : goal.span_held-requires
span_held-requires c = c.make_group-made.ensures.wf.numbers_fit

pub returns-in_err-span_held : goal.returns-in_err-span_held
returns-in_err-span_held c =
    let x = err_from_is_err_and c.from_residual.result c.from_residual.ensures.1 in
    rw (x.1, x.2) (ended_back c.args.group c.args.at _ c.args.xs.now c.args.bs.now c.requires.formed _ _ (rw c.in_default.is at c.make_group-made.ensures) _ _ (rw c.in_err-span_held.was at (c.span_held.ensures _ _ c.make_group-made.ensures.wf (held_now c.args.group c.args.at (record { start = c.args.start; end = c.args.end }) c.args.xs.now c.args.bs.now c.requires.formed _ _ (rw c.in_default.is at c.make_group-made.ensures)))))

pub returns : goal.returns
returns c =
    ended-done c.args.group c.args.at _ c.args.xs.now c.args.bs.now c.requires.formed _ _ (rw c.in_default.is at c.make_group-made.ensures) _ (rw c.in_ok-span_held.was at (c.span_held.ensures _ _ c.make_group-made.ensures.wf (held_now c.args.group c.args.at (record { start = c.args.start; end = c.args.end }) c.args.xs.now c.args.bs.now c.requires.formed _ _ (rw c.in_default.is at c.make_group-made.ensures))))
