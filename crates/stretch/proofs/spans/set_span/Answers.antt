-- `stretch::spans::set_span` meets its contract. Assumes nothing.
use Rattle.std.proofs.lemmas.Result.{err_from_is_err_and}
use Rattle.stretch.proofs.SpanWays.{span-done, span-back}
use Rattle.stretch.proofs.spans.set_span.Goals as goal

pub returns-in_err-next : goal.returns-in_err-next
returns-in_err-next c =
    let q = err_from_is_err_and c.from_residual.result c.from_residual.ensures.1 in
    λ w b o. rw (q.1, q.2) (span-back w c.args.p.now b o _ _ _ (rw (c.head_in-head.ensures, c.in_err-next.was) at c.apply_rewrite_atomic_group.ensures))

pub returns : goal.returns
returns c = λ w b o. rw c.write_head.ensures (span-done w c.args.p.now b o _ _ _ (rw (c.head_in-head.ensures, c.in_ok-next.was) at c.apply_rewrite_atomic_group.ensures))
