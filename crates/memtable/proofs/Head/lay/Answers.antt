-- `memtable::Head::lay` meets its contract. Assumes nothing.
use Rattle.std.proofs.lemmas.Result.{err_from_is_err_and}
use Rattle.memtable.proofs.AppendWays.{lay-none, lay_refused, lay-kept}
use Rattle.memtable.proofs.Head.lay.Goals as goal

pub returns-then-rows-eq0 : goal.returns-then-rows-eq0
returns-then-rows-eq0 c = lay-none _ _ _ _ _ _ c.requires.wf c.if-rows-eq0.true

pub returns : goal.returns
returns c = lay-kept _ _ _ _ _ _ c.requires.wf c.requires.lent c.if-rows-eq0.false _ (rw c.in_ok-kept.was at c.prepare_append.ensures) _ _ c.lay_rows.ensures

pub returns-in_err-kept : goal.returns-in_err-kept
returns-in_err-kept c =
    let p = err_from_is_err_and c.from_residual.result c.from_residual.ensures.1 in rw (p.1, p.2) (lay_refused _ _ _ _ _ _ c.requires.wf c.requires.lent c.if-rows-eq0.false _ (rw c.in_err-kept.was at c.prepare_append.ensures))
