-- `worktable::laying::lay_table` meets its contract. Assumes nothing.
use Rattle.memtable.specs.Views.{table_of}
use Rattle.stretch.specs.Stretch.{table_in}
use Rattle.std.proofs.lemmas.Result.{err_from_is_err_and}
use Rattle.worktable.proofs.LayWays.{newer_few, lay-refused}
use Rattle.worktable.proofs.laying.lay_table.Goals as goal

pub returns-in_err-lay_entries : goal.returns-in_err-lay_entries
unfolding table_in table_of
returns-in_err-lay_entries c =
    let e = err_from_is_err_and c.from_residual.result c.from_residual.ensures.1 in
    rw (e.1, e.2, ← c.in_err-lay_entries.was) (lay-refused _ (table_in c.args.q.now c.args.d.now) _ _ _ c.requires.stands (newer_few _ _ c.requires.wf) c.requires.layable.room _ _ (c.lay_entries.ensures c.args.b.now c.requires.stands.wf) c.lay_entries.auto.p _ c.in_err-lay_entries.was)
