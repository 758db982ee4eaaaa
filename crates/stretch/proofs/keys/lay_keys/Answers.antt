-- `stretch::keys::lay_keys` meets its contract. Assumes nothing.
use Rattle.cells.specs.Part.{part}
use Rattle.memtable.specs.Views.{table_of}
use Rattle.stretch.specs.Stretch.{key_count, key_rows_at, key_rows, table_in}
use Rattle.std.proofs.lemmas.Result.{err_from_is_err_and}
use Rattle.stretch.proofs.KeyWays.{merge-done, merge-full}
use Rattle.stretch.proofs.keys.lay_keys.Goals as goal

pub returns-in_err-all : goal.returns-in_err-all
unfolding key_count key_rows_at key_rows part table_in table_of
returns-in_err-all c =
    let q = err_from_is_err_and c.from_residual.result c.from_residual.ensures.1 in
    rw (q.1, q.2) (merge-full _ c.args.p.now c.args.b.now _ _ c.requires.wf_at c.merge_keys.auto.rows _ _ (rw (c.in_err-all.was, c.new-keys.ensures) at c.merge_keys.ensures))

pub returns : goal.returns
unfolding key_count key_rows_at key_rows part table_in table_of
returns c = merge-done _ c.args.p.now c.args.b.now _ _ c.requires.wf_at c.merge_keys.auto.rows _ _ c.merge_keys.auto.bytes (rw (c.in_ok-all.was, c.new-keys.ensures) at c.merge_keys.ensures)
