-- `stretch::keys::put` meets its contract. Assumes nothing.
use Rattle.cells.specs.Part.{part}
use Rattle.stretch.specs.Stretch.{key_count, key_rows_at}
use Rattle.std.proofs.lemmas.Result.{err_from_is_err_and}
use Rattle.stretch.proofs.KeyWays.{put-done, put_full}
use Rattle.stretch.proofs.Reaches.{lent-keys-leave, counted-keys-leave}
use Rattle.stretch.proofs.keys.put.Goals as goal

pub returns-in_err-m : goal.returns-in_err-m
unfolding key_count key_rows_at part
returns-in_err-m c =
    let q = err_from_is_err_and c.from_residual.result c.from_residual.ensures.1 in
    rw (q.1, q.2) record { changed_at = put_full _ c.args.p.now c.args.b.now _ _ c.requires.wf_at c.put.auto.rows _ _ _ (rw c.in_err-m.was at c.put.ensures); p_unchanged = lent-keys-leave c.args.keys_at c.args.p.now c.put.new.rows c.requires.wf_at.numbers c.put.auto.rows }

pub returns : goal.returns
unfolding key_count key_rows_at part
returns c =
    record { changed_at = put-done _ c.args.p.now c.args.b.now _ _ c.requires.wf_at c.put.auto.rows _ _ _ c.put.auto.bytes (rw c.in_ok-m.was at c.put.ensures); p_unchanged = counted-keys-leave c.args.keys_at c.args.p.now c.put.new.rows c.requires.wf_at.numbers c.put.auto.rows _ }
