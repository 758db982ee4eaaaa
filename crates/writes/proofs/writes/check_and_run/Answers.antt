-- `writes::writes::check_and_run` meets its contract. Assumes nothing.
use mathlib.Core.Path.{sym}
use Rattle.log_batch.specs.Batch.{items_in}
use Rattle.log_batch.specs.Judged.{call_of, checked_as}
use Rattle.std.proofs.lemmas.Result.{err_from_is_err_and}
use Rattle.writes.proofs.WriteWays.{written-refused, written_run}
use Rattle.writes.proofs.writes.check_and_run.Goals as goal

pub run_put-requires : goal.run_put-requires
run_put-requires c = record { formed = c.requires.formed; single = c.is_single_put.ensures c.args.batch.now.entries.now c.if-is_single_put.true; keeping = c.requires.keeping }

pub returns-then-is_single_put : goal.returns-then-is_single_put
returns-then-is_single_put c =
    let s = c.is_single_put.ensures c.args.batch.now.entries.now c.if-is_single_put.true in
    written_run (call_of c.args.call) c.args.seq (items_in c.args.batch.now) c.args.xs.now c.args.bs.now _ _ _ s.passes (sym s.unmarked) c.run_put.ensures

pub run_checked-requires : goal.run_checked-requires
unfolding checked_as
run_checked-requires c = record { formed = c.requires.formed; passed = sym (rw c.in_ok-check.was at c.check.ensures); keeping = c.requires.keeping }

pub returns-in_err-check : goal.returns-in_err-check
unfolding checked_as
returns-in_err-check c =
    let x = err_from_is_err_and c.from_residual.result c.from_residual.ensures.1 in
    rw (x.1, x.2) (written-refused (call_of c.args.call) c.args.seq (items_in c.args.batch.now) c.args.xs.now c.args.bs.now _ c.requires.formed (rw c.in_err-check.was at c.check.ensures))

pub returns : goal.returns
returns c = c.run_checked.ensures
