-- `writes::writes::run_checked` meets its contract. Assumes nothing.
use Rattle.log_batch.specs.Batch.{items_in}
use Rattle.log_batch.specs.Judged.{call_of, mark_of, mark_as}
use Rattle.writes.proofs.WriteWays.{written_run, written-marked, marked-checks, marked-kept}
use Rattle.writes.proofs.writes.run_checked.Goals as goal

pub run_items-requires : goal.run_items-requires
run_items-requires c = record { formed = c.requires.formed; passed = c.requires.passed; keeping = c.requires.keeping }

pub invariant_of-replay_marked : goal.invariant_of-replay_marked
unfolding mark_as
invariant_of-replay_marked c = record { passed = marked-checks _ _ (call_of c.args.call) (rw c.in-Some.is at c.mark_for.ensures) c.requires.passed }

pub replay_marked-requires : goal.replay_marked-requires
unfolding mark_as
replay_marked-requires c =
    let m = rw c.in-Some.is at c.mark_for.ensures in record { formed = c.requires.formed; kept_at = marked-kept _ _ (call_of c.args.call) _ m c.requires.keeping }

pub returns-in-None : goal.returns-in-None
unfolding mark_as
returns-in-None c =
    written_run (call_of c.args.call) c.args.seq (items_in c.args.batch.now) c.args.xs.now c.args.bs.now _ _ _ c.requires.passed (rw c.in-None.is at c.mark_for.ensures) c.run_items.ensures

pub returns-in-Some : goal.returns-in-Some
unfolding mark_as mark_of
returns-in-Some c =
    written-marked (call_of c.args.call) c.args.seq (items_in c.args.batch.now) c.args.xs.now c.args.bs.now _ _ _ c.requires.passed _ (rw c.in-Some.is at c.mark_for.ensures) c.replay_marked.ensures
