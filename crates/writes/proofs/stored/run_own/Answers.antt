-- `writes::stored::run_own` meets its contract. Assumes nothing.
use Rattle.log_batch.specs.Judged.{call_of}
use Rattle.writes.specs.StoredLaws.{own-start, own-more, own-refused, own_all}
use Rattle.writes.proofs.stored.run_own.Goals as goal

pub loop-i-init : goal.loop-i-init
loop-i-init c = own-start _ _ _ _ c.row_count-n.ensures _ _ c.requires.formed c.requires.undoable c.requires.keeping

pub turn-requires : goal.turn-requires
unfolding call_of
turn-requires c =
    let i = c.loop-i.invariant in record { formed = i.formed; undoable = i.back.undo.undoable; i_bound = rw c.row_count-n.ensures at c.loop-i-test.true; passed = c.args.replay.now.passed; keeping = i.own }

pub returns-in-Err : goal.returns-in-Err
unfolding call_of
returns-in-Err c = own-refused _ _ _ _ c.row_count-n.ensures _ _ _ _ _ c.loop-i.invariant c.loop-i-test.true _ _ _ (rw c.in-Err.is at c.turn.ensures)

pub loop-i-preserved : goal.loop-i-preserved
unfolding call_of
loop-i-preserved c = own-more _ _ _ _ c.row_count-n.ensures _ _ _ _ _ c.loop-i.invariant c.loop-i-test.true c.args.replay.now.passed _ _ (rw c.in_default.is at c.turn.ensures)

pub returns : goal.returns
returns c = own_all _ _ _ _ c.row_count-n.ensures _ _ _ _ _ c.loop-i.invariant c.loop-i-test.false
