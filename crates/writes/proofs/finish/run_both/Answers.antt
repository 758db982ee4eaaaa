-- `writes::finish::run_both` meets its contract. Assumes nothing.
use mathlib.Core.Path.{refl}
use Rattle.std.proofs.lemmas.Result.{err_from_is_err_and}
use Rattle.writes.specs.FinishLaws.{both_stored, both_own, both_span}
use Rattle.writes.proofs.finish.run_both.Goals as goal

pub run_stored-requires : goal.run_stored-requires
run_stored-requires c = record { formed = c.requires.formed; undoable = c.requires.undoable; bs_value = c.requires.bs_value; keeping = c.requires.keeping }

pub returns-in_err-run_stored : goal.returns-in_err-run_stored
returns-in_err-run_stored c =
    let x = err_from_is_err_and c.from_residual.result c.from_residual.ensures.1 in
    rw (x.1, x.2) (both_stored _ _ _ _ _ _ _ _ _ _ _ (rw c.in_err-run_stored.was at c.run_stored.ensures))

pub run_own-requires : goal.run_own-requires
run_own-requires c = let r = (rw c.in_ok-run_stored.was at c.run_stored.ensures) in record { formed = r.formed; undoable = r.back.undo.undoable; keeping = r.own refl }

pub returns-in_err-run_own : goal.returns-in_err-run_own
returns-in_err-run_own c =
    let x = err_from_is_err_and c.from_residual-in_err-run_own.result c.from_residual-in_err-run_own.ensures.1 in
    rw (x.1, x.2) (both_own _ _ _ _ _ _ _ _ _ (rw c.in_ok-run_stored.was at c.run_stored.ensures) _ _ _ _ (rw c.in_err-run_own.was at c.run_own.ensures))

pub set_span-requires : goal.set_span-requires
set_span-requires c = let o = (rw c.in_ok-run_own.was at c.run_own.ensures) in record { formed = o.formed; undoable = o.back.undo.undoable }

pub returns : goal.returns
returns c = both_span _ _ _ _ _ _ _ _ _ (rw c.in_ok-run_stored.was at c.run_stored.ensures) _ _ (rw c.in_ok-run_own.was at c.run_own.ensures) _ _ _ c.set_span.ensures
