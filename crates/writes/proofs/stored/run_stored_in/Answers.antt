-- `writes::stored::run_stored_in` meets its contract. Assumes nothing.
use mathlib.Core.Path.{sym, ◌∙◌}
use Rattle.contexts.specs.AreaLaws.{area-length}
use Rattle.writes.specs.StoredLaws.{count_same, stored-start, passed_now, stored_more, stored_refused, stored_all}
use Rattle.writes.proofs.stored.run_stored_in.Goals as goal

pub stored_count-n-requires : goal.stored_count-n-requires
stored_count-n-requires c = area-length _ _ c.requires.formed

pub loop-j-init : goal.loop-j-init
loop-j-init c = (stored-start c.args.tag c.args.xs.now c.args.bs.now c.requires.formed c.requires.undoable c.requires.keeping c.requires.bs_value, c.requires.rows_len.0, c.requires.rows_len.1)

pub stored_turn-requires : goal.stored_turn-requires
stored_turn-requires c =
    let i = c.loop-j.invariant.0 in record { formed = i.formed; undoable = i.back.undo.undoable; j_bound = rw (c.stored_count-n.ensures ∙ sym (count_same _ _ _ _ i.back.room)) at c.loop-j-test.true; bs_value = passed_now _ _ _ _ _ _ i; keeping = i.own; rows_len = (c.loop-j.invariant.1, c.loop-j.invariant.2) }

pub returns-in-Err : goal.returns-in-Err
returns-in-Err c = stored_refused _ _ _ _ _ _ c.loop-j.invariant.0 _ _ _ c.stored_turn.ensures _ _ c.in-Err.is

pub loop-j-preserved : goal.loop-j-preserved
loop-j-preserved c =
    (stored_more _ _ _ _ _ _ c.loop-j.invariant.0 _ _ _ c.stored_turn.ensures c.in_default.is, c.stored_turn.auto.rows ∙ c.loop-j.invariant.1, c.stored_turn.auto.text ∙ c.loop-j.invariant.2)

pub returns : goal.returns
returns c = stored_all _ _ _ _ _ _ c.loop-j.invariant.0 _ (rw c.stored_count-n.ensures at c.loop-j-test.false) c.requires.formed
