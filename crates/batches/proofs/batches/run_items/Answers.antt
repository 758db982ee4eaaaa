-- `batches::batches::run_items` meets its contract. Assumes nothing.
use borrow.Author.Rules.{part_to_end}
use Rattle.batches.specs.BatchLaws.{begun-context}
use Rattle.batches.proofs.BatchWays.{under-start, under_more, under_back, under-refused, under_all}
use Rattle.batches.proofs.batches.run_items.Goals as goal

pub counts_in-counts-requires : goal.counts_in-counts-requires
counts_in-counts-requires c = rw (part_to_end c.args.xs.now 9376) c.requires.formed.rest.numbers-are

pub loop-i-init : goal.loop-i-init
loop-i-init c = under-start _ _ _ _ _ c.args.xs.now c.args.bs.now _ _ _ c.requires.formed (c.begin.ensures _ c.requires.formed.groups) c.counts_in-counts.ensures.0 c.counts_in-counts.ensures.1 c.requires.keeping

pub turn-requires : goal.turn-requires
turn-requires c =
    record { formed = c.loop-i.invariant.formed; undoable = (c.loop-i.invariant.going c.loop-i-test.true).undoable; i_bound = rw c.row_count-n.ensures at c.loop-i-test.true; passed = c.requires.passed; keeping = c.loop-i.invariant.own }

pub go_back-requires : goal.go_back-requires
go_back-requires c =
    let s = rw c.in-Err.is at c.turn.ensures in let g = under_back _ _ _ _ _ _ _ _ _ _ _ _ c.loop-i.invariant c.loop-i-test.true _ _ _ s in record { formed = s.formed; undoable = g.undoable; wf = g.lists-wf }

pub returns-in-Err : goal.returns-in-Err
returns-in-Err c =
    under-refused _ _ _ _ _ _ _ _ _ _ _ _ c.loop-i.invariant c.loop-i-test.true _ _ _ _ _ (rw c.in-Err.is at c.turn.ensures) c.go_back.ensures _ _ (begun-context c.args.xs.now c.args.bs.now _ c.requires.formed (c.begin.ensures _ c.requires.formed.groups)) c.row_count-n.ensures

pub loop-i-preserved : goal.loop-i-preserved
loop-i-preserved c = under_more _ _ _ _ _ _ _ _ _ _ _ _ c.loop-i.invariant c.loop-i-test.true c.row_count-n.ensures c.requires.passed _ _ (rw c.in_default.is at c.turn.ensures)

pub returns : goal.returns
returns c =
    under_all _ _ _ _ _ _ _ _ _ _ _ _ c.loop-i.invariant c.loop-i-test.false _ _ (begun-context c.args.xs.now c.args.bs.now _ c.requires.formed (c.begin.ensures _ c.requires.formed.groups)) c.row_count-n.ensures
