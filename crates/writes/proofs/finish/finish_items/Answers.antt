-- `writes::finish::finish_items` meets its contract. Assumes nothing.
use borrow.Author.Rules.{part_to_end}
use Rattle.contexts.specs.AreaLaws.{area-length}
use Rattle.batches.specs.BatchLaws.{begun-room, begun-formed, begun-context}
use Rattle.writes.specs.StoredLaws.{stored_same}
use Rattle.writes.specs.FinishLaws.{ends-none, ends_back, ends-refused, ends-done}
use Rattle.writes.proofs.FinishWays.{room_most, finish-going}
use Rattle.writes.proofs.finish.finish_items.Goals as goal

pub has_items-requires : goal.has_items-requires
has_items-requires c = (area-length _ _ c.requires.formed, room_most c.args.xs.now c.args.bs.now c.requires.formed)

pub returns-then-not-has_items : goal.returns-then-not-has_items
returns-then-not-has_items c = ends-none _ _ _ _ _ c.args.xs.now c.args.bs.now c.requires.formed (rw c.if-not-has_items.true at (c.has_items.ensures c.args.mark.at c.args.bs.now c.requires.formed))

pub counts_in-counts-requires : goal.counts_in-counts-requires
counts_in-counts-requires c = rw (part_to_end c.args.xs.now 9376) c.requires.formed.rest.numbers-are

pub run_both-answer-requires : goal.run_both-answer-requires
run_both-answer-requires c =
    record { formed = begun-formed c.args.xs.now c.args.bs.now _ c.requires.formed (c.begin.ensures _ c.requires.formed.groups); undoable = (c.begin.ensures _ c.requires.formed.groups).undoable; bs_value = rw (stored_same _ 0 c.args.xs.now c.args.bs.now _ _ (begun-room c.args.xs.now c.args.bs.now _ c.requires.formed (c.begin.ensures _ c.requires.formed.groups))) c.requires.bs_value; keeping = rw (begun-context c.args.xs.now c.args.bs.now _ c.requires.formed (c.begin.ensures _ c.requires.formed.groups)) c.requires.keeping }

pub go_back-requires : goal.go_back-requires
go_back-requires c =
    let g = ends_back _ _ _ _ _ c.args.xs.now c.args.bs.now c.requires.formed (rw c.if-not-has_items.false at (c.has_items.ensures c.args.mark.at c.args.bs.now c.requires.formed)) _ (begun-room c.args.xs.now c.args.bs.now _ c.requires.formed (c.begin.ensures _ c.requires.formed.groups)) (begun-context c.args.xs.now c.args.bs.now _ c.requires.formed (c.begin.ensures _ c.requires.formed.groups)) _ _ (finish-going c.args.xs.now c.args.bs.now _ _ _ c.requires.formed (c.begin.ensures _ c.requires.formed.groups) c.counts_in-counts.ensures.0 c.counts_in-counts.ensures.1) _ _ _ _ (rw c.in-Err.is at c.run_both-answer.ensures) in record { formed = (rw c.in-Err.is at c.run_both-answer.ensures).formed; undoable = g.undoable; wf = g.lists-wf }

pub returns-in-Err : goal.returns-in-Err
returns-in-Err c =
    ends-refused _ _ _ _ _ c.args.xs.now c.args.bs.now c.requires.formed (rw c.if-not-has_items.false at (c.has_items.ensures c.args.mark.at c.args.bs.now c.requires.formed)) _ (begun-room c.args.xs.now c.args.bs.now _ c.requires.formed (c.begin.ensures _ c.requires.formed.groups)) (begun-context c.args.xs.now c.args.bs.now _ c.requires.formed (c.begin.ensures _ c.requires.formed.groups)) _ _ (finish-going c.args.xs.now c.args.bs.now _ _ _ c.requires.formed (c.begin.ensures _ c.requires.formed.groups) c.counts_in-counts.ensures.0 c.counts_in-counts.ensures.1) _ _ _ _ (rw c.in-Err.is at c.run_both-answer.ensures) _ _ c.go_back.ensures

pub returns : goal.returns
returns c =
    ends-done _ _ _ _ _ c.args.xs.now c.args.bs.now c.requires.formed (rw c.if-not-has_items.false at (c.has_items.ensures c.args.mark.at c.args.bs.now c.requires.formed)) _ (begun-room c.args.xs.now c.args.bs.now _ c.requires.formed (c.begin.ensures _ c.requires.formed.groups)) (begun-context c.args.xs.now c.args.bs.now _ c.requires.formed (c.begin.ensures _ c.requires.formed.groups)) _ _ (rw c.in_default.is at c.run_both-answer.ensures)
