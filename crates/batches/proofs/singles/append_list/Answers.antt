-- `batches::singles::append_list` meets its contract. Assumes nothing.
use Rattle.stretch.specs.Changes.{Ready}
use Rattle.groups.specs.Laws.{found_at_lem}
use Rattle.batches.specs.Singles.{append_call}
use Rattle.batches.specs.SingleLaws.{append-change, list-within, list-rows, list-ready, list-answer}
use Rattle.batches.proofs.singles.append_list.Goals as goal

pub run_list-requires : goal.run_list-requires
run_list-requires c = rw c.append_call.ensures (record { formed = c.requires.formed; single = c.requires.single_list.single; keeping = c.requires.keeping })

pub returns-in_default : goal.returns-in_default
returns-in_default c = rw c.append_call.ensures at c.run_list.ensures

pub rows_in-rows-requires : goal.rows_in-rows-requires
rows_in-rows-requires c =
    let batch = c.args.batch.now in
    rw c.list_item.ensures (list-within (append_call c.args.live) batch.items.now batch.entries.now batch.bytes.now c.requires.single_list)

pub bounds-rows-0 : goal.bounds-rows-0
bounds-rows-0 c =
    let batch = c.args.batch.now in
    rw (c.rows_in-rows.ensures, c.list_item.ensures) (list-rows (append_call c.args.live) batch.items.now batch.entries.now batch.bytes.now c.requires.single_list)

pub append_at-requires : goal.append_at-requires
unfolding Ready
append_at-requires c =
    let batch = c.args.batch.now in
    record { wf = c.requires.formed.groups; at_slot = found_at_lem _ _ _ _ c.find-slot.ensures c.in-At.is; lent = rw (c.rows_in-rows.ensures, c.list_item.ensures) (list-ready (append_call c.args.live) batch.items.now batch.entries.now batch.bytes.now c.requires.single_list _ (append-change c.args.live _) c.args.xs.now c.args.bs.now c.requires.formed c.requires.keeping) }

pub returns : goal.returns
returns c =
    let batch = c.args.batch.now in
    rw c.told.ensures (list-answer (append_call c.args.live) batch.items.now batch.entries.now batch.bytes.now c.requires.single_list _ (append-change c.args.live _) c.args.xs.now c.args.bs.now c.requires.formed _ _ _ (rw c.in-At.is at c.find-slot.ensures) (rw (c.rows_in-rows.ensures, c.list_item.ensures) at c.append_at.ensures))
