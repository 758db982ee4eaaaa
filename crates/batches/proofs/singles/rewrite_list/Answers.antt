-- `batches::singles::rewrite_list` meets its contract. Assumes nothing.
use mathlib.Core.Path.{refl}
use Rattle.stretch.specs.Changes.{Ready}
use Rattle.groups.specs.Laws.{found_at_lem}
use Rattle.batches.specs.SingleLaws.{list-within, list-rows, list-ready, list-answer}
use Rattle.batches.proofs.singles.rewrite_list.Goals as goal

pub rows_in-rows-requires : goal.rows_in-rows-requires
rows_in-rows-requires c =
    let batch = c.args.batch.now in
    rw c.list_item.ensures (list-within _ batch.items.now batch.entries.now batch.bytes.now c.requires.single_list)

pub bounds-rows-0 : goal.bounds-rows-0
bounds-rows-0 c =
    let batch = c.args.batch.now in
    rw (c.rows_in-rows.ensures, c.list_item.ensures) (list-rows _ batch.items.now batch.entries.now batch.bytes.now c.requires.single_list)

pub rewrite_at-requires : goal.rewrite_at-requires
unfolding Ready
rewrite_at-requires c =
    let batch = c.args.batch.now in
    record { wf = c.requires.formed.groups; at_slot = found_at_lem _ _ _ _ c.find-slot.ensures c.in-At.is; lent = rw (c.rows_in-rows.ensures, c.list_item.ensures) (list-ready _ batch.items.now batch.entries.now batch.bytes.now c.requires.single_list _ refl c.args.xs.now c.args.bs.now c.requires.formed c.requires.keeping) }

pub returns : goal.returns
returns c =
    let batch = c.args.batch.now in
    rw c.told.ensures (list-answer _ batch.items.now batch.entries.now batch.bytes.now c.requires.single_list _ refl c.args.xs.now c.args.bs.now c.requires.formed _ _ _ (rw c.in-At.is at c.find-slot.ensures) (rw (c.rows_in-rows.ensures, c.list_item.ensures) at c.rewrite_at.ensures))
