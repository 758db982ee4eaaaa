-- `batches::singles::run_list` meets its contract. Assumes nothing.
use Rattle.batches.proofs.singles.run_list.Goals as goal

pub list_item-requires : goal.list_item-requires
list_item-requires c = c.requires.single.nine

pub run_single-requires-clause-single : goal.run_single-requires-clause-single
run_single-requires-clause-single c = rw c.list_item.ensures c.requires.single
