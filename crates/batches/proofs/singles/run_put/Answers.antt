-- `batches::singles::run_put` meets its contract. Assumes nothing.
use Rattle.batches.proofs.singles.run_put.Goals as goal

pub put_item-requires : goal.put_item-requires
put_item-requires c = c.requires.single.nine

pub run_single-requires-clause-single : goal.run_single-requires-clause-single
run_single-requires-clause-single c = rw c.put_item.ensures c.requires.single
