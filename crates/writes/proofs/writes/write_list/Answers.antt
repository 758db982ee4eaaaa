-- `writes::writes::write_list` meets its contract. Assumes nothing.
use Rattle.batches.specs.Singles.{append_call}
use Rattle.writes.proofs.writes.write_list.Goals as goal

pub append_list-requires : goal.append_list-requires
unfolding append_call
append_list-requires c = record { formed = c.requires.formed; single_list = rw c.in-LiveAppend.is at c.requires.single_list; keeping = rw c.in-LiveAppend.is at c.requires.keeping }

pub append_list-requires-in-ReplayAppend : goal.append_list-requires-in-ReplayAppend
unfolding append_call
append_list-requires-in-ReplayAppend c = record { formed = c.requires.formed; single_list = rw c.in-ReplayAppend.is at c.requires.single_list; keeping = rw c.in-ReplayAppend.is at c.requires.keeping }

pub returns-in-LiveAppend : goal.returns-in-LiveAppend
unfolding append_call
returns-in-LiveAppend c = rw c.in-LiveAppend.is c.append_list.ensures

pub returns-in-ReplayAppend : goal.returns-in-ReplayAppend
unfolding append_call
returns-in-ReplayAppend c = rw c.in-ReplayAppend.is c.append_list-in-ReplayAppend.ensures
