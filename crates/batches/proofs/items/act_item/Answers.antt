-- `batches::items::act_item` meets its contract. Assumes nothing.
use Rattle.log_batch.specs.Judged.{call_of}
use Rattle.batches.specs.OwnLaws.{keeping-table}
use Rattle.batches.specs.CarryLaws.{does-ready}
use Rattle.batches.proofs.items.act_item.Goals as goal

pub act-requires : goal.act-requires
act-requires c =
    record { wf = c.requires.wf; undoable = c.requires.undoable; deed_ready = rw (c.deed_of-deed.ensures, c.rows_in-rows.ensures, c.key_in-key.ensures, c.value_in-value.ensures) (does-ready c.args.call c.args.item c.args.entries.now c.args.bytes.now c.requires.item_ready _ (keeping-table (call_of c.args.call) c.args.xs.now c.args.bs.now c.requires.keeping c.args.item.raft_group_id)) }

pub returns : goal.returns
returns c = rw (c.deed_of-deed.ensures, c.rows_in-rows.ensures, c.key_in-key.ensures, c.value_in-value.ensures) at c.act.ensures
