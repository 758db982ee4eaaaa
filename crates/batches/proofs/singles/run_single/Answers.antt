-- `batches::singles::run_single` meets its contract. Assumes nothing.
use Rattle.log_batch.specs.Judged.{call_of}
use Rattle.batches.specs.OwnLaws.{keeping-table}
use Rattle.batches.specs.CarryLaws.{does-ready}
use Rattle.batches.specs.SingleLaws.{single-ready, single-answer, alone}
use Rattle.batches.proofs.singles.run_single.Goals as goal

pub deed_of-deed-requires : goal.deed_of-deed-requires
deed_of-deed-requires c = (single-ready c.args.call c.args.item _ _ _ c.requires.single).lent_is.within

pub rows_in-rows-requires : goal.rows_in-rows-requires
rows_in-rows-requires c = (single-ready c.args.call c.args.item _ _ _ c.requires.single).lent_is.within.rows

pub key_in-key-requires : goal.key_in-key-requires
key_in-key-requires c = (single-ready c.args.call c.args.item _ _ _ c.requires.single).lent_is.within.places

pub value_in-value-requires : goal.value_in-value-requires
value_in-value-requires c = (single-ready c.args.call c.args.item _ _ _ c.requires.single).lent_is.within.places

pub act_alone-requires : goal.act_alone-requires
act_alone-requires c =
    let batch = c.args.batch.now in
    let ready = single-ready c.args.call c.args.item batch.items.now batch.entries.now batch.bytes.now c.requires.single in
    record { wf = c.requires.formed.groups; deed_ready = rw (c.deed_of-deed.ensures, c.rows_in-rows.ensures, c.key_in-key.ensures, c.value_in-value.ensures) (does-ready c.args.call c.args.item batch.entries.now batch.bytes.now ready _ (keeping-table (call_of c.args.call) c.args.xs.now c.args.bs.now c.requires.keeping _)) }

pub returns : goal.returns
returns c =
    let batch = c.args.batch.now in
    let ready = single-ready c.args.call c.args.item batch.items.now batch.entries.now batch.bytes.now c.requires.single in
    let acted = rw (c.deed_of-deed.ensures, c.rows_in-rows.ensures, c.key_in-key.ensures, c.value_in-value.ensures) at c.act_alone.ensures in
    rw c.told.ensures (single-answer c.args.call c.args.item batch.items.now batch.entries.now batch.bytes.now c.args.xs.now c.args.bs.now _ _ c.requires.single _ (alone c.args.call c.args.item batch.entries.now batch.bytes.now ready c.requires.single.adds c.args.xs.now c.args.bs.now c.requires.formed _ _ _ acted))
