-- `batches::batches::turn` meets its contract. Assumes nothing.
use mathlib.Core.Path.{sym, ◌∙◌}
use Rattle.log_batch.specs.OpenLaws.{item-opened}
use Rattle.log_batch.specs.Judged.{call_of}
use Rattle.batches.specs.BatchLaws.{opened-ready, opened-never}
use Rattle.batches.proofs.batches.turn.Goals as goal

pub returns-in_default : goal.returns-in_default
returns-in_default c =
    let batch = c.args.batch.now in
    opened-never (call_of c.args.call) batch.items.now batch.entries.now batch.bytes.now c.args.i _ c.requires.passed c.requires.i_bound (sym c.open_item-opened.ensures.value ∙ c.in_default.is)

pub carry_out-requires : goal.carry_out-requires
carry_out-requires c =
    let batch = c.args.batch.now in
    record { formed = c.requires.formed; undoable = c.requires.undoable; item_ready = opened-ready (call_of c.args.call) batch.items.now batch.entries.now batch.bytes.now c.args.i _ c.requires.passed c.requires.i_bound (sym c.open_item-opened.ensures.value ∙ c.in-Ok.is); keeping = c.requires.keeping }

pub returns : goal.returns
returns c =
    let batch = c.args.batch.now in
    rw (item-opened batch.entries.now batch.bytes.now _ _ (sym c.open_item-opened.ensures.value ∙ c.in-Ok.is)) c.carry_out.ensures
