-- `waiting::forms::write_form` meets its contract. Assumes nothing.
use Rattle.waiting.proofs.Forming.{wrote_form}
use Rattle.log_batch.specs.Batch.{items_in}
use Rattle.room.specs.Batches.{unmarked}
use Rattle.waiting.proofs.forms.write_form.Goals as goal

pub returns : goal.returns
returns c =
    let its = unmarked (items_in c.args.replay.now.batch) in
    wrote_form c.args.cells c.args.ws.now c.args.vs.now c.requires.room_wf c.args.form c.args.group c.args.k c.args.new c.requires.form_at its _ c.form_tag-tag.ensures _ _ c.free_items-left.ensures _ _ _ c.form_head-head.ensures c.write_part.ensures
