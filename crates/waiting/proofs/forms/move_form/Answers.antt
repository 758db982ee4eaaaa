-- `waiting::forms::move_form` meets its contract. Assumes nothing.
use Rattle.waiting.proofs.Forming.{wrote_form}
use Rattle.waiting.proofs.forms.move_form.Goals as goal

pub returns : goal.returns
returns c =
    let items = c.args.its.now in
    wrote_form 16 c.args.ws.now c.args.vs.now c.requires.room_wf c.args.form c.args.group c.args.k c.args.new c.requires.form_at items _ c.form_tag-tag.ensures _ _ c.free_items-left.ensures _ _ _ c.form_head-head.ensures c.move_part.ensures
