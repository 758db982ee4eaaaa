-- `waiting::merge::join_form` meets its contract. Assumes nothing.
use Rattle.waiting.proofs.Merging.{rows_for}
use Rattle.waiting.proofs.merge.join_form.Goals as goal

pub move_form-requires-clause-vs_bound : goal.move_form-requires-clause-vs_bound
move_form-requires-clause-vs_bound c =
    rows_for c.args.ws.now c.args.vs.now c.requires.room_wf c.args.group c.args.k c.args.new c.args.its.now c.args.form c.requires.form_at c.requires.room_for
