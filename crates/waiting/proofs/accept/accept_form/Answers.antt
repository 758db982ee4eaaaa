-- `waiting::accept::accept_form` meets its contract. Assumes nothing.
use Rattle.room.specs.LimitLaws.{room-few}
use Rattle.room.specs.Batches.{unmarked}
use Rattle.waiting.proofs.Accepting.{rows-counted, judged_form, form-passes, form-fits, form_waited}
use Rattle.waiting.proofs.Forming.{form-inside}
use Rattle.log_batch.specs.Batch.{items_in}
use native.Mathlib.Omega.{arith}
use mathlib.Core.Path.{refl, sym, ◌∙◌}
use Rattle.waiting.proofs.accept.accept_form.Goals as goal

pub counts_left-left-requires-clause-ws_len : goal.counts_left-left-requires-clause-ws_len
counts_left-left-requires-clause-ws_len c =
    let rows = rows-counted c.args.ws.now c.args.vs.now c.requires.context_room in (c.requires.context_room.room.numbers-are, form-inside c.args.form c.args.group 16 _ c.args.k c.args.new c.requires.form_at, rows.0)

pub counts_left-left-requires-clause-ws_value : goal.counts_left-left-requires-clause-ws_value
counts_left-left-requires-clause-ws_value c =
    let rows = rows-counted c.args.ws.now c.args.vs.now c.requires.context_room in rows.1

pub within_limits-requires : goal.within_limits-requires
within_limits-requires c =
    let few = room-few c.args.ws.now c.args.vs.now c.requires.context_room in
    let few0 = few.0 in
    let few1 = few.1 in
    let left = c.counts_left-left.ensures.result_bound in
    let left0 = left.0 in
    let left1 = left.1 in
    let more = c.count_batch-more.ensures.result_bound in
    (omega arith, omega arith, more.0, more.1)

pub returns-then-not-within_limits : goal.returns-then-not-within_limits
returns-then-not-within_limits c =
    let its = unmarked (items_in c.args.replay.now.batch) in
    let fit = judged_form c.args.ws.now c.args.vs.now c.requires.context_room c.args.group c.args.k c.args.new its c.args.form c.requires.form_at _ _ _ c.groups_with-groups.ensures c.counts_left-left.ensures.keeps c.count_batch-more.ensures.value ∙ sym c.within_limits.ensures in
    (form-passes c.args.ws.now c.args.vs.now c.requires.context_room c.args.group c.args.k c.args.new its c.args.form c.requires.form_at (fit ∙ c.if-not-within_limits.true), refl, refl)

pub write_form-requires-clause-vs_bound : goal.write_form-requires-clause-vs_bound
write_form-requires-clause-vs_bound c =
    let its = unmarked (items_in c.args.replay.now.batch) in
    let fit = judged_form c.args.ws.now c.args.vs.now c.requires.context_room c.args.group c.args.k c.args.new its c.args.form c.requires.form_at _ _ _ c.groups_with-groups.ensures c.counts_left-left.ensures.keeps c.count_batch-more.ensures.value ∙ sym c.within_limits.ensures in form-fits c.args.ws.now c.args.vs.now c.requires.context_room c.args.group c.args.k c.args.new its c.args.form c.requires.form_at (fit ∙ c.if-not-within_limits.false)

pub returns : goal.returns
returns c =
    let its = unmarked (items_in c.args.replay.now.batch) in
    let fit = judged_form c.args.ws.now c.args.vs.now c.requires.context_room c.args.group c.args.k c.args.new its c.args.form c.requires.form_at _ _ _ c.groups_with-groups.ensures c.counts_left-left.ensures.keeps c.count_batch-more.ensures.value ∙ sym c.within_limits.ensures in
    form_waited c.args.ws.now c.args.vs.now c.requires.context_room c.args.group c.args.k c.args.new its c.args.form c.requires.form_at (fit ∙ c.if-not-within_limits.false) _ _ c.write_form.auto.ws c.write_form.auto.vs c.write_form.ensures
