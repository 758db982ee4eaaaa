-- `merging::waits::end_waiting` meets its contract. Assumes nothing.
use mathlib.Core.Path.{sym, ◌∙◌}
use Rattle.staging.specs.Modes.{clash_by}
use Rattle.rules.specs.Calls.{clash}
use Rattle.staging.specs.ModeLaws.{waits-answer}
use Rattle.merging.proofs.FinishWays.{finish-clashed, finish-passed, finish-over, finish-taken}
use Rattle.merging.proofs.waits.end_waiting.Goals as goal
use Rattle.merging.proofs.waits.end_waiting.Goals.{then-flags-2-via-then-flags-2, then-flags-2-via-else-flags-2+then-not-rest_fits}

pub returns-then-flags : goal.returns-then-flags
unfolding clash_by clash
returns-then-flags c = rw c.into.ensures (finish-clashed _ _ _ _ _ _ c.requires.given.wf (waits-answer _ _ _ _ _ c.requires.given c.requires.worked _ c.requires.bs_value) c.if-flags.true)

pub returns-then-flags-2 : goal.returns-then-flags-2
returns-then-flags-2 c =
    let answer = waits-answer _ _ _ _ _ c.requires.given c.requires.worked _ c.requires.bs_value in
    rw c.into-then-flags-2.ensures
    (elim c.then-flags-2.branch [
      | then-flags-2-via-then-flags-2 w ↦ finish-passed _ _ _ _ _ _ c.requires.given.wf answer c.if-flags.false w.if-flags-2.true
      | then-flags-2-via-else-flags-2+then-not-rest_fits w ↦ finish-over _ _ _ _ _ _ c.requires.given.wf answer c.if-flags.false (sym (w.rest_fits.ensures c.args.vs.now c.requires.room_wf) ∙ w.if-not-rest_fits.true)
    ])

pub returns : goal.returns
returns c =
    finish-taken _ _ _ _ _ _ c.requires.given.wf (waits-answer _ _ _ _ _ c.requires.given c.requires.worked _ c.requires.bs_value) c.if-flags.false c.if-flags-2.false (sym (c.rest_fits.ensures c.args.vs.now c.requires.room_wf) ∙ c.if-not-rest_fits.false) _ _ c.take_waiting.ensures
