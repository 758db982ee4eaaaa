-- `merging::calls::finish` meets its contract. Assumes nothing.
use mathlib.Core.Path.{sym, ◌∙◌}
use Rattle.contexts.specs.AreaLaws.{formed_of, area-length}
use Rattle.staging.specs.ModeLaws.{worked-answer}
use Rattle.merging.proofs.EndWays.{few-counts, rest-fits}
use Rattle.merging.proofs.FinishWays.{finish-clashed, finish-passed, finish-over, finish-taken}
use Rattle.merging.proofs.calls.finish.Goals as goal
use Rattle.merging.proofs.calls.finish.Goals.{then-flags-2-via-then-flags-2, then-flags-2-via-else-flags-2+then-not-lists_fit}

pub returns-then-flags : goal.returns-then-flags
returns-then-flags c = rw (c.into.ensures, c.clash_of.ensures) (finish-clashed _ _ _ _ _ _ c.requires.plain.given.wf (worked-answer _ _ _ _ _ _ c.requires.plain c.requires.worked) c.if-flags.true)

pub lists_fit-requires : goal.lists_fit-requires
lists_fit-requires c =
    let older = c.requires.plain.given.wf in
    let newer = c.requires.plain.given.newer-wf in
    record { few = (few-counts _ _ older, few-counts _ _ newer); xs_len = (area-length _ _ (formed_of _ _ older), area-length _ _ (formed_of _ _ newer)) }

pub returns-then-flags-2 : goal.returns-then-flags-2
returns-then-flags-2 c =
    let answer = worked-answer _ _ _ _ _ _ c.requires.plain c.requires.worked in
    rw c.into-then-flags-2.ensures
    (elim c.then-flags-2.branch [
      | then-flags-2-via-then-flags-2 w ↦ finish-passed _ _ _ _ _ _ c.requires.plain.given.wf answer c.if-flags.false w.if-flags-2.true
      | then-flags-2-via-else-flags-2+then-not-lists_fit w ↦ finish-over _ _ _ _ _ _ c.requires.plain.given.wf answer c.if-flags.false (rest-fits _ _ _ _ _ c.requires.plain ∙ sym w.lists_fit.ensures ∙ w.if-not-lists_fit.true)
    ])

pub returns : goal.returns
returns c =
    finish-taken _ _ _ _ _ _ c.requires.plain.given.wf (worked-answer _ _ _ _ _ _ c.requires.plain c.requires.worked) c.if-flags.false c.if-flags-2.false (rest-fits _ _ _ _ _ c.requires.plain ∙ sym c.lists_fit.ensures ∙ c.if-not-lists_fit.false) _ _ c.take_staged.ensures
