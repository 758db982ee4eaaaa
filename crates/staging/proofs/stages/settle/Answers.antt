-- `staging::stages::settle` meets its contract. Assumes nothing.
use mathlib.Core.Path.{sym, ◌∙◌}
use Rattle.staging.proofs.StageWays.{lent-used, settle-clashed, settle-none, settle-done, settle-full}
use Rattle.staging.proofs.stages.settle.Goals as goal

pub returns-then-is_err : goal.returns-then-is_err
returns-then-is_err c = λ at d. settle-clashed at _ _ _ _ c.requires.ready _ c.requires.found c.requires.not_staged _ (sym c.is_err.ensures.value ∙ c.if-is_err.true) d

pub returns-then-not-is_there : goal.returns-then-not-is_there
returns-then-not-is_there c = λ at d. settle-none at _ _ _ _ c.requires.ready _ c.requires.found c.requires.not_staged _ (sym c.is_err.ensures.value ∙ c.if-is_err.false) d (sym (lent-used c.args.xs.now _ c.is_there.ensures) ∙ c.if-not-is_there.true)

pub put_at-requires : goal.put_at-requires
put_at-requires c = record { ready = c.requires.ready; found = rw c.in-Free.is at c.requires.found; xs_len = c.requires.xs_len; wf = (c.requires.wf, sym (lent-used c.args.xs.now _ c.is_there.ensures) ∙ c.if-not-is_there.false) }

pub returns-in-Free : goal.returns-in-Free
returns-in-Free c = λ at d. c.put_at.ensures at (settle-done at _ c.args.flags _ _ c.requires.ready _ c.requires.found c.requires.not_staged _ (sym c.is_err.ensures.value ∙ c.if-is_err.false) d)

pub returns-in-At : goal.returns-in-At
returns-in-At c = λ at d. settle-full at _ _ _ _ c.requires.ready _ c.requires.found c.requires.not_staged _ (sym c.is_err.ensures.value ∙ c.if-is_err.false) d c.in-At.is (sym (lent-used c.args.xs.now _ c.is_there.ensures) ∙ c.if-not-is_there.false)
