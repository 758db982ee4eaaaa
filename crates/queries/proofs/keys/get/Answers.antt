-- `queries::keys::get` meets its contract. Assumes nothing.
use Rattle.rules.specs.Causes.{Ok}
use mathlib.Core.Path.{◌∙◌, sym, ap}
use Rattle.std.proofs.lemmas.Result.{err_from_is_err_and}
use Rattle.queries.specs.PlaceLaws.{asked-absent, asked_at}
use Rattle.queries.proofs.keys.get.Goals as goal

pub returns-in_err-place_of : goal.returns-in_err-place_of
returns-in_err-place_of c =
    let q = err_from_is_err_and c.from_residual.result c.from_residual.ensures.1 in rw (q.1, q.2, ← c.area.view_is) (asked-absent _ _ _ _ _ _ (c.place_of.ensures.stands _ c.area.invariant) c.in_err-place_of.was)

pub get_at-requires-clause-wf : goal.get_at-requires-clause-wf
get_at-requires-clause-wf c = ((c.place_of.ensures.stands _ c.area.invariant).at _ c.in_ok-place_of.was).wf

pub returns : goal.returns
returns c = rw (← c.area.view_is) (ap Ok c.get_at.ensures ∙ sym (asked_at _ _ _ _ _ ((c.place_of.ensures.stands _ c.area.invariant).at _ c.in_ok-place_of.was)))
